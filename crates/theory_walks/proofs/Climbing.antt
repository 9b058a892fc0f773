-- The climb over the bytes of a tree's pages gives the pages above a leaf. Assumes nothing.
use Rattle.std.proofs.Common.{Ok}
use mathlib.Core.Path.{◌≡◌, refl, sym, ap, ◌∙◌, subst}
use mathlib.Core.List.Memᴰ
use mathlib.Core.List.{List, [], ◌∷◌, ◌++◌, Memᴰ}
use mathlib.Core.Bool.{Bool, true, false}
use Prim.Native.Nat.{ℕ, zero, suc, ◌+◌, ◌≤◌, ◌<◌}
use native.Mathlib.Omega.{arith}
use lib.Dec.{eqb}
use lib.ListN.{length, length-map}
use borrow.Author.Tests.{eq-eqb, ne_eqb}
use Rattle.store.specs.Pick.{pick}
use Rattle.page.specs.Page.{page}
use Rattle.page.specs.Header.{parent_of, cell_count}
use Rattle.inner.specs.Inner.{children_from}
use Rattle.inner.specs.Route.{first_where, child_place}
use Rattle.leaf.specs.Rows.{Row}
use Rattle.tree.specs.Climb.{above_of, up, climb_of}
use Rattle.theory_tree.specs.Pages.{inner_page}
use Rattle.theory_tree.specs.View.{view}
use Rattle.theory_tree.specs.Shape.{Shape, leaf, node, pair, pages_in, head, rest, Holds, Deep, All, NoneTwice, Bounded, IsTree, WellFormed}
use Rattle.tree.proofs.Climbing.{above_page}
use Rattle.theory_tree.proofs.Workers.{roots}
use Rattle.theory_tree.proofs.Contexts.{Ctx, top, in_l, in_r, under, plug, pre_g, post_g, lo_c, hi_c, par_c, nxt_c, high}
use Rattle.theory_tree.proofs.Entries.{path}
use Rattle.theory_tree.proofs.Lists.{all_left, all_right, all_map}
use Rattle.theory_tree.proofs.Frame.{roots_all}
use Rattle.theory_tree.proofs.Zip.{plug_pages, unplug_bnd, unplug_rep}
use Rattle.theory_tree.proofs.Enter.{roots_is, mem_all}
use Rattle.theory_tree.proofs.Leaf.{unplug_lvl}
use Rattle.theory_walks.proofs.Paging.{leaf_at, inner_at, children_of_lem, count_of, judged_inner_of, seps_rise}

-- a child that is held has a place
place_in_lem : (p : ℕ) (l : List ℕ) → Memᴰ p l → child_place p l < length l
unfolding first_where
place_in_lem p [] m = elim m [ ]
place_in_lem p (x ∷ l) (Memᴰ.head e) = rw (eq-eqb x p (sym e)) (omega arith)
place_in_lem p (x ∷ l) (Memᴰ.tail m) = by_here (eqb x p) (place_in_lem p l m)
  where
    by_here : (b : Bool) → first_where (λ c. eqb c p) l < length l → pick b 0 (suc (first_where (λ c. eqb c p) l)) < suc (length l)
    by_here true h = omega arith
    by_here false h = omega arith

-- no page above: the hole is the whole tree
alone : (c : Ctx) (x : Shape) → high c ≡ 0 → IsTree (plug c x) → plug c x ≡ x
alone top x e i = refl
alone (in_l k b c) x e i = absurd (subst IsTree (alone c (pair x k b) e i) i)
alone (in_r a k c) x e i = absurd (subst IsTree (alone c (pair a k x) e i) i)
alone (under p c) x e i = absurd (omega arith)

-- the root is none of the pages below a page
pub not_root : (c : Ctx) (x : Shape) → 1 ≤ high c → IsTree (plug c x) → NoneTwice (pages_in (plug c x)) → All (λ p. p ≡ head (plug c x) → ⊥) (pages_in x)
not_root top x l i d = absurd (omega arith)
not_root (in_l k b c) x l i d = all_left (λ p. p ≡ head (plug c (pair x k b)) → ⊥) (pages_in x) (pages_in b) (not_root c (pair x k b) l i d)
not_root (in_r a k c) x l i d = all_right (λ p. p ≡ head (plug c (pair a k x)) → ⊥) (pages_in a) (pages_in x) (not_root c (pair a k x) l i d)
not_root (under q c) x l i d = by_high (high c) refl (not_root c (node q x))
  where
    by_high : (n : ℕ) → high c ≡ n
        → (1 ≤ high c → IsTree (plug c (node q x)) → NoneTwice (pages_in (plug c (node q x))) → All (λ p. p ≡ head (plug c (node q x)) → ⊥) (q ∷ pages_in x))
        → All (λ p. p ≡ head (plug c (node q x)) → ⊥) (pages_in x)
    by_high zero e ih =
        let w : plug c (node q x) ≡ node q x = alone c (node q x) e i in
        let n : NoneTwice (q ∷ pages_in x) = subst (λ (y : Shape). NoneTwice (pages_in y)) w d in
        all_map (λ p. q ≡ p → ⊥) (λ p. p ≡ head (plug c (node q x)) → ⊥) (λ p g z. g (sym (z ∙ ap head w))) (pages_in x) n.0
    by_high (suc n) e ih = (ih (omega arith) i d).1

module _ (s : List ℕ) (used : ℕ) where
  -- the page above
  above_is : (p q par j : ℕ) (x : Shape) (lo hi : ℕ) → view s q ≡ inner_page par j (head x) (rest x) → Bounded lo hi x → q < used
      → parent_of (page s p) ≡ q → Memᴰ p (roots x) → above_of s used p ≡ Ok q
  above_is p q par j x lo hi v b u e m =
      let a = judged_inner_of s q par j (head x) (rest x) v (seps_rise lo hi x b) in
      let n : cell_count (page s q) ≡ length (rest x) = count_of s q par j (head x) (rest x) v in
      let k : children_from (page s q) 0 (length (rest x) + 1) ≡ roots x = rw n at (children_of_lem s q par j (head x) (rest x) v) ∙ sym (roots_is x) in
      let len : length (roots x) ≡ suc (length (rest x)) = ap length (roots_is x) ∙ ap suc (length-map (rest x) (λ (y : ℕ × ℕ). y.1)) in
      let l : child_place p (roots x) < length (roots x) = place_in_lem p (roots x) m in
      sym (above_page used p s refl (sym e) u refl refl a (ap (child_place p) (sym k)) (omega arith))

  root_way_lem : (m r p : ℕ) → p ≡ r → parent_of (page s p) ≡ 0 → climb_of s used r p m ≡ up (p ∷ [])
  unfolding climb_of
  root_way_lem zero r p w e = rw (eq-eqb p r w, eq-eqb (parent_of (page s p)) 0 e)
  root_way_lem (suc m) r p w e = rw (eq-eqb p r w, eq-eqb (parent_of (page s p)) 0 e)

  way_up : (m root p q : ℕ) (qs : List ℕ) → (p ≡ root → ⊥) → above_of s used p ≡ Ok q → climb_of s used root q m ≡ up (q ∷ qs)
      → climb_of s used root p (suc m) ≡ up (p ∷ q ∷ qs)
  unfolding climb_of
  way_up m root p q qs z w ih = rw (ne_eqb p root z, w, ih)

  climb-run : (c : Ctx) (x : Shape) (m p : ℕ) → high c ≤ m → Holds (view s) 0 0 (plug c x) → IsTree (plug c x) → NoneTwice (pages_in (plug c x))
      → All (λ q. q < used) (pages_in (plug c x)) → (hi : ℕ) → Bounded 0 hi (plug c x) → Memᴰ p (roots x) → parent_of (page s p) ≡ par_c 0 c
      → climb_of s used (head (plug c x)) p m ≡ up (p ∷ path c)
  climb-run top x m p l h i d u hi b k e = at_root_lem x i k m
    where
      at_root_lem : (x : Shape) → IsTree x → Memᴰ p (roots x) → (m : ℕ) → climb_of s used (head x) p m ≡ up (p ∷ [])
      at_root_lem (leaf r rs) i k m = root_way_lem m r p (Memᴰ.eq_of_singleton k) e
      at_root_lem (node r f) i k m = root_way_lem m r p (Memᴰ.eq_of_singleton k) e
      at_root_lem (pair a n g) i k m = absurd i
  climb-run (in_l n g c) x m p l h i d u hi b k e = climb-run c (pair x n g) m p l h i d u hi b (Memᴰ.append_left (roots g) k) e
  climb-run (in_r a n c) x m p l h i d u hi b k e = climb-run c (pair a n x) m p l h i d u hi b (Memᴰ.append_right (roots a) k) e
  climb-run (under q c) x zero p l h i d u hi b k e = absurd (omega arith)
  climb-run (under q c) x (suc m) p l h i d u hi b k e =
      let g = (unplug_rep (view s) 0 0 c (node q x) h).1 in
      let bx = (unplug_bnd 0 hi c (node q x) b).1 in
      let a : All (λ r. r < used) (pre_g c ++ (q ∷ (pages_in x ++ post_g c))) = rw (← plug_pages c (node q x)) u in
      let qu : q < used = (all_right (λ r. r < used) (pre_g c) (q ∷ (pages_in x ++ post_g c)) a).0 in
      let nr : p ≡ head (plug c (node q x)) → ⊥ =
      mem_all (λ r. r ≡ head (plug c (node q x)) → ⊥) p (roots x) k (roots_all (λ r. r ≡ head (plug c (node q x)) → ⊥) x (not_root (under q c) x (omega arith) i d)) in
      way_up m (head (plug c (node q x))) p q (path c) nr (above_is p q (par_c 0 c) g.0 x (lo_c 0 c) (hi_c hi c) g.1 bx qu e k)
      (climb-run c (node q x) m q (omega arith) h i d u hi b (Memᴰ.head refl) (inner_at s q (par_c 0 c) g.0 (head x) (rest x) g.1).parent)

-- from a leaf of a tree
pub climb-leaf : (s : List ℕ) (root used : ℕ) (t : Shape) → WellFormed (view s) root used t → (c : Ctx) (p : ℕ) (rs : List Row) → t ≡ plug c (leaf p rs)
    → climb_of s used root p 3 ≡ up (p ∷ path c)
climb-leaf s root used t f c p rs e =
    let h : Holds (view s) 0 0 (plug c (leaf p rs)) = subst (Holds (view s) 0 0) e f.rep in
    let v = (unplug_rep (view s) 0 0 c (leaf p rs) h).1 in
    let d = unplug_lvl f.level.0 c (leaf p rs) (subst (Deep f.level.0) e f.level.2) in
    let n = d.1 in
    let n' = f.level.1 in
    let r : head (plug c (leaf p rs)) ≡ root = sym (ap head e) ∙ f.root_is in
    rw r at
    (climb-run s used c (leaf p rs) 3 p (omega arith) h (subst IsTree e f.tree) (subst (λ (x : Shape). NoneTwice (pages_in x)) e f.distinct)
    (subst (λ (x : Shape). All (λ q. q < used) (pages_in x)) e f.below) 4294967295 (subst (Bounded 0 4294967295) e f.bounds) (Memᴰ.head refl)
    (leaf_at s p (par_c 0 c) (nxt_c 0 c) rs v).parent)
