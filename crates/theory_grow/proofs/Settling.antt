-- A leaf divides, its right side is entered above, and a root other than 0 keeps its number: the tree stays well-formed.
-- Assumes nothing.
use Rattle.row.specs.declared.CellFault.{CellFault}
use Rattle.std.proofs.Common.{Result, Ok, Err}
use Rattle.row.specs.declared.Cell.{Cell}
use mathlib.Core.Path.{◌≡◌, refl, sym, ap, ◌∙◌, subst}
use mathlib.Core.Bool.{Bool, true, false}
use mathlib.Core.List.{List, [], ◌∷◌, ◌++◌, map}
use mathlib.Core.Logic.{◌⊎◌, inl, inr}
use Prim.Native.Nat.{ℕ, zero, suc, ◌+◌, ◌*◌, ◌≤◌, ◌<◌}
use native.Mathlib.Nat.{add-zero}
use native.Mathlib.Numerals.{add-one}
use native.Mathlib.Omega.{arith}
use borrow.Author.Tests.{eqb-true, eqb-false}
use lib.Dec.{eqb}
use lib.ListN.{length}
use Rattle.store.specs.Le.{AreBytes}
use Rattle.store.specs.Part.{part, zeros}
use Rattle.store.specs.Pick.{pick}
use Rattle.page.specs.Key.{rank_at}
use Rattle.page.specs.Page.{page}
use Rattle.page.specs.Pool.{next_page, allocated, with_fresh, Grown, grown}
use Rattle.page.specs.declared.pool.State.{State}
use Rattle.row.specs.Read.{cell_at}
use Rattle.leaf.specs.Cells.{on_cell, cells_of}
use Rattle.leaf.specs.Rows.{Row, AllFit, row_of, rows_of, rows_bytes}
use Rattle.tree.specs.Climb.{path_of}
use Rattle.tree_grow.specs.Grow.{enter_of, pin_of, kept_root, settled}
use Rattle.tree_grow.specs.Steps.Safe.{There}
use Rattle.tree_room.specs.Up.{divided_up}
use Rattle.tree_room.specs.declared.Planned.{Planned}
use Rattle.theory_tree.specs.Pages.{Page, leaf_page, inner_page, no_page, Pages, with_page}
use Rattle.theory_tree.specs.Shape.{Shape, leaf, node, pair, chain, pages_in, head, first, Holds, All, KeysIn, Sorted, IsTree, WellFormed}
use Rattle.theory_tree.specs.View.{view}
use Rattle.page.proofs.KeyLaws.{flip_less}
use Rattle.row.proofs.Exact.{cell_fields}
use Rattle.tree_grow.proofs.Stepping.{fresh_long, fresh_here, fresh_other}
use Rattle.tree_room.proofs.Rooming.{path_above}
use Rattle.theory_tree.proofs.Contexts.{top_key, Ctx, plug, pre_c, post_c, pre_g, post_g, lo_c, hi_c, par_c, nxt_c, high, Grown as Raised, up}
use Rattle.theory_tree.proofs.Cuts.{up-chain}
use Rattle.theory_tree.proofs.Enter.{Entry, roots_is}
use Rattle.theory_tree.proofs.Entries.{next_of, path}
use Rattle.theory_tree.proofs.Frame.{with_page-same, with_page-other, roots_all}
use Rattle.theory_tree.proofs.Leaf.{leaf_pool, entry_leaf, cut_wf}
use Rattle.theory_tree.proofs.Links.{set_swap, link_new, set_twice}
use Rattle.theory_tree.proofs.Lists.{all_left, all_right, all_map}
use Rattle.theory_tree.proofs.Pin.{under?, pinned, tree_pages}
use Rattle.theory_tree.proofs.Says.{leaf_says}
use Rattle.theory_tree.proofs.Topped.{Topped, leaf-topped, up_root, topped-page, pin_topped}
use Rattle.theory_tree.proofs.Workers.{roots}
use Rattle.theory_tree.proofs.Zip.{plug_pages, unplug_rep}
use Rattle.theory_stores.proofs.Keeping.{bytes-zeros, bytes-set-page}
use Rattle.theory_stores.proofs.Viewing.{view-page, view_fresh}
use Rattle.theory_stores.proofs.Rowing.{cut_after, divided_rows, divided-long, view-divided, bytes-divided}
use Rattle.theory_stores.proofs.Stepping.{view_pin, pinned_length, pinned_bytes}
use Rattle.theory_grow.proofs.Growing.{Grew, up_more, tied, enter_holds}

-- ---- the first key of a leaf

-- the first row's key, where there is one
abbrev key_first : List Row → ℕ
key_first [] = 0
key_first (x ∷ xs) = x.key

first_from : (n at : ℕ) (pg : List ℕ) (z : Row) (rs : List Row) → rows_of pg n at ≡ z ∷ rs → rank_at pg at ≡ z.key
unfolding cells_of
first_from zero at pg z rs e = absurd (let q : ◌≡◌ {A = ℕ} 0 (suc (length rs)) = ap (λ (l : List Row). length l) e in omega arith)
first_from (suc n) at pg z rs e = by_read (cell_at pg at) refl e
  where
    by_read : (r : Result Cell CellFault) → cell_at pg at ≡ r → map (row_of pg) (on_cell (λ c. c ∷ cells_of pg n c.next) (λ kind. []) r) ≡ z ∷ rs → rank_at pg at ≡ z.key
    by_read (Err kind) h q = absurd (let d : ◌≡◌ {A = ℕ} 0 (suc (length rs)) = ap (λ (l : List Row). length l) q in omega arith)
    by_read (Ok c) h q = sym (cell_fields pg at c h).key-is ∙ ap key_first q

-- ---- the page at the head of a tree that a pool holds

held_head : (w : Pages) (par nxt u : ℕ) (t : Shape) → IsTree t → Holds w par nxt t → All (λ q. q < u) (pages_in t)
    → (w (head t) ≡ no_page → ⊥) × All (λ q. q < u) (under? (w (head t)))
held_head w par nxt u (leaf p rs) t h b = ((λ e. let z : ◌≡◌ {A = ℕ} 0 1 = cc in omega arith), rw h tt)
held_head w par nxt u (node p f) t h b =
    let e : roots f ≡ under? (w p) = roots_is f ∙ ap under? (sym h.1) in
    ((λ e. let z : ◌≡◌ {A = ℕ} 0 1 = cc in omega arith), subst (λ (l : List ℕ). All (λ q. q < u) l) e (roots_all (λ q. q < u) f b.1))
held_head w par nxt u (pair a k b) t h l = absurd t

-- ---- all of it

-- the pages in use at the end: one more where a root other than 0 is relocated
abbrev pub used_after : (root : ℕ) → Raised → ℕ
used_after root y = y.used + pick (eqb root 0) 0 y.grew

-- h is the pool s with a well-formed tree of these rows and so many pages in use; a root other than 0 is still the root
pub record Settled (s : List ℕ) (root used : ℕ) (chained : List Row) (h : Grown) : Type 0 where
  pub shape : Shape
  pub formed : WellFormed (view h.pool) h.state.root h.state.used shape
  pub chain-is : chain shape ≡ chained
  pub bytes : AreBytes h.pool
  pub long : length h.pool ≡ length s
  pub used-is : h.state.used ≡ used
  pub root_is : (root ≡ 0 → ⊥) → h.state.root ≡ root

kept_zero : (root : ℕ) (g : Grown) → eqb root 0 ≡ true → kept_root root g ≡ g
unfolding kept_root
kept_zero root g e = rw e

kept_same : (root : ℕ) (g : Grown) → eqb root 0 ≡ false → eqb g.state.root root ≡ true → kept_root root g ≡ g
unfolding kept_root
kept_same root g e f = rw (e, f)

kept_pinned : (root : ℕ) (g : Grown) → eqb root 0 ≡ false → eqb g.state.root root ≡ false → kept_root root g ≡ pin_of root g
unfolding kept_root
kept_pinned root g e f = rw (e, f)

pinned_root : (fixed : ℕ) (g : Grown) → (pin_of fixed g).state.root ≡ fixed
unfolding pin_of
pinned_root fixed g = refl

pinned_used : (fixed : ℕ) (g : Grown) → (pin_of fixed g).state.used ≡ suc g.state.used
unfolding pin_of allocated
pinned_used fixed g = add-one g.state.used

-- a tree that grew a level, pinned to the page of its old root
module _ (g : Grown) (r : ℕ) (y : Raised) (f : WellFormed (view g.pool) g.state.root g.state.used y.shape) (tops : Topped y r)
    (B : AreBytes g.pool) (few : suc g.state.used ≤ 65536) (room : suc g.state.used * 4096 ≤ length g.pool) where
  abbrev w : Pages
  w = view g.pool

  abbrev u : ℕ
  u = g.state.used

  abbrev a : Shape
  a = tops.two.a

  abbrev b : Shape
  b = tops.two.b

  abbrev k : ℕ
  k = tops.two.k

  whole : y.shape ≡ node tops.m (pair a k b)
  whole = tops.is ∙ ap (λ (s : Shape). node tops.m s) tops.two.is

  below : All (λ q. q < u) (pages_in a ++ pages_in b)
  below = (subst (λ (s : Shape). All (λ q. q < u) (pages_in s)) whole f.below).1

  below_a : All (λ q. q < u) (pages_in a)
  below_a = all_left (λ q. q < u) (pages_in a) (pages_in b) below

  held : Holds w tops.m (first b) a
  held = (subst (λ (s : Shape). Holds w 0 0 s) whole f.rep).2.0

  low_a : head a < u
  low_a = (subst (λ (l : List ℕ). All (λ q. q < u) l) (tree_pages a tops.two.left-tree) below_a).0

  low_b : head b < u
  low_b = (subst (λ (l : List ℕ). All (λ q. q < u) l) (tree_pages b tops.two.right-tree) (all_right (λ q. q < u) (pages_in a) (pages_in b) below)).0

  low_r : r < u
  low_r = subst (λ (q : ℕ). q < u) tops.two.heads low_a

  old : (w r ≡ no_page → ⊥) × All (λ q. q < u) (under? (w r))
  old =
      subst (λ (q : ℕ). (w q ≡ no_page → ⊥) × All (λ x. x < u) (under? (w q))) tops.two.heads
      (held_head w tops.m (first b) u a tops.two.left-tree held below_a)

  there : (q : ℕ) → q < u → There q g.pool
  there q h = omega arith

  here : There u g.pool
  here = omega arith

  kids_there : All (λ q. There q g.pool) (under? (w r))
  kids_there = all_map (λ q. q < u) (λ q. There q g.pool) there (under? (w r)) old.1

  new_top : (i : ℕ) × (w g.state.root ≡ inner_page 0 i r ((k, head b) ∷ []))
  new_top = topped-page w g.state.root u r y f tops

  abbrev h : Grown
  h = pin_of r g

  view-is : view h.pool ≡ pinned w r (next_of (w r)) u k (head b)
  view-is = view_pin r k (head b) g 0 new_top.0 r [] B (few, here) low_r new_top.1 (there (head b) low_b) old.0 kids_there

  pin_settles : (s : List ℕ) (chained : List Row) → length g.pool ≡ length s → chain y.shape ≡ chained → Settled s r (suc u) chained h
  pin_settles s chained long chains =
      let t = pin_topped w g.state.root u r y f tops (next_of (w r)) in
      record {
        shape = t.0;
        formed = rw (view-is, pinned_root r g, pinned_used r g) t.1;
        chain-is = t.2 ∙ chains;
        bytes = pinned_bytes r k (head b) g 0 new_top.0 r [] B (few, here) low_r new_top.1 (there (head b) low_b) old.0 kids_there;
        long = pinned_length r k (head b) g 0 new_top.0 r [] B (few, here) low_r new_top.1 (there (head b) low_b) old.0 kids_there ∙ long;
        used-is = pinned_used r g;
        root_is = λ some. pinned_root r g;
      }

-- the tree that the division of the leaf p into left and right leads to, with its number of pages in use
abbrev pub divided_tree : (c : Ctx) → (p used : ℕ) → (left : List Row) → Row → (right : List Row) → Raised
divided_tree c p used left z right = up c (pair (leaf p left) z.key (leaf used (z ∷ right))) (suc used)

module _ (s : List ℕ) (root used : ℕ) (c : Ctx) (p : ℕ) (rs left : List Row) (z : Row) (right : List Row)
    (f : WellFormed (view s) root used (plug c (leaf p rs))) (B : AreBytes s)
    (in_bounds : KeysIn (lo_c 0 c) (hi_c top_key c) (left ++ (z ∷ right))) (sorted : Sorted (left ++ (z ∷ right)))
    (few-left : length (rows_bytes left) ≤ 4084) (few-right : length (rows_bytes (z ∷ right)) ≤ 4084) (fit_left : AllFit left) (fit_right : AllFit (z ∷ right))
    (B-rows : AreBytes (part 0 12 (page s p) ++ rows_bytes (left ++ (z ∷ right))))
    (deep : high c + (divided_tree c p used left z right).grew ≤ 3)
    (room : used_after root (divided_tree c p used left z right) * 4096 ≤ length s) (few : used_after root (divided_tree c p used left z right) ≤ 65536) where
  abbrev st : State
  st = record { root = root; used = used }

  abbrev two : Shape
  two = pair (leaf p left) z.key (leaf used (z ∷ right))

  abbrev t₁ : Raised
  t₁ = divided_tree c p used left z right

  more : suc used ≤ t₁.used
  more = up_more c two (suc used)

  used-there : There used s
  used-there = omega (arith, more, room)

  used-fits : used < 65536
  used-fits = omega (arith, more, few)

  leaf-is : view s p ≡ leaf_page (par_c 0 c) (nxt_c 0 c) rs
  leaf-is = (unplug_rep (view s) 0 0 c (leaf p rs) f.rep).1

  in_use : All (λ q. q < used) (pre_g c ++ (p ∷ post_g c))
  in_use = rw (plug_pages c (leaf p rs)) at f.below

  p_low : p < used
  p_low = (all_right (λ q. q < used) (pre_g c) (p ∷ post_g c) in_use).0

  root-low : root < used
  root-low =
      subst (λ (q : ℕ). q < used) f.root_is
      (subst (λ (l : List ℕ). All (λ q. q < used) l) (tree_pages (plug c (leaf p rs)) f.tree) f.below).0

  -- ---- the leaf divides

  abbrev s₀ : List ℕ
  s₀ = with_fresh s st

  abbrev s₁ : List ℕ
  s₁ = divided_rows p used left (z ∷ right) s₀

  same-leaf : page s₀ p ≡ page s p
  same-leaf = fresh_other s st used-there p (λ e. omega (arith, p_low))

  s₀_long : length s₀ ≡ length s
  s₀_long = fresh_long s st used-there

  fresh : page s₀ used ≡ zeros 4096
  unfolding next_page
  fresh = fresh_here s st used-there

  p_there : There p s₀
  p_there = omega (arith, s₀_long, used-there, p_low)

  q_there : There used s₀
  q_there = rw s₀_long used-there

  s₀_bytes : AreBytes s₀
  unfolding with_fresh
  s₀_bytes = bytes-set-page (next_page s st) (zeros 4096) s (bytes-zeros 4096) B

  s₁_long : length s₁ ≡ length s
  s₁_long = divided-long p used s₀ left (z ∷ right) p_there q_there fresh few-left few-right ∙ s₀_long

  s₁_bytes : AreBytes s₁
  s₁_bytes = bytes-divided p used (length (left ++ (z ∷ right))) (cut_after left) _ s₀ (rw same-leaf B-rows) s₀_bytes

  abbrev right_page : Page
  right_page = leaf_page 0 (nxt_c 0 c) (z ∷ right)

  abbrev left_page : Page
  left_page = leaf_page (par_c 0 c) used left

  view₁ : view s₁ ≡ with_page (with_page (view s) used right_page) p left_page
  view₁ =
      let e : view s₀ p ≡ leaf_page (par_c 0 c) (nxt_c 0 c) rs = view-page p s₀ ∙ rw same-leaf (sym (view-page p s) ∙ leaf-is) in
      view-divided p used s₀ left (z ∷ right) p_there q_there fresh few-left few-right (par_c 0 c) (nxt_c 0 c) rs s₀_bytes (omega (arith, used-fits)) e fit_left fit_right
      ∙ ap (λ (w : Pages). with_page (with_page w used right_page) p left_page) (view_fresh s st used-there)
      ∙ ap (λ (w : Pages). with_page w p left_page) (set_twice (view s) used no_page right_page)

  apart : p ≡ used → ⊥
  apart e = omega (arith, p_low)

  right_is : view s₁ used ≡ right_page
  right_is = ap (λ (w : Pages). w used) view₁ ∙ with_page-other (with_page (view s) used right_page) p used left_page apart ∙ with_page-same (view s) used right_page

  key-is : rank_at (page s₁ used) 12 ≡ z.key
  key-is = let says = leaf_says (page s₁ used) (sym (view-page used s₁) ∙ right_is) in first_from _ 12 (page s₁ used) z right says.rows_are

  key_fits : z.key < 4294967296
  key_fits = rw (← key-is) (flip_less _)

  entry : Entry 0 c (tied (view s₁) used (par_c 0 c)) (leaf p rs) two p (z.key, used) (suc used)
  entry =
      let e : tied (view s₁) used (par_c 0 c) ≡ leaf_pool (view s) c p used left (z ∷ right) =
      ap (λ (w : Pages). tied w used (par_c 0 c)) (view₁ ∙ set_swap (view s) used p right_page left_page (λ q. apart (sym q)))
      ∙ link_new (with_page (view s) p left_page) used (par_c 0 c) right_page in
      subst (λ (w : Pages). Entry 0 c w (leaf p rs) two p (z.key, used) (suc used)) (sym e) (entry_leaf (view s) root used c p rs left (z ∷ right) z.key f)

  -- ---- its right side is entered above

  abbrev g₁ : Grown
  g₁ = grown s₁ (record { root = root; used = suc used })

  abbrev g₂ : Grown
  g₂ = enter_of (path c) p z.key used g₁

  grew : Grew (length s₁) g₂ t₁
  grew =
      enter_holds c g₁ (leaf p rs) two p z.key used (sym f.root_is) key_fits entry s₁_bytes (omega (arith, s₁_long, room)) (omega (arith, few))

  long₂ : length g₂.pool ≡ length s
  long₂ = grew.long ∙ s₁_long

  formed : WellFormed (view g₂.pool) g₂.state.root g₂.state.used t₁.shape
  formed =
      cut_wf (view s) root used c p rs left z right f in_bounds sorted deep (view g₂.pool) g₂.state.root g₂.state.used
      grew.holds grew.root_is grew.used-is

  abbrev chained : List Row
  chained = pre_c c ++ ((left ++ (z ∷ right)) ++ post_c c)

  chains : chain t₁.shape ≡ chained
  chains = up-chain c two (suc used)

  -- ---- the root

  settled_is : settled (path c) p used g₁ ≡ kept_root root g₂
  unfolding settled
  settled_is = rw key-is

  same : (n : ℕ) → t₁.used ≡ n → ((root ≡ 0 → ⊥) → g₂.state.root ≡ root) → Settled s root n chained g₂
  same n e r =
      record { shape = t₁.shape; formed = formed; chain-is = chains; bytes = grew.bytes; long = long₂; used-is = grew.used-is ∙ e; root_is = r }

  kept : Settled s root (used_after root t₁) chained (kept_root root g₂)
  kept = by_root (eqb root 0) refl (eqb g₂.state.root root) refl (up_root c (leaf p rs) two (suc used) refl)
    where
      by_root : (x : Bool) → eqb root 0 ≡ x → (q : Bool) → eqb g₂.state.root root ≡ q
          → ((t₁.grew ≡ 0) × (head t₁.shape ≡ head (plug c (leaf p rs)))) ⊎ ((t₁.grew ≡ 1) × (suc used ≤ head t₁.shape))
          → Settled s root (used_after root t₁) chained (kept_root root g₂)
      by_root true e q eq up_is = rw (kept_zero root g₂ e, e) (same (t₁.used + 0) (sym (add-zero t₁.used)) (λ some. absurd (some (eqb-true root 0 e))))
      by_root false e true eq (inl i) =
          rw (kept_same root g₂ e eq, e, i.0) (same (t₁.used + 0) (sym (add-zero t₁.used)) (λ some. eqb-true g₂.state.root root eq))
      by_root false e true eq (inr i) = absurd (omega (arith, i.1, root-low, grew.root_is, eqb-true g₂.state.root root eq))
      by_root false e false eq (inl i) = absurd (eqb-false g₂.state.root root eq (grew.root_is ∙ i.1 ∙ f.root_is))
      by_root false e false eq (inr i) =
          let n : used_after root t₁ ≡ suc g₂.state.used = rw (e, i.0) (add-one t₁.used ∙ ap suc (sym grew.used-is)) in
          let few₂ : suc g₂.state.used ≤ 65536 = rw n at few in
          let room₂ : suc g₂.state.used * 4096 ≤ length s = rw n at room in
          rw (kept_pinned root g₂ e eq, n)
          (pin_settles g₂ root t₁ formed (leaf-topped (view s) root used c p rs left (z ∷ right) z.key (suc used) f i.0) grew.bytes few₂ (rw long₂ room₂)
          s chained long₂ chains)

  up_is : (plan : Planned) → plan.path ≡ path_of (p ∷ path c) → plan.cut ≡ cut_after left
      → divided_up plan p (length (left ++ (z ∷ right))) (part 0 12 (page s p) ++ rows_bytes (left ++ (z ∷ right))) (grown s st) ≡ settled (path c) p used g₁
  unfolding divided_up next_page allocated
  up_is plan path_is cut_is = rw (path_is, path_above p (path c), cut_is, same-leaf, add-one used)

-- the leaf p of the tree t, whose rows would be left, z and right, divides before z, as planned: v is what it would hold
pub divided-up_wf : (s : List ℕ) (root used : ℕ) (t : Shape) (c : Ctx) (p : ℕ) (rs left : List Row) (z : Row) (right : List Row) (plan : Planned) (n : ℕ) (v : List ℕ)
    → t ≡ plug c (leaf p rs) → WellFormed (view s) root used t → AreBytes s → AreBytes v
    → KeysIn (lo_c 0 c) (hi_c top_key c) (left ++ (z ∷ right)) → Sorted (left ++ (z ∷ right))
    → length (rows_bytes left) ≤ 4084 → length (rows_bytes (z ∷ right)) ≤ 4084 → AllFit left → AllFit (z ∷ right)
    → n ≡ length (left ++ (z ∷ right)) → v ≡ part 0 12 (page s p) ++ rows_bytes (left ++ (z ∷ right))
    → plan.path ≡ path_of (p ∷ path c) → plan.cut ≡ record { cells = length left; bytes = length (rows_bytes left) }
    → high c + (divided_tree c p used left z right).grew ≤ 3
    → used_after root (divided_tree c p used left z right) * 4096 ≤ length s → used_after root (divided_tree c p used left z right) ≤ 65536
    → Settled s root (used_after root (divided_tree c p used left z right)) (pre_c c ++ ((left ++ (z ∷ right)) ++ post_c c))
    (divided_up plan p n v (grown s (record { root = root; used = used })))
divided-up_wf s root used t c p rs left z right plan n v t_is f B Bv in_bounds sorted few-left few-right fit_left fit_right n-is v-is path_is cut_is deep room few =
    let f₁ : WellFormed (view s) root used (plug c (leaf p rs)) = subst (λ (x : Shape). WellFormed (view s) root used x) t_is f in
    let B₁ : AreBytes (part 0 12 (page s p) ++ rows_bytes (left ++ (z ∷ right))) = subst AreBytes v-is Bv in
    rw (
      n-is,
      v-is,
      up_is s root used c p rs left z right f₁ B in_bounds sorted few-left few-right fit_left fit_right B₁ deep room few plan path_is cut_is,
      settled_is s root used c p rs left z right f₁ B in_bounds sorted few-left few-right fit_left fit_right B₁ deep room few,
    ) (kept s root used c p rs left z right f₁ B in_bounds sorted few-left few-right fit_left fit_right B₁ deep room few)
