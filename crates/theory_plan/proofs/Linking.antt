-- The plan of a leaf that divides, on a well-formed tree: every child that gets a new parent link is in use; and what the plan
-- says of the pages that divide is what the tree that grew says. Assumes nothing.
use Rattle.std.proofs.Common.{Ok}
use mathlib.Core.Path.{◌≡◌, refl, sym, ap, ◌∙◌, subst}
use mathlib.Core.Bool.{Bool, true, false}
use mathlib.Core.List.{List, [], ◌∷◌, ◌++◌}
use mathlib.Core.Logic.{⊎_elim}
use Prim.Native.Nat.{ℕ, zero, suc, ◌+◌, ◌-◌, ◌≤◌, ◌<◌}
use native.Mathlib.Omega.{arith}
use native.Mathlib.Nat.{zero-add, suc-add, add-zero}
use lib.Dec.{eqb, eqb-zero-suc, eqb-suc-suc}
use lib.ListN.{length, length-append}
use borrow.Author.Tests.{lt-ltb, eqb-true, eqb-false}
use Rattle.store.specs.Pick.{pick}
use Rattle.page.specs.Page.{page}
use Rattle.page.specs.Header.{cell_count}
use Rattle.page.specs.declared.pool.State.{State}
use Rattle.leaf.specs.Rows.{Row}
use Rattle.leaf.specs.declared.place.Cut.{Cut}
use Rattle.inner.specs.Inner.{child_at, children_from, children_of}
use Rattle.tree.specs.Climb.{Way, climb_of, path_of}
use Rattle.tree_grow.specs.Grow.{place_in}
use Rattle.tree_grow.specs.Plan.{full_pages, division_of, first_moved, relinks_in, keeps_number, relinks, in_use, plan_of}
use Rattle.tree_grow.specs.declared.plan.Division.{Division}
use Rattle.tree_room.specs.Room.{fitting, dividing, leaf_plan}
use Rattle.tree_room.specs.declared.Planned.{Planned}
use Rattle.theory_tree.specs.View.{view}
use Rattle.theory_tree.specs.Shape.{Shape, leaf, node, pair, pages_in, head, rest, first, All, WellFormed}
use Rattle.store.proofs.PartLaws.{le_or_lt}
use Rattle.tree_grow.proofs.Planning.{first-few}
use Rattle.tree_room.proofs.Rooming.{path_above}
use Rattle.theory_tree.proofs.Contexts.{Ctx, top, in_l, in_r, under, plug, pre_g, post_g, par_c, HoldsC, cut, Grown, up}
use Rattle.theory_tree.proofs.Entries.{kids, path}
use Rattle.theory_tree.proofs.Says.{InnerSays, inner_says, entries_length, entries_children}
use Rattle.theory_tree.proofs.Lists.{all_app, all_left, all_right}
use Rattle.theory_tree.proofs.Frame.{roots_all}
use Rattle.theory_tree.proofs.Zip.{unplug_rep, plug_pages}
use Rattle.theory_tree.proofs.Enter.{roots_is, up_room, up_half}
use Rattle.theory_plan.proofs.Paths.{path_first}

-- ---- children in use

use_all : (used : ℕ) (l : List ℕ) → All (λ q. q < used) l → in_use used l ≡ (Ok tt)
unfolding in_use
use_all used [] h = refl
use_all used (q ∷ l) h = rw (lt-ltb q used h.0) (use_all used l h.1)

children_add : (pg : List ℕ) (i m n : ℕ) → children_from pg i (m + n) ≡ children_from pg i m ++ children_from pg (i + m) n
unfolding children_from
children_add pg i zero n = rw (zero-add, add-zero)
children_add pg i (suc m) n =
    let e : i + suc m ≡ i + 1 + m = omega arith in
    rw (suc-add, e) (ap (λ (l : List ℕ). child_at pg i ∷ l) (children_add pg (i + 1) m n))

-- what the page above a run says of its keys and children
module _ (s : List ℕ) (p : ℕ) {par j h : ℕ} {r : List (ℕ × ℕ)} (is : InnerSays (page s p) par j h r) where
  count-is : cell_count (page s p) ≡ length r
  count-is = sym (entries_length 0 (cell_count (page s p)) (page s p)) ∙ ap length is.entries

  children_are : children_of (page s p) ≡ kids h r
  unfolding children_from
  children_are =
      let n : cell_count (page s p) + 1 ≡ suc (cell_count (page s p)) = omega arith in
      rw n (rw (is.child, ← entries_children 0 (cell_count (page s p)) (page s p), is.entries))

-- children that all have P: so have those that get a new link
module _ (P : ℕ → Type 0) (pg : List ℕ) (i : ℕ) (all : All P (children_from pg 0 511)) where
  moved_all : (relocated : Bool) → All P (relinks_in pg i relocated)
  unfolding relinks_in
  moved_all relocated =
      let k = first_moved i in
      let n : k + (511 - k) ≡ 511 = omega (arith, first-few i {k = first_moved i} refl) in
      let both : All P (children_from pg 0 k ++ children_from pg k (511 - k)) = rw (← n, children_add pg 0 k (511 - k), zero-add k) at all in
      all_app P (children_from pg k (511 - k)) (pick relocated (children_from pg 0 k) [])
      (all_right P (children_from pg 0 k) (children_from pg k (511 - k)) both)
      (by_place relocated (all_left P (children_from pg 0 k) (children_from pg k (511 - k)) both))
    where
      by_place : (b : Bool) → All P (children_from pg 0 (first_moved i)) → All P (pick b (children_from pg 0 (first_moved i)) [])
      by_place true h = h
      by_place false h = tt

-- ---- the plan

-- every page of the tree is in use, and so is every child of a page above the run
module _ (used : ℕ) (s : List ℕ) (P N : ℕ) where
  relinks-low : (old : ℕ) (c : Ctx) (t : Shape) → HoldsC (view s) P N c (head t) (rest t) (first t) → All (λ q. q < used) (pages_in (plug c t))
      → All (λ q. q < used) (relinks s old (path c))
  unfolding relinks view
  relinks-low old top t g b = tt
  relinks-low old (in_l k y c) t g b = relinks-low old c (pair t k y) g.1 b
  relinks-low old (in_r x k c) t g b = relinks-low old c (pair x k t) g.1 b
  relinks-low old (under p c) t g b = by_count (eqb (cell_count (page s p)) 510) refl (relinks-low p c (node p t) g.2 b)
    where
      is : InnerSays (page s p) (par_c P c) g.0 (head t) (rest t)
      is = inner_says (page s p) g.1

      here : All (λ q. q < used) (pages_in t ++ post_g c)
      here = (all_right (λ q. q < used) (pre_g c) (p ∷ (pages_in t ++ post_g c)) (rw (plug_pages c (node p t)) at b)).1

      low : All (λ q. q < used) (kids (head t) (rest t))
      low = subst (All (λ q. q < used)) (roots_is t) (roots_all (λ q. q < used) t (all_left (λ q. q < used) (pages_in t) (post_g c) here))

      by_count : (x : Bool) → eqb (cell_count (page s p)) 510 ≡ x → All (λ q. q < used) (relinks s p (path c))
          → All (λ q. q < used) (pick x (relinks_in (page s p) (place_in (page s p) old) (keeps_number p (path c)) ++ relinks s p (path c)) [])
      by_count true e h =
          let n : cell_count (page s p) + 1 ≡ 511 = rw (eqb-true (cell_count (page s p)) 510 e) in
          let all : All (λ q. q < used) (children_from (page s p) 0 511) = rw (← n, children_are s p is) low in
          all_app (λ q. q < used) (relinks_in (page s p) (place_in (page s p) old) (keeps_number p (path c))) (relinks s p (path c))
          (moved_all (λ q. q < used) (page s p) (place_in (page s p) old) all (keeps_number p (path c))) h
      by_count false e h = tt

pub plan_ok : (s : List ℕ) (root used : ℕ) (c : Ctx) (p : ℕ) (rs : List Row) → WellFormed (view s) root used (plug c (leaf p rs))
    → plan_of s used p (path c) ≡ Ok (division_of (path c) s)
unfolding plan_of
plan_ok s root used c p rs f =
    rw (use_all used (relinks s p (path c)) (relinks-low used s 0 0 p c (leaf p rs) (unplug_rep (view s) 0 0 c (leaf p rs) f.rep).0 f.below))

-- ---- the pages that divide

-- the run t', one separator longer than t, in the place of t
module _ (s : List ℕ) (P N : ℕ) where
  grew_is : (c : Ctx) (t t' : Shape) (u : ℕ) → HoldsC (view s) P N c (head t) (rest t) (first t) → length (rest t') ≡ suc (length (rest t))
      → ((up c t' u).grew ≡ pick (eqb (full_pages (path c) s) (length (path c))) 1 0)
      × ((up c t' u).used ≡ u + full_pages (path c) s + pick (eqb (full_pages (path c) s) (length (path c))) 1 0)
  unfolding full_pages view
  grew_is top t t' u g n = (refl, omega arith)
  grew_is (in_l k y c) t t' u g n = grew_is c (pair t k y) (pair t' k y) u g.1
      (omega (arith, length-append (rest t) ((k, head y) ∷ rest y), length-append (rest t') ((k, head y) ∷ rest y)))
  grew_is (in_r x k c) t t' u g n = grew_is c (pair x k t) (pair x k t') u g.1
      (omega (arith, length-append (rest x) ((k, head t) ∷ rest t), length-append (rest x) ((k, head t') ∷ rest t')))
  grew_is (under p c) t t' u g n =
      by_count (eqb (cell_count (page s p)) 510) refl
      (grew_is c (node p t) (pair (node p (cut 255 t').left) (cut 255 t').mid (node u (cut 255 t').right)) (suc u) g.2 refl)
    where
      is : InnerSays (page s p) (par_c P c) g.0 (head t) (rest t)
      is = inner_says (page s p) g.1

      count : cell_count (page s p) ≡ length (rest t)
      count = count-is s p is

      k : ℕ
      k = full_pages (path c) s

      more : Grown
      more = up c (pair (node p (cut 255 t').left) (cut 255 t').mid (node u (cut 255 t').right)) (suc u)

      by_count : (x : Bool) → eqb (cell_count (page s p)) 510 ≡ x
          → (more.grew ≡ pick (eqb k (length (path c))) 1 0) × (more.used ≡ suc u + k + pick (eqb k (length (path c))) 1 0)
          → ((up (under p c) t' u).grew ≡ pick (eqb (pick x (suc k) 0) (suc (length (path c)))) 1 0)
          × ((up (under p c) t' u).used ≡ u + pick x (suc k) 0 + pick (eqb (pick x (suc k) 0) (suc (length (path c)))) 1 0)
      by_count true e h =
          let full = eqb-true (cell_count (page s p)) 510 e in
          rw (up_half p c t' u (omega (arith, count)), eqb-suc-suc k (length (path c))) (h.0, omega (arith, h.1))
      by_count false e h =
          let low = is.high in
          let other = eqb-false (cell_count (page s p)) 510 e in
          let few : cell_count (page s p) < 510 =
          ⊎_elim (λ (m : 510 ≤ cell_count (page s p)). absurd (other (omega arith))) (λ (m : cell_count (page s p) < 510). m) (le_or_lt 510 (cell_count (page s p))) in
          rw (up_room p c t' u (omega (arith, count)), eqb-zero-suc (length (path c))) (refl, omega arith)

  -- the plan's words for it
  pub grown-is : (c : Ctx) (t t' : Shape) (u : ℕ) → HoldsC (view s) P N c (head t) (rest t) (first t) → length (rest t') ≡ suc (length (rest t))
      → ((up c t' u).grew ≡ pick (division_of (path c) s).grows 1 0)
      × ((up c t' u).used ≡ u + (division_of (path c) s).full + pick (division_of (path c) s).grows 1 0)
  unfolding division_of
  grown-is c t t' u g n = grew_is c t t' u g n

-- a leaf that divides
pub leaf-grown : (s : List ℕ) (root used : ℕ) (c : Ctx) (p : ℕ) (rs : List Row) → WellFormed (view s) root used (plug c (leaf p rs))
    → (l r : List Row) (k q u : ℕ)
    → ((up c (pair (leaf p l) k (leaf q r)) u).grew ≡ pick (division_of (path c) s).grows 1 0)
    × ((up c (pair (leaf p l) k (leaf q r)) u).used ≡ u + (division_of (path c) s).full + pick (division_of (path c) s).grows 1 0)
leaf-grown s root used c p rs f l r k q u =
    grown-is s 0 0 c (leaf p rs) (pair (leaf p l) k (leaf q r)) u (unplug_rep (view s) 0 0 c (leaf p rs) f.rep).0 refl

-- ---- the plan of the leaf

module _ (st : State) (p : ℕ) (cut : Cut) (s ps : List ℕ) (climbs : climb_of s st.used st.root p 3 ≡ Way.up (p ∷ ps)) where
  -- it fits
  pub leaf-stays : leaf_plan s st p false cut ≡ Ok (fitting (path_of (p ∷ ps)))
  unfolding leaf_plan
  leaf-stays = rw climbs

  -- it would be overfull
  pub leaf_divides : {d : Division} → plan_of s st.used p ps ≡ Ok d → leaf_plan s st p true cut ≡ Ok (dividing (path_of (p ∷ ps)) cut d)
  unfolding leaf_plan
  leaf_divides e = rw (climbs, path_first p ps, path_above p ps, e)

-- the plan on a well-formed tree, in both cases
abbrev pub plan_above : Ctx → (p : ℕ) → (over : Bool) → Cut → List ℕ → Planned
plan_above c p over cut s = pick over (dividing (path_of (p ∷ path c)) cut (division_of (path c) s)) (fitting (path_of (p ∷ path c)))

pub leaf_plan-ok : (s : List ℕ) (st : State) (c : Ctx) (p : ℕ) (rs : List Row) → WellFormed (view s) st.root st.used (plug c (leaf p rs))
    → climb_of s st.used st.root p 3 ≡ Way.up (p ∷ path c) → (over : Bool) (cut : Cut) → leaf_plan s st p over cut ≡ Ok (plan_above c p over cut s)
leaf_plan-ok s st c p rs f climbs true cut = leaf_divides st p cut s (path c) climbs (plan_ok s st.root st.used c p rs f)
leaf_plan-ok s st c p rs f climbs false cut = leaf-stays st p cut s (path c) climbs
