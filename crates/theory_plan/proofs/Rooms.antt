-- When a planned leaf has room, and what the room is good for: the tree that grew has at most four levels, and its pages are
-- in the pool. Assumes nothing.
use Rattle.std.proofs.Common.{Ok, Err}
use Rattle.call_answers.specs.declared.Refusal.{Refusal}
use mathlib.Core.Path.{◌≡◌, refl, sym, ap, ◌∙◌}
use mathlib.Core.Bool.{Bool, true, false}
use mathlib.Core.List.{List, ◌∷◌}
use mathlib.Core.Logic.{⊎_elim}
use Prim.Native.Nat.{ℕ, suc, ◌+◌, ◌≤◌, ◌<◌}
use native.Mathlib.Omega.{arith}
use lib.Dec.{eqb}
use lib.ListN.{length}
use borrow.Author.Tests.{eqb-true}
use Rattle.store.specs.Pick.{pick}
use Rattle.page.specs.declared.pool.State.{State}
use Rattle.leaf.specs.Rows.{Row}
use Rattle.leaf.specs.Place.{cut_fits}
use Rattle.leaf.specs.declared.place.Cut.{Cut}
use Rattle.tree.specs.Climb.{path_of}
use Rattle.tree_grow.specs.Plan.{division_of, pages_asked}
use Rattle.tree_grow.specs.declared.plan.Division.{Division}
use Rattle.tree_room.specs.Room.{dividing, room_of}
use Rattle.tree_room.specs.declared.Planned.{Planned}
use Rattle.theory_tree.specs.View.{view}
use Rattle.theory_tree.specs.Shape.{leaf, pair, WellFormed}
use Rattle.store.proofs.PartLaws.{le_or_lt}
use Rattle.tree_room.proofs.Rooming.{room-deep}
use Rattle.tree_room.proofs.Keeping.{room-is}
use Rattle.theory_tree.proofs.Contexts.{Ctx, plug, high, Grown, up}
use Rattle.theory_tree.proofs.Entries.{path}
use Rattle.theory_plan.proofs.Paths.{path_length, high_few}
use Rattle.theory_plan.proofs.Linking.{leaf-grown}

-- a leaf of t bytes under the pages ps that divides: the cut fits, the root does not grow from 4 levels, and the pages are left
pub record HasRoom (pages : ℕ) (st : State) (t : ℕ) (cut : Cut) (ps : List ℕ) (d : Division) : Type 0 where
  pub cuts : cut_fits t cut ≡ true
  pub shallow : d.grows ≡ true → length ps ≡ 3 → ⊥
  pub asked : st.used + 1 + pages_asked st.root d ≤ pages

module _ (pages : ℕ) (st : State) (t p : ℕ) (ps : List ℕ) (cut : Cut) (d : Division) where
  abbrev plan : Planned
  plan = dividing (path_of (p ∷ ps)) cut d

  pub room-told : room_of pages st t plan ≡ Ok tt → HasRoom pages st t cut ps d
  room-told e =
      let r = room-is pages st t plan e refl in
      record {
        cuts = r.cuts;
        shallow = λ o k. let z : Err Refusal.TooDeep ≡ room_of pages st t plan = room-deep pages st t plan refl (sym r.cuts) refl o (ap suc k) in cc;
        asked = r.asked;
      }

-- ---- what the room is good for

-- the tree g that grew in the place of one under the root, in a pool of so many pages; a root other than 0 takes one page more
pub record GrowsIn (pages root : ℕ) (c : Ctx) (g : Grown) : Type 0 where
  pub deep : high c + g.grew ≤ 3
  pub few : g.used ≤ pages
  pub pinned : g.grew ≡ 1 → (root ≡ 0 → ⊥) → g.used + 1 ≤ pages

asked_is : (root : ℕ) (d : Division) → pages_asked root d ≡ d.full + pick d.grows (pick (eqb root 0) 1 2) 0
unfolding pages_asked
asked_is root d = refl

pub grows_in : (s : List ℕ) (st : State) (c : Ctx) (p : ℕ) (rs : List Row) → WellFormed (view s) st.root st.used (plug c (leaf p rs))
    → (pages t : ℕ) (cut : Cut) → HasRoom pages st t cut (path c) (division_of (path c) s)
    → (l r : List Row) (k q : ℕ) → GrowsIn pages st.root c (up c (pair (leaf p l) k (leaf q r)) (suc st.used))
grows_in s st c p rs f pages t cut room l r k q = by_growth d.grows refl (eqb st.root 0) refl
  where
    d : Division
    d = division_of (path c) s

    g : Grown
    g = up c (pair (leaf p l) k (leaf q r)) (suc st.used)

    grew : g.grew ≡ pick d.grows 1 0
    grew = (leaf-grown s st.root st.used c p rs f l r k q (suc st.used)).0

    used : g.used ≡ suc st.used + d.full + pick d.grows 1 0
    used = (leaf-grown s st.root st.used c p rs f l r k q (suc st.used)).1

    asked : st.used + 1 + (d.full + pick d.grows (pick (eqb st.root 0) 1 2) 0) ≤ pages
    asked = rw asked_is at room.asked

    low : high c ≤ 3
    low = high_few (view s) st.root st.used c p rs f

    below_top : d.grows ≡ true → high c < 3
    below_top o = ⊎_elim (λ (h : 3 ≤ high c). absurd (room.shallow o (omega (arith, path_length c, low)))) (λ (h : high c < 3). h) (le_or_lt 3 (high c))

    by_growth : (b : Bool) → d.grows ≡ b → (z : Bool) → eqb st.root 0 ≡ z → GrowsIn pages st.root c g
    by_growth true o true z =
        let m : g.grew ≡ 1 = grew ∙ rw o in
        let n : g.used ≡ suc st.used + d.full + 1 = used ∙ rw o in
        let a : st.used + 1 + (d.full + 1) ≤ pages = rw (o, z) at asked in
        record {
          deep = omega (arith, below_top o);
          few = omega arith;
          pinned = λ e h. absurd (h (eqb-true st.root 0 z));
        }
    by_growth true o false z =
        let m : g.grew ≡ 1 = grew ∙ rw o in
        let n : g.used ≡ suc st.used + d.full + 1 = used ∙ rw o in
        let a : st.used + 1 + (d.full + 2) ≤ pages = rw (o, z) at asked in
        record {
          deep = omega (arith, below_top o);
          few = omega arith;
          pinned = λ e h. omega arith;
        }
    by_growth false o z y =
        let m : g.grew ≡ 0 = grew ∙ rw o in
        let n : g.used ≡ suc st.used + d.full + 0 = used ∙ rw o in
        let a : st.used + 1 + (d.full + 0) ≤ pages = rw o at asked in
        record { deep = omega (arith, low); few = omega arith; pinned = λ e h. absurd (omega arith) }
