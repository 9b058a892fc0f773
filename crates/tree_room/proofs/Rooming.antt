-- Laws of what writing a leaf would take: the path of a climb that came to the root, how many pages are asked for at most,
-- and the refusal of a root that is too deep. Assumes nothing.
use Rattle.std.proofs.Common.{Result, Ok, Err}
use mathlib.Core.Path.{◌≡◌, refl, sym, ap, ◌∙◌, subst}
use mathlib.Core.Bool.{Bool, true, false, not}
use mathlib.Core.List.{List, [], ◌∷◌}
use Prim.Native.Nat.{ℕ, suc, ◌+◌, ◌-◌, ◌≤◌, ◌<◌}
use native.Mathlib.Omega.{arith}
use borrow.Author.Tests.{eq-eqb, not-false}
use lib.Dec.{eqb}
use lib.ListN.{length}
use Rattle.store.specs.Pick.{pick}
use Rattle.store.specs.Part.{pad, zeros}
use Rattle.page.specs.declared.pool.State.{State}
use Rattle.row.specs.declared.Fault.{Fault}
use Rattle.call_answers.specs.declared.Refusal.{Refusal}
use Rattle.leaf.specs.Place.{cut_fits}
use Rattle.leaf.specs.declared.place.Cut.{Cut}
use Rattle.tree.specs.Climb.{up, climb_of, path_of, climbed}
use Rattle.tree.specs.declared.climb.Path.{Path}
use Rattle.tree_grow.specs.Path.{page_at, pages_above}
use Rattle.tree_grow.specs.Steps.Safe.{Stands}
use Rattle.tree_grow.specs.Plan.{pages_asked}
use Rattle.tree_grow.specs.declared.plan.Division.{Division}
use Rattle.tree_room.specs.Room.{leaf_plan, room_of}
use Rattle.tree_room.specs.declared.Planned.{Planned}
use Rattle.store.proofs.SeamLaws.{part_left, part_right, part-whole}
use Rattle.tree.proofs.Climbing.{reached, climb_risen}
use Rattle.tree_grow.proofs.Framing.{climb_stands}

-- ---- the climb

pub path_above : (p : ℕ) (ps : List ℕ) → pages_above (path_of (p ∷ ps)) 0 ≡ ps
unfolding pages_above pad
path_above p ps =
    let n : suc (length ps) - (0 + 1) ≡ length ps = omega arith in
    rw n (part_left 1 (length ps) (p ∷ ps) (zeros (4 - suc (length ps))) (omega arith) ∙ part_right 0 (length ps) 1 (p ∷ []) ps refl ∙ part-whole (length ps) ps refl)

-- the path of a climb from page p that came to the root
pub record Climbs (st : State) (p : ℕ) (s : List ℕ) (path : Path) : Type 0 where
  pub way : climb_of s st.used st.root p 3 ≡ up (p ∷ pages_above path 0)
  pub first : page_at path 0 ≡ p
  pub some : 0 < path.len
  pub four : path.len ≤ 4
  pub above : length (pages_above path 0) < path.len

module _ (st : State) (p : ℕ) (s : List ℕ) where
  risen_climbs : (l : List ℕ) → length l ≤ 3 → climb_of s st.used st.root p 3 ≡ up (p ∷ l) → Climbs st p s (path_of (p ∷ l))
  unfolding pad
  risen_climbs l few way =
      let a = path_above p l in
      record { way = way ∙ ap (λ (x : List ℕ). up (p ∷ x)) (sym a); first = refl; some = omega arith; four = omega arith; above = rw a (omega arith) }

  module _ {c : Result Path Fault} (climb : c ≡ climbed (climb_of s st.used st.root p 3)) where
    pub climb_climbs : {path : Path} → c ≡ Ok path → Climbs st p s path
    climb_climbs {path} ok =
        let r = reached (climb_of s st.used st.root p 3) climb ok in
        let h = climb_risen st.used st.root s 3 p r.way in
        let e : path ≡ path_of (p ∷ h.above) = r.is ∙ ap path_of h.is in
        subst (λ (x : Path). Climbs st p s x) (sym e) (risen_climbs h.above h.few (r.way ∙ ap up h.is))

    -- what the plan above asks for
    pub climb_asks : {path : Path} → p < st.used → c ≡ Ok path → (0 < path.len) × (path.len ≤ 4) × Stands st.used (page_at path 0) (pages_above path 0) s
    climb_asks {path} low ok =
        let h = climb_climbs ok in
        (h.some, h.four, rw h.first (climb_stands st.used st.root p s (pages_above path 0) low h.way))

-- ---- the room refusals

-- a page for each that divides, and two more at most
pub asked_few : (root : ℕ) (d : Division) {n : ℕ} → d.full ≤ 4 → n ≡ pages_asked root d → n ≤ 6
unfolding pages_asked
asked_few root d h e = rw e (by_tests d.grows (eqb root 0))
  where
    by_tests : (a b : Bool) → d.full + pick a (pick b 1 2) 0 ≤ 6
    by_tests true true = omega arith
    by_tests true false = omega arith
    by_tests false b = omega arith

-- a leaf that divides and whose cut fits, where the root would grow from four levels
pub room-deep : (pages : ℕ) (st : State) (t : ℕ) (x : Planned) → not x.over ≡ false → {b : Bool} → b ≡ cut_fits t x.cut → not b ≡ false → x.above.grows ≡ true → x.path.len ≡ 4
    → Err Refusal.TooDeep ≡ room_of pages st t x
unfolding room_of
room-deep pages st t x over {b} fits cuts h e = rw (not-false x.over over, ← fits, not-false b cuts, h, eq-eqb x.path.len 4 e)

-- where the leaf stays one, there is no cut
pub plan_uncut : (st : State) (p : ℕ) (a b : Cut) (s : List ℕ) → leaf_plan s st p false a ≡ leaf_plan s st p false b
unfolding leaf_plan
plan_uncut st p a b s = refl
