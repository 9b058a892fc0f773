-- What writing a leaf would take, told on the unchanged pool (document 01, sections 3, 5 and 6): the climb; where the leaf
-- would be overfull, its cut and the plan above it; and the room refusals Undividable, TooDeep and NoPages, in this order.
use Rattle.std.specs.Prelude.{Result, Ok, Err, Bool, true, false, ◌&&◌, List, ℕ, ◌+◌, leb, eqb}
use Rattle.store.specs.Pick.{pick}
use Rattle.page.specs.declared.pool.State.{State}
use Rattle.row.specs.declared.Fault.{Fault}
use Rattle.leaf.specs.Place.{no_cut, cut_fits}
use Rattle.leaf.specs.declared.place.Cut.{Cut}
use Rattle.tree.specs.Climb.{climb_of, climbed}
use Rattle.tree.specs.declared.climb.Path.{Path}
use Rattle.tree_grow.specs.Path.{page_at, pages_above}
use Rattle.tree_grow.specs.Plan.{pages_asked, plan_of}
use Rattle.tree_grow.specs.declared.plan.Division.{Division}
use Rattle.tree_room.specs.declared.Planned.{Planned}
use Rattle.call_answers.specs.declared.Refusal.{Refusal}
use Rattle.call_answers.specs.Names.{unless}

abbrev pub on_climbed : {A : Type 0} → (Path → A) → (Fault → A) → Result Path Fault → A
on_climbed good ill (Ok path) = good path
on_climbed good ill (Err f) = ill f

abbrev pub on_plan : {A : Type 0} → (Division → A) → (Fault → A) → Result Division Fault → A
on_plan good ill (Ok d) = good d
on_plan good ill (Err f) = ill f

-- the leaf at the path's start stays one
abbrev pub fitting : Path → Planned
fitting path = record { path = path; over = false; cut = no_cut; above = record { full = 0; grows = false } }

-- it divides at that cut
abbrev pub dividing : Path → Cut → Division → Planned
dividing path cut d = record { path = path; over = true; cut = cut; above = d }

-- page p would be written, and whether it would be overfull; cut is where it would be cut
unfoldable pub leaf_plan : List ℕ → State → (p : ℕ) → (over : Bool) → Cut → Result Planned Fault
leaf_plan s st p over cut =
    on_climbed
    (λ path.
    pick over
    (on_plan (λ d. Ok (dividing path cut d)) (λ f. Err f) (plan_of s st.used (page_at path 0) (pages_above path 0)))
    (Ok (fitting path)))
    (λ f. Err f)
    (climbed (climb_of s st.used st.root p 3))

-- "the root must grow from 4 levels"
abbrev pub grows_too_deep : Planned → Bool
grows_too_deep x = x.above.grows && eqb x.path.len 4

-- of a pool of so many pages, for a leaf of t bytes: its refusal, if any
unfoldable pub room_of : (pages : ℕ) → State → (t : ℕ) → Planned → Result Unit Refusal
room_of pages st t x =
    pick x.over
    (unless (cut_fits t x.cut) (Err Refusal.Undividable)
    (pick (grows_too_deep x) (Err Refusal.TooDeep)
    (unless (leb (st.used + 1 + pages_asked st.root x.above) pages) (Err Refusal.NoPages)
    (Ok tt))))
    (Ok tt)

abbrev pub on_room : {A : Type 0} → A → (Refusal → A) → Result Unit Refusal → A
on_room good ill (Ok _) = good
on_room good ill (Err r) = ill r

abbrev pub on_leaf_plan : {A : Type 0} → (Planned → A) → (Fault → A) → Result Planned Fault → A
on_leaf_plan good ill (Ok x) = good x
on_leaf_plan good ill (Err f) = ill f
