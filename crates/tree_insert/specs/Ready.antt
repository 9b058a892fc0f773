-- What an insertion would do (document 01, sections 4 to 6), judged on the unchanged pool: the spot and the plan by which it
-- can be stored, or its refusal, with the fault behind a BadTree.
use Rattle.std.specs.Prelude.{Option, is_some, Result, Ok, Err, Bool, false, List, ℕ, ◌/◌, length}
use Rattle.store.specs.Pick.{pick}
use Rattle.page.specs.declared.pool.State.{State}
use Rattle.row.specs.declared.Fault.{Fault}
use Rattle.mvcc.specs.Snapshot.{lookup, Statuses, creator_of, plain_snapshot}
use Rattle.leaf.specs.Find.{Best}
use Rattle.tree.specs.Lookup.{best_in_tree}
use Rattle.call_answers.specs.declared.Refused.{Refused}
use Rattle.call_answers.specs.Answer.{refusal_of, faulty}
use Rattle.call_answers.specs.declared.Refusal.{Refusal}
use Rattle.tree_insert.specs.Spot.{spot_of}
use Rattle.tree_room.specs.Room.{on_leaf_plan, on_room, room_of}
use Rattle.tree_insert.specs.Insert.{bytes_with, insert_plan}
use Rattle.tree_insert.specs.declared.Spot.{Spot}
use Rattle.tree_room.specs.declared.Planned.{Planned}
use Rattle.tree_insert.specs.declared.ready.Ready.{Ready}

abbrev pub ready : Spot → Planned → Result Ready Refused
ready x plan = Ok (record { spot = x; plan = plan })

abbrev pub on_ready : {A : Type 0} → (Spot → Planned → A) → (Refused → A) → Result Ready Refused → A
on_ready good ill (Ok r) = good r.spot r.plan
on_ready good ill (Err r) = ill r

abbrev pub on_spot : {A : Type 0} → (Spot → A) → (Fault → A) → Result Spot Fault → A
on_spot good ill (Ok x) = good x
on_spot good ill (Err f) = ill f

-- by its room: Undividable, TooDeep, NoPages
abbrev pub ready_by_room : Spot → Planned → Result Unit Refusal → Result Ready Refused
ready_by_room x plan r = on_room (ready x plan) (λ n. Err (refusal_of n)) r

-- BadTree, Duplicate, Undividable, TooDeep, NoPages: a cell of m bytes at the spot, where a version is seen already or not
unfoldable pub ready_at : List ℕ → State → (seen : Bool) → Spot → (m : ℕ) → Result Ready Refused
ready_at s st seen x m =
    on_leaf_plan (λ plan. pick seen (Err (refusal_of Refusal.Duplicate)) (ready_by_room x plan (room_of (length s / 4096) st (bytes_with x m) plan))) (λ f. Err (faulty f)) (insert_plan s st x m)

-- a version that is not asked whether its key is free
unfoldable pub version_at : List ℕ → State → (key creator m : ℕ) → Result Ready Refused
version_at s st key creator m = on_spot (λ x. ready_at s st false x m) (λ f. Err (faulty f)) (spot_of s st.used st.root key creator)

-- whether the search has found a version that is seen
abbrev pub is_seen : Best → Bool
is_seen best = is_some best

abbrev pub on_chain : {A : Type 0} → (Best → A) → (Fault → A) → Result Best Fault → A
on_chain good ill (Ok b) = good b
on_chain good ill (Err f) = ill f

-- "Insert looks for a duplicate with xmax 2^64 - 1, an empty list and the caller's current transaction, if any". Its path and
-- leaf are read first, then the chain of the search, then the climb.
unfoldable pub new_at : List ℕ → State → (key : ℕ) → Option ℕ → Statuses → (m : ℕ) → Result Ready Refused
new_at s st key cur ss m =
    on_spot
    (λ x.
    on_chain (λ b. ready_at s st (is_seen b) x m) (λ f. Err (faulty f)) (best_in_tree s st.used st.root key (plain_snapshot cur) (lookup ss)))
    (λ f. Err (faulty f))
    (spot_of s st.used st.root key (creator_of cur))
