-- What a stamp would do (document 01, sections 4 to 6), judged on the unchanged pool: the target and the plan by which it can
-- be stored, or its refusal, with the fault behind a BadTree.
use Rattle.std.specs.Prelude.{Result, Ok, Err, Bool, true, false, List, ℕ, ◌/◌, length}
use Rattle.page.specs.declared.pool.State.{State}
use Rattle.row.specs.declared.Fault.{Fault}
use Rattle.tree_room.specs.Room.{on_leaf_plan, on_room, room_of}
use Rattle.tree_room.specs.declared.Planned.{Planned}
use Rattle.tree_stamp.specs.Stamp.{bytes_stamped, stamp_plan}
use Rattle.tree_stamp.specs.declared.Target.{Target}
use Rattle.tree_stamp.specs.declared.ready.Marking.{Marking}
use Rattle.call_answers.specs.declared.Refused.{Refused}
use Rattle.call_answers.specs.Answer.{refusal_of, faulty}
use Rattle.call_answers.specs.declared.Refusal.{Refusal}

abbrev pub marking : Target → Planned → Result Marking Refused
marking t plan = Ok (record { target = t; plan = plan })

abbrev pub on_marking : {A : Type 0} → (Target → Planned → A) → (Refused → A) → Result Marking Refused → A
on_marking good ill (Ok m) = good m.target m.plan
on_marking good ill (Err r) = ill r

abbrev pub on_test : {A : Type 0} → A → A → (Fault → A) → Result Bool Fault → A
on_test met unmet ill (Ok true) = met
on_test met unmet ill (Ok false) = unmet
on_test met unmet ill (Err f) = ill f

-- 11, 10
abbrev pub marking_by_room : Target → Planned → Result Unit Refusal → Result Marking Refused
marking_by_room t plan r = on_room (marking t plan) (λ n. Err (refusal_of n)) r

-- 2, 7, 11, 10: the target is found, and what the conflict test says of it
unfoldable pub marking_at : List ℕ → State → Result Bool Fault → Target → Result Marking Refused
marking_at s st test t =
    on_leaf_plan
    (λ plan. on_test (Err (refusal_of Refusal.Conflict)) (marking_by_room t plan (room_of (length s / 4096) st (bytes_stamped t) plan)) (λ f. Err (faulty f)) test)
    (λ f. Err (faulty f))
    (stamp_plan s st t)
