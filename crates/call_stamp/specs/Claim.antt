-- Claim (document 01, section 4): "lookup, conflict test against the found creator, then a stamp with the current
-- transaction", as one call. 3 is also "claim with no current, or current 0".
use Rattle.std.specs.Prelude.{Err, Result, true, List, ℕ, eqb}
use Rattle.store.specs.Pick.{pick}
use Rattle.page.specs.Pool.{good_pool}
use Rattle.page.specs.declared.pool.State.{State}
use Rattle.mvcc.specs.Snapshot.{creator_of, Snapshot, Statuses}
use Rattle.tree_stamp.specs.declared.ready.Marking.{Marking}
use Rattle.call_answers.specs.declared.Refused.{Refused}
use Rattle.call_answers.specs.declared.Refusal.{Refusal}
use Rattle.call_answers.specs.Answer.{Ended, Outcome, refusal_of, hide_end}
use Rattle.call_answers.specs.Names.{unless}
use Rattle.call_stamp.specs.Mark.{mark_ready, marked}

-- 1, 3, 4, 2, 8, 7, 11, 10; a transaction that is none has the number 0 here
unfoldable pub claim_ready : List ℕ → State → (key : ℕ) → Snapshot → Statuses → Result Marking Refused
claim_ready s st key sn ss =
    unless (good_pool s st) (Err (refusal_of Refusal.BadPool))
    (pick (eqb (creator_of sn.current) 0) (Err (refusal_of Refusal.BadSnapshot))
    (mark_ready s st key sn ss true))

unfoldable pub claim_run : List ℕ → State → (key : ℕ) → Snapshot → Statuses → Ended (Result State Refused)
claim_run s st key sn ss = marked s st (creator_of sn.current) (claim_ready s st key sn ss)

unfoldable pub claim_call : List ℕ → State → (key : ℕ) → Snapshot → Statuses → Ended (Outcome State)
claim_call s st key sn ss = hide_end (claim_run s st key sn ss)
