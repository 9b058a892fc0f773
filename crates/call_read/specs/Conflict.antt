-- Conflict (document 01, sections 4 and 6): whether some version of the key conflicts with a seen creator number. "Statuses
-- play no part", so it takes no status list.
use Rattle.std.specs.Prelude.{Result, Ok, Err, Bool, false, List, ℕ}
use Rattle.page.specs.Pool.{good_pool}
use Rattle.page.specs.declared.pool.State.{State}
use Rattle.row.specs.declared.Fault.{Fault}
use Rattle.mvcc.specs.Snapshot.{lookup, Snapshot, good_snapshot, no_statuses}
use Rattle.tree.specs.Lookup.{test_in_tree}
use Rattle.call_answers.specs.Answer.{refused, done, Outcome}
use Rattle.call_answers.specs.Names.{BadPool, BadSnapshot, BadTree, unless}

-- the fault is hidden
abbrev pub test_outcome : Result Bool Fault → Outcome Bool
test_outcome (Ok b) = done b
test_outcome (Err f) = refused BadTree

-- 1, 3, 2
unfoldable pub conflict_call : List ℕ → State → (key : ℕ) → Snapshot → (seen : ℕ) → Outcome Bool
conflict_call s state key sn seen =
    unless (good_pool s state) (refused BadPool)
    (unless (good_snapshot sn) (refused BadSnapshot)
    (test_outcome (test_in_tree s state.used state.root key sn (lookup no_statuses) false seen)))
