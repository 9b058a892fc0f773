-- Lookup (document 01, sections 4 and 6): the largest visible creator of the key; on a tie the last in chain order.
-- `find_visible_run` also says where it was met, or the fault behind a BadTree; the call hides both.
use Rattle.std.specs.Prelude.{Option, Some, None, Result, Ok, Err, List, ℕ}
use Rattle.page.specs.Pool.{good_pool}
use Rattle.page.specs.declared.pool.State.{State}
use Rattle.row.specs.declared.Fault.{Fault}
use Rattle.row.specs.declared.Cell.{Cell}
use Rattle.row.specs.declared.Version.{Version}
use Rattle.mvcc.specs.Snapshot.{lookup, good_statuses, Snapshot, Statuses, good_snapshot, plain_snapshot}
use Rattle.leaf.specs.Find.{Best}
use Rattle.tree.specs.Lookup.{best_in_tree, in_pool}
use Rattle.call_answers.specs.declared.Refused.{Refused}
use Rattle.call_answers.specs.declared.Refusal.{Refusal}
use Rattle.call_answers.specs.Answer.{Outcome, faulty, refusal_of, hide}
use Rattle.call_answers.specs.Names.{unless}

-- 8 is Absent: "nothing visible to find"
abbrev pub looked_best : Result Best Fault → Result (ℕ × Cell) Refused
looked_best (Ok (Some (p, c))) = Ok (p, c)
looked_best (Ok None) = Err (refusal_of Refusal.Absent)
looked_best (Err f) = Err (faulty f)

-- 1, 3, 4, 2, 8
unfoldable pub find_visible_run : List ℕ → State → (key : ℕ) → Snapshot → Statuses → Result (ℕ × Cell) Refused
find_visible_run s state key sn ss =
    unless (good_pool s state) (Err (refusal_of Refusal.BadPool))
    (unless (good_snapshot sn) (Err (refusal_of Refusal.BadSnapshot))
    (unless (good_statuses ss) (Err (refusal_of Refusal.BadStatuses))
    (looked_best (best_in_tree s state.used state.root key sn (lookup ss)))))

-- with its data as a part of the pool
abbrev pub placed : Result (ℕ × Cell) Refused → Result Version Refused
placed (Ok (p, c)) = Ok (in_pool p c)
placed (Err r) = Err r

unfoldable pub find_visible_call : List ℕ → State → (key : ℕ) → Snapshot → Statuses → Outcome Version
find_visible_call s state key sn ss = hide (placed (find_visible_run s state key sn ss))

-- plain lookup: "xmax 2^64 - 1, an empty list and the caller's current transaction, if any"
unfoldable pub find_call : List ℕ → State → (key : ℕ) → Option ℕ → Statuses → Outcome Version
find_call s state key cur ss = find_visible_call s state key (plain_snapshot cur) ss
