-- The visible listing (document 01, sections 2, 4 and 6). `scan_run` also says the fault behind a BadTree.
use Rattle.std.specs.Prelude.{Result, Err, List, ℕ}
use Rattle.page.specs.Pool.{good_pool}
use Rattle.page.specs.declared.pool.State.{State}
use Rattle.mvcc.specs.Snapshot.{lookup, good_statuses, Snapshot, Statuses, good_snapshot}
use Rattle.list_visible.specs.Visible.{scan_tree}
use Rattle.call_answers.specs.declared.Refused.{Refused}
use Rattle.call_answers.specs.declared.Refusal.{Refusal}
use Rattle.call_answers.specs.Answer.{written, Written, Outcome, refusal_of, hide_list}
use Rattle.call_answers.specs.Names.{unless}

-- 1, 3, 4, 2, 12
unfoldable pub scan_run : List ℕ → State → Snapshot → Statuses → (out : List ℕ) → Written (Result ℕ Refused)
scan_run s st sn ss out =
    unless (good_pool s st) (written (Err (refusal_of Refusal.BadPool)) out)
    (unless (good_snapshot sn) (written (Err (refusal_of Refusal.BadSnapshot)) out)
    (unless (good_statuses ss) (written (Err (refusal_of Refusal.BadStatuses)) out)
    (scan_tree s st.used st.root sn (lookup ss) out)))

unfoldable pub scan_visible_call : List ℕ → State → Snapshot → Statuses → (out : List ℕ) → Written (Outcome ℕ)
scan_visible_call s st sn ss out = hide_list (scan_run s st sn ss out)
