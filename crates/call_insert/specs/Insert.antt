-- Insert and insert version (document 01, sections 4 to 6). What either would do is judged on the unchanged pool, and only
-- then stored; `.._run` also says the fault behind a BadTree, and the call hides it.
use Rattle.std.specs.Prelude.{Err, Option, None, Result, List, ℕ, leb, length}
use Rattle.call_answers.specs.declared.Refused.{Refused}
use Rattle.call_answers.specs.declared.Refusal.{Refusal}
use Rattle.page.specs.Pool.{good_pool, grown}
use Rattle.page.specs.declared.pool.State.{State}
use Rattle.row.specs.Write.{cell_size, cell_bytes, max_data}
use Rattle.row.specs.declared.Pointer.{Pointer}
use Rattle.mvcc.specs.Snapshot.{good_statuses, creator_of, Statuses}
use Rattle.tree_insert.specs.Insert.{inserted_at}
use Rattle.tree_insert.specs.Ready.{on_ready, version_at, new_at}
use Rattle.tree_insert.specs.declared.ready.Ready.{Ready}
use Rattle.call_answers.specs.Answer.{Ended, Outcome, refusal_of, hide_end, stays, changed_to}
use Rattle.call_answers.specs.Names.{unless}

-- ---- insert version

-- BadPool, BadData, BadTree, Undividable, TooDeep, NoPages
unfoldable pub version_ready : List ℕ → State → (key creator : ℕ) → Option ℕ → Option Pointer → (len : ℕ) → Result Ready Refused
version_ready s st key creator stamp pointer len =
    unless (good_pool s st) (Err (refusal_of Refusal.BadPool))
    (unless (leb len max_data) (Err (refusal_of Refusal.BadData))
    (version_at s st key creator (cell_size stamp pointer len)))

-- "A new version goes after equals of its key and creator"
unfoldable pub insert_version_run : List ℕ → State → (key creator : ℕ) → Option ℕ → Option Pointer → (body : List ℕ) → Ended (Result State Refused)
insert_version_run s st key creator stamp pointer body =
    on_ready (λ x plan. changed_to (inserted_at x plan (cell_bytes key creator stamp pointer body) (grown s st))) (stays s)
    (version_ready s st key creator stamp pointer (length body))

unfoldable pub insert_version_call : List ℕ → State → (key creator : ℕ) → Option ℕ → Option Pointer → (body : List ℕ) → Ended (Outcome State)
insert_version_call s st key creator stamp pointer body = hide_end (insert_version_run s st key creator stamp pointer body)

-- ---- insert

-- BadPool, BadStatuses, BadData, BadTree, Duplicate, Undividable, TooDeep, NoPages
unfoldable pub insert_ready : List ℕ → State → (key : ℕ) → Option ℕ → Statuses → (len : ℕ) → Result Ready Refused
insert_ready s st key cur ss len =
    unless (good_pool s st) (Err (refusal_of Refusal.BadPool))
    (unless (good_statuses ss) (Err (refusal_of Refusal.BadStatuses))
    (unless (leb len max_data) (Err (refusal_of Refusal.BadData))
    (new_at s st key cur ss (cell_size None None len))))

-- the new version is live and points to none
unfoldable pub insert_run : List ℕ → State → (key : ℕ) → Option ℕ → Statuses → (body : List ℕ) → Ended (Result State Refused)
insert_run s st key cur ss body =
    on_ready (λ x plan. changed_to (inserted_at x plan (cell_bytes key (creator_of cur) None None body) (grown s st))) (stays s)
    (insert_ready s st key cur ss (length body))

unfoldable pub insert_call : List ℕ → State → (key : ℕ) → Option ℕ → Statuses → (body : List ℕ) → Ended (Outcome State)
insert_call s st key cur ss body = hide_end (insert_run s st key cur ss body)
