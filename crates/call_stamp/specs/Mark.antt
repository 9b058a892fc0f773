-- Stamp, plain stamp and plain delete (document 01, sections 4 to 6): the largest visible creator of the key, the last on a
-- tie, gets the deleter's stamp. `.._run` also says the fault behind a BadTree, and the call hides it.
use Rattle.std.specs.Prelude.{Option, Result, Ok, Err, Bool, false, List, ℕ}
use Rattle.store.specs.Pick.{pick}
use Rattle.page.specs.Page.{page}
use Rattle.page.specs.declared.pool.State.{State}
use Rattle.page.specs.Pool.{grown}
use Rattle.row.specs.declared.Fault.{Fault}
use Rattle.row.specs.declared.Cell.{Cell}
use Rattle.mvcc.specs.Snapshot.{lookup, creator_of, Snapshot, Statuses, plain_snapshot}
use Rattle.tree.specs.Lookup.{test_in_tree}
use Rattle.tree_stamp.specs.Target.{target_of}
use Rattle.tree_stamp.specs.Stamp.{stamped_at}
use Rattle.tree_stamp.specs.Ready.{on_marking, marking_at}
use Rattle.tree_stamp.specs.declared.ready.Marking.{Marking}
use Rattle.call_answers.specs.declared.Refused.{Refused}
use Rattle.call_answers.specs.Answer.{Ended, Outcome, hide_end, stays, changed_to}
use Rattle.call_read.specs.Find.{find_visible_run}

-- "anything but a found version leaving at once"
abbrev pub on_looked : {A : Type 0} → (ℕ → Cell → A) → (Refused → A) → Result (ℕ × Cell) Refused → A
on_looked good ill (Ok (p, c)) = good p c
on_looked good ill (Err r) = ill r

-- what the conflict test says of the found creator: only a claim asks
abbrev pub conflict_told : List ℕ → State → (key : ℕ) → Snapshot → Statuses → (claiming : Bool) → (seen : ℕ) → Result Bool Fault
conflict_told s st key sn ss claiming seen =
    pick claiming (test_in_tree s st.used st.root key sn (lookup ss) claiming seen) (Ok false)

-- 1, 3, 4, 2, 8, 7, 11, 10: "A stamp or claim that finds nothing does not climb"
unfoldable pub mark_ready : List ℕ → State → (key : ℕ) → Snapshot → Statuses → (claiming : Bool) → Result Marking Refused
mark_ready s st key sn ss claiming =
    on_looked (λ p c. marking_at s st (conflict_told s st key sn ss claiming c.version.creator) (target_of (page s p) p c)) (λ r. Err r)
    (find_visible_run s st key sn ss)

-- stored with the stamp of d
abbrev pub marked : List ℕ → State → (d : ℕ) → Result Marking Refused → Ended (Result State Refused)
marked s st d x = on_marking (λ t plan. changed_to (stamped_at d t plan (grown s st))) (stays s) x

unfoldable pub mark_run : List ℕ → State → (key : ℕ) → Snapshot → Statuses → (d : ℕ) → Ended (Result State Refused)
mark_run s st key sn ss d = marked s st d (mark_ready s st key sn ss false)

unfoldable pub mark_call : List ℕ → State → (key : ℕ) → Snapshot → Statuses → (d : ℕ) → Ended (Outcome State)
mark_call s st key sn ss d = hide_end (mark_run s st key sn ss d)

-- plain stamp: "xmax 2^64 - 1, an empty list"
unfoldable pub mark_plain_call : List ℕ → State → (key : ℕ) → Option ℕ → Statuses → (d : ℕ) → Ended (Outcome State)
mark_plain_call s st key cur ss d = mark_call s st key (plain_snapshot cur) ss d

-- plain delete: "the stamp of a plain delete, is that transaction, or 0 if there is none"
unfoldable pub delete_call : List ℕ → State → (key : ℕ) → Option ℕ → Statuses → Ended (Outcome State)
delete_call s st key cur ss = mark_plain_call s st key cur ss (creator_of cur)
