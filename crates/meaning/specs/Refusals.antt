-- Demand 1 (document 01, section 6): "A refused call changes no byte of pool or output and no number of the tree state", "a
-- refusal carries its number only", and each call has the refusals of its own. For every input, damaged pools too.
use Rattle.std.specs.Prelude.{Option, ◌≡◌, true, List, [], ◌∷◌, ℕ}
use Rattle.store.specs.Le.{AreBytes}
use Rattle.page.specs.declared.pool.State.{State}
use Rattle.row.specs.declared.Pointer.{Pointer}
use Rattle.mvcc.specs.Lists.{mem}
use Rattle.call_answers.specs.Answer.{Written, Ended, Outcome, nothing}
use Rattle.call_read.specs.Create.{create_call}
use Rattle.call_read.specs.Find.{find_visible_call, find_call}
use Rattle.call_read.specs.Conflict.{conflict_call}
use Rattle.call_read.specs.Check.{check_call}
use Rattle.call_read.specs.Listings.{versions_of_call, all_versions_call}
use Rattle.call_read.specs.Numbers.{page_numbers_call}
use Rattle.call_read.specs.Scan.{scan_visible_call}
use Rattle.call_insert.specs.Insert.{insert_call, insert_version_call}
use Rattle.call_stamp.specs.Mark.{mark_call, mark_plain_call, delete_call}
use Rattle.call_stamp.specs.Claim.{claim_call}
use Rattle.call_clean.specs.Remove.{remove_call}
use Rattle.call_clean.specs.Vacuum.{vacuum_call}
use Rattle.mvcc.specs.Snapshot.{Snapshot, Statuses}
use Rattle.call_answers.specs.Names.{Short, Absent, BadData, BadPool, BadSnapshot, BadStatuses, BadTree, Conflict, Duplicate, NoPages, TooDeep, Undividable}

-- the answer is Done or one of these refusals, which gives nothing
pub record Refuses {A : Type 0} (numbers : List ℕ) (o : Outcome A) : Type 0 where
  pub known : mem o.number (0 ∷ numbers) ≡ true
  pub plain : (o.number ≡ 0 → ⊥) → o.gives ≡ nothing

-- and the pool is then what it was
pub record Keeps {A : Type 0} (s numbers : List ℕ) (e : Ended (Outcome A)) : Type 0 where
  pub refuses : Refuses numbers e.answer
  pub stays : (e.answer.number ≡ 0 → ⊥) → e.pool ≡ s

-- or the output
pub record KeepsOutput (out numbers : List ℕ) (w : Written (Outcome ℕ)) : Type 0 where
  pub refuses : Refuses numbers w.answer
  pub stays : (w.answer.number ≡ 0 → ⊥) → w.output ≡ out

pub record ReadsRefuse : Type 0 where
  pub create : (s : List ℕ) (st : State) → Keeps s (BadPool ∷ NoPages ∷ []) (create_call s st)
  pub check : (s : List ℕ) (st : State) → Refuses (BadPool ∷ []) (check_call s st)
  pub find_visible : (s : List ℕ) (st : State) (key : ℕ) (sn : Snapshot) (ss : Statuses)
      → Refuses (BadPool ∷ BadSnapshot ∷ BadStatuses ∷ BadTree ∷ Absent ∷ []) (find_visible_call s st key sn ss)
  pub find : (s : List ℕ) (st : State) (key : ℕ) (cur : Option ℕ) (ss : Statuses) → Refuses (BadPool ∷ BadStatuses ∷ BadTree ∷ Absent ∷ []) (find_call s st key cur ss)
  pub conflict : (s : List ℕ) (st : State) (key seen : ℕ) (sn : Snapshot)
      → Refuses (BadPool ∷ BadSnapshot ∷ BadTree ∷ []) (conflict_call s st key sn seen)
  pub versions_of : (s : List ℕ) (st : State) (key : ℕ) (out : List ℕ) → KeepsOutput out (BadPool ∷ BadTree ∷ Short ∷ []) (versions_of_call s st key out)
  pub all_versions : (s : List ℕ) (st : State) (out : List ℕ) → KeepsOutput out (BadPool ∷ BadTree ∷ Short ∷ []) (all_versions_call s st out)
  pub scan_visible : (s : List ℕ) (st : State) (sn : Snapshot) (ss : Statuses) (out : List ℕ)
      → KeepsOutput out (BadPool ∷ BadSnapshot ∷ BadStatuses ∷ BadTree ∷ Short ∷ []) (scan_visible_call s st sn ss out)
  pub page_numbers : (s : List ℕ) (st : State) (out : List ℕ) → KeepsOutput out (BadPool ∷ BadTree ∷ Short ∷ []) (page_numbers_call s st out)

-- a stamp is never Undividable: 9 is none of its refusals, whatever bytes the pool has
pub record WritesRefuse : Type 0 where
  pub insert : (s : List ℕ) (st : State) (key : ℕ) (body : List ℕ) (cur : Option ℕ) (ss : Statuses)
      → Keeps s (BadPool ∷ BadStatuses ∷ BadData ∷ BadTree ∷ Duplicate ∷ Undividable ∷ TooDeep ∷ NoPages ∷ []) (insert_call s st key cur ss body)
  pub insert_version : (s : List ℕ) (st : State) (key creator : ℕ) (stamp : Option ℕ) (pointer : Option Pointer) (body : List ℕ)
      → Keeps s (BadPool ∷ BadData ∷ BadTree ∷ Undividable ∷ TooDeep ∷ NoPages ∷ []) (insert_version_call s st key creator stamp pointer body)
  pub mark : (s : List ℕ) (st : State) (key d : ℕ) (sn : Snapshot) (ss : Statuses) → AreBytes s
      → Keeps s (BadPool ∷ BadSnapshot ∷ BadStatuses ∷ BadTree ∷ Absent ∷ TooDeep ∷ NoPages ∷ []) (mark_call s st key sn ss d)
  pub mark_plain : (s : List ℕ) (st : State) (key d : ℕ) (cur : Option ℕ) (ss : Statuses) → AreBytes s
      → Keeps s (BadPool ∷ BadStatuses ∷ BadTree ∷ Absent ∷ TooDeep ∷ NoPages ∷ []) (mark_plain_call s st key cur ss d)
  pub delete : (s : List ℕ) (st : State) (key : ℕ) (cur : Option ℕ) (ss : Statuses) → AreBytes s
      → Keeps s (BadPool ∷ BadStatuses ∷ BadTree ∷ Absent ∷ TooDeep ∷ NoPages ∷ []) (delete_call s st key cur ss)
  pub claim : (s : List ℕ) (st : State) (key : ℕ) (sn : Snapshot) (ss : Statuses) → AreBytes s
      → Keeps s (BadPool ∷ BadSnapshot ∷ BadStatuses ∷ BadTree ∷ Absent ∷ Conflict ∷ TooDeep ∷ NoPages ∷ []) (claim_call s st key sn ss)
  pub remove : (s : List ℕ) (st : State) (key : ℕ) → Keeps s (BadPool ∷ BadTree ∷ []) (remove_call s st key)
  pub vacuum : (s : List ℕ) (st : State) (bound : ℕ) (ss : Statuses) → Keeps s (BadPool ∷ BadStatuses ∷ BadTree ∷ []) (vacuum_call s st ss bound)
