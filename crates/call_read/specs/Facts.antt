-- What the cases of document 01, section 8, ask of the reading calls: P1, the empty tree, and the listing's half of P9 (the
-- lookup's half is leaf/FindFacts: LookupChooses).
use Rattle.std.specs.Prelude.{Option, ◌≡◌, true, false, List, [], ◌∷◌, ℕ}
use Rattle.page.specs.Pool.{good_pool}
use Rattle.page.specs.declared.pool.State.{State}
use Rattle.mvcc.specs.Snapshot.{good_statuses, Snapshot, Statuses, good_snapshot}
use Rattle.mvcc.specs.Rules.{visible}
use Rattle.leaf.specs.Rows.{Row}
use Rattle.tree.specs.Create.{rooted}
use Rattle.list_visible.specs.Visible.{scan_rows}
use Rattle.call_answers.specs.Names.{Absent}
use Rattle.call_answers.specs.Answer.{written, refused, done}
use Rattle.call_read.specs.Create.{create_call, has_page}
use Rattle.call_read.specs.Find.{find_visible_call, find_call}
use Rattle.call_read.specs.Conflict.{conflict_call}
use Rattle.call_read.specs.Check.{check_call}
use Rattle.call_read.specs.Listings.{versions_of_call, all_versions_call}
use Rattle.call_read.specs.Scan.{scan_visible_call}

-- a tree without versions, as the calls see it
pub record EmptyTree (s : List ℕ) (st : State) : Type 0 where
  pub checked : check_call s st ≡ done true
  pub absent : (key : ℕ) (sn : Snapshot) (ss : Statuses) → good_snapshot sn ≡ true → good_statuses ss ≡ true
      → find_visible_call s st key sn ss ≡ refused Absent
  pub plainly_absent : (key : ℕ) (cur : Option ℕ) (ss : Statuses) → good_statuses ss ≡ true → find_call s st key cur ss ≡ refused Absent
  pub no_conflict : (key seen : ℕ) (sn : Snapshot) → good_snapshot sn ≡ true → conflict_call s st key sn seen ≡ done false
  pub none_of_key : (key : ℕ) (out : List ℕ) → versions_of_call s st key out ≡ written (done 0) out
  pub none : (out : List ℕ) → all_versions_call s st out ≡ written (done 0) out
  pub none_seen : (sn : Snapshot) (ss : Statuses) (out : List ℕ) → good_snapshot sn ≡ true → good_statuses ss ≡ true
      → scan_visible_call s st sn ss out ≡ written (done 0) out

-- P1: what create makes
abbrev pub CreateIsEmpty : Type 0
CreateIsEmpty = (s : List ℕ) (st : State) → good_pool s st ≡ true → has_page s st ≡ true → EmptyTree (create_call s st).pool (rooted s st)

-- P9: of two visible versions with one key and one creator the listing has the first
abbrev pub TieToFirst : Type 0
TieToFirst =
    (sn : Snapshot) (st : ℕ → ℕ) (r x : Row) → r.key ≡ x.key → r.creator ≡ x.creator
    → visible sn st r.creator r.stamp ≡ true → visible sn st x.creator x.stamp ≡ true
    → scan_rows sn st (r ∷ (x ∷ [])) ≡ r ∷ []
