-- What the reading calls, create and vacuum come to on a well-formed tree (document 01, sections 2, 4 and 5): none of them says
-- BadTree there.
use Rattle.std.specs.Prelude.{◌≡◌, true, ◌&&◌, List, [], ◌∷◌, ◌++◌, ℕ}
use Rattle.call_answers.specs.Names.{Absent}
use Rattle.store.specs.Le.{AreBytes}
use Rattle.page.specs.Pool.{good_pool, Grown, grown}
use Rattle.mvcc.specs.Snapshot.{lookup, good_statuses, Snapshot, Statuses, good_snapshot}
use Rattle.mvcc.specs.Rules.{conflicting}
use Rattle.leaf_vacuum.specs.Vacuum.{kept_rows, dropped_rows}
use Rattle.tree.specs.Create.{rooted}
use Rattle.list_records.specs.Listed.{fitted}
use Rattle.call_answers.specs.Answer.{Written, done, Ended, Outcome, hide_list}
use Rattle.list_records.specs.Records.{records}
use Rattle.list_pages.specs.Numbers.{number_records}
use Rattle.list_visible.specs.Visible.{scan_rows}
use Rattle.call_read.specs.Create.{create_call, has_page}
use Rattle.call_read.specs.Find.{find_visible_call}
use Rattle.call_read.specs.Conflict.{conflict_call}
use Rattle.call_read.specs.Listings.{versions_of_call, all_versions_call}
use Rattle.call_read.specs.Numbers.{page_numbers_call}
use Rattle.call_read.specs.Scan.{scan_visible_call}
use Rattle.call_clean.specs.Vacuum.{vacuum_call}
use Rattle.theory_tree.specs.Shape.{Shape, leaf, node, pair, chain}
use Rattle.leaf.specs.Rows.{only, of_key}
use Rattle.theory_tree.specs.Versions.{best}
use Rattle.meaning.specs.Trees.{TreeIn}
use Rattle.meaning.specs.Meant.{seen_by, some_of, on_best}

-- the listing x into that output: Done with its length, or Short
abbrev pub listing : List ℕ → List ℕ → Written (Outcome ℕ)
listing x out = hide_list (fitted x out)

-- "a page, then its children's subtrees from the last child to the first"
abbrev pub numbers_in : Shape → List ℕ
numbers_in (leaf p rs) = p ∷ []
numbers_in (node p f) = p ∷ numbers_in f
numbers_in (pair a k b) = numbers_in b ++ numbers_in a

pub record ReadsAre (g : Grown) (t : Shape) : Type 0 where
  pub find : (key : ℕ) (sn : Snapshot) (ss : Statuses) → good_snapshot sn ≡ true → good_statuses ss ≡ true
      → (find_visible_call g.pool g.state key sn ss).number ≡ on_best Absent (λ y. 0) (best (seen_by sn (lookup ss)) key (chain t))
  pub conflict : (key seen : ℕ) (sn : Snapshot) → good_snapshot sn ≡ true
      → conflict_call g.pool g.state key sn seen
      ≡ done (some_of (λ x. of_key key x && conflicting sn seen x.creator x.stamp) (chain t))
  pub versions_of : (key : ℕ) (out : List ℕ) → versions_of_call g.pool g.state key out ≡ listing (records (only (of_key key) (chain t))) out
  pub all_versions : (out : List ℕ) → all_versions_call g.pool g.state out ≡ listing (records (chain t)) out
  pub scan_visible : (sn : Snapshot) (ss : Statuses) (out : List ℕ) → good_snapshot sn ≡ true → good_statuses ss ≡ true
      → scan_visible_call g.pool g.state sn ss out ≡ listing (records (scan_rows sn (lookup ss) (chain t))) out
  pub page_numbers : (out : List ℕ) → page_numbers_call g.pool g.state out ≡ listing (number_records (numbers_in t)) out

abbrev pub ReadsTell : Type 0
ReadsTell = (g : Grown) (t : Shape) → TreeIn g t → ReadsAre g t

-- create: the new root is an empty tree, and a tree that was well-formed stays so
pub record CreatedTree (g : Grown) : Type 0 where
  pub new : TreeIn (grown (create_call g.pool g.state).pool (rooted g.pool g.state)) (leaf g.state.used [])
  pub others : (root : ℕ) (t : Shape) → TreeIn (grown g.pool (record { root = root; used = g.state.used })) t
      → TreeIn (grown (create_call g.pool g.state).pool (record { root = root; used = (rooted g.pool g.state).used })) t

abbrev pub CreateMakes : Type 0
CreateMakes = (g : Grown) → AreBytes g.pool → good_pool g.pool g.state ≡ true → has_page g.pool g.state ≡ true → CreatedTree g

-- vacuum: every leaf is cleaned, and the count is that of the versions that meet the drop rule beforehand
pub record VacuumedTree (ss : Statuses) (bound : ℕ) (g : Grown) (t : Shape) (e : Ended (Outcome ℕ)) : Type 0 where
  pub count : e.answer ≡ done (dropped_rows (lookup ss) bound (chain t))
  pub shape : Shape
  pub tree : TreeIn (grown e.pool g.state) shape
  pub rows : chain shape ≡ kept_rows (lookup ss) bound (chain t)

abbrev pub VacuumCleans : Type 0
VacuumCleans =
    (g : Grown) (t : Shape) (bound : ℕ) (ss : Statuses) → TreeIn g t → good_statuses ss ≡ true
    → VacuumedTree ss bound g t (vacuum_call g.pool g.state ss bound)
