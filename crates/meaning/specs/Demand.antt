-- Demand 3, over the calls themselves, and what it rests on: what each call does to the versions of a well-formed tree.
use Rattle.call_answers.specs.declared.Refused.{Refused}
use Rattle.std.specs.Prelude.{Result, Ok, Err, ◌≡◌, true, List, ℕ, Option, None, Some}
use Rattle.row.specs.declared.Cell.{Cell}
use Rattle.page.specs.Page.{page}
use Rattle.leaf.specs.Rows.{Row, row_of}
use Rattle.mvcc.specs.Snapshot.{lookup, good_statuses, Snapshot, Statuses, creator_of, good_snapshot}
use Rattle.mvcc.specs.Rules.{changed_after}
use Rattle.page.specs.Pool.{Grown}
use Rattle.call_answers.specs.Answer.{refused, ended}
use Rattle.call_stamp.specs.Claim.{claim_call}
use Rattle.call_read.specs.Find.{find_visible_run}
use Rattle.theory_tree.specs.Shape.{Shape, chain}
use Rattle.theory_tree.specs.Versions.{SameVersions, best}
use Rattle.meaning.specs.Trees.{TreeIn}
use Rattle.meaning.specs.Change.{Change, claims, key_of, Fits, Ran, run, Roomy}
use Rattle.meaning.specs.Meant.{seen_by, meant}
use Rattle.call_answers.specs.Names.{Conflict}

-- the answer is the one that is meant, and so are the versions of the tree after it, which is well-formed: in particular no
-- call says BadTree there
pub record Does (a : Change) (t : Shape) (r : Ran) : Type 0 where
  pub number : r.number ≡ (meant a (chain t)).number
  pub dropped : r.dropped ≡ (meant a (chain t)).dropped
  pub shape : Shape
  pub tree : TreeIn r.after shape
  pub versions : SameVersions (chain shape) (meant a (chain t)).rows

-- room refusals aside, and these only where Done is meant
abbrev pub Effect : Type 0
Effect = (a : Change) (g : Grown) (t : Shape) → TreeIn g t → Fits a → ((meant a (chain t)).number ≡ 0 → Roomy (run a g)) → Does a t (run a g)

-- a lookup finds the version that is meant, by its place
abbrev pub row_found : List ℕ → Result (ℕ × Cell) Refused → Option Row
row_found s (Ok (p, c)) = Some (row_of (page s p) c)
row_found s (Err r) = None

abbrev pub LookupIs : Type 0
LookupIs =
    (g : Grown) (t : Shape) (key : ℕ) (sn : Snapshot) (ss : Statuses) → TreeIn g t → good_snapshot sn ≡ true → good_statuses ss ≡ true
    → row_found g.pool (find_visible_run g.pool g.state key sn ss) ≡ best (seen_by sn (lookup ss)) key (chain t)

-- "both give each call the same result, the tree state's numbers aside, and leave a well-formed tree with the same versions of
-- every key, taken by creator number, then arrival"
pub record Commuted (a b : Change) (g : Grown) : Type 0 where
  pub first : (run a g).number ≡ (run a (run b g).after).number
  pub first_dropped : (run a g).dropped ≡ (run a (run b g).after).dropped
  pub second : (run b (run a g).after).number ≡ (run b g).number
  pub second_dropped : (run b (run a g).after).dropped ≡ (run b g).dropped
  pub one : Shape
  pub other : Shape
  pub one_tree : TreeIn (run b (run a g).after).after one
  pub other_tree : TreeIn (run a (run b g).after).after other
  pub versions : SameVersions (chain one) (chain other)

-- "on different keys .. If neither order meets a room refusal"
abbrev pub Commute : Type 0
Commute =
    (a b : Change) (g : Grown) (t : Shape) → TreeIn g t → Fits a → Fits b → (key_of a ≡ key_of b → ⊥)
    → Roomy (run a g) → Roomy (run b (run a g).after) → Roomy (run b g) → Roomy (run a (run b g).after) → Commuted a b g

-- "If two different nonzero transactions there, each at or above the other's xmax or in its active list, would each alone
-- succeed in claiming the same version, the first to call gets it, and the second gets Conflict with no byte changed."
abbrev pub Warned : Grown → (key : ℕ) → Snapshot → Statuses → Type 0
Warned h key sn ss = claim_call h.pool h.state key sn ss ≡ ended (refused Conflict) h.pool

abbrev pub FirstClaims : Type 0
FirstClaims =
    (g : Grown) (t : Shape) (key : ℕ) (one two : Snapshot) (ss : Statuses) → TreeIn g t → Fits (claims key one ss) → Fits (claims key two ss)
    → (creator_of one.current ≡ creator_of two.current → ⊥) → changed_after one (creator_of two.current) ≡ true
    → changed_after two (creator_of one.current) ≡ true → (run (claims key one ss) g).number ≡ 0 → (run (claims key two ss) g).number ≡ 0
    → find_visible_run g.pool g.state key one ss ≡ find_visible_run g.pool g.state key two ss → Warned (run (claims key one ss) g).after key two ss
