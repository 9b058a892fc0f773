-- What a lookup chooses in a leaf (document 01, section 4: "the largest visible creator; on a tie the last in chain order",
-- P9's first half), and that a judgement's yes does not depend on the page's number.
use Rattle.std.specs.Prelude.{Some, None, Ok, ◌≡◌, Bool, true, List, [], ◌∷◌, ◌++◌, ℕ, ◌≤◌, ◌<◌}
use Rattle.mvcc.specs.Rules.{visible}
use Rattle.row.specs.declared.Cell.{Cell}
use Rattle.leaf.specs.Cells.{fold_cells, judge_leaf}
use Rattle.leaf.specs.Find.{newest, run_leaf, Best}
use Rattle.leaf.specs.Rows.{rows_of, rows, only, of_key}
use Rattle.leaf.specs.declared.find.Run.{Run}
use Rattle.mvcc.specs.Snapshot.{Snapshot}

-- a version of the key that is seen
pub record Candidate (key : ℕ) (sn : Snapshot) (st : ℕ → ℕ) (c : Cell) : Type 0 where
  pub of_the_key : c.key ≡ key
  pub seen : visible sn st c.version.creator c.version.stamp ≡ true

-- whatever is a candidate among cs meets P
abbrev pub EachCandidate : ℕ → Snapshot → (ℕ → ℕ) → (Cell → Type 0) → List Cell → Type 0
EachCandidate key sn st P [] = Unit
EachCandidate key sn st P (c ∷ cs) = (Candidate key sn st c → P c) × EachCandidate key sn st P cs

-- c is chosen among before, c and after: no candidate has a larger creator, and none after it an equal one
pub record ChosenCell (key : ℕ) (sn : Snapshot) (st : ℕ → ℕ) (cs : List Cell) (c : Cell) : Type 0 where
  pub before : List Cell
  pub after : List Cell
  pub there : cs ≡ before ++ (c ∷ after)
  pub candidate : Candidate key sn st c
  pub none_larger : EachCandidate key sn st (λ x. x.version.creator ≤ c.version.creator) before
  pub last : EachCandidate key sn st (λ x. x.version.creator < c.version.creator) after

-- what a walk from nothing ends with
abbrev pub ChosenBy : (p key : ℕ) → Snapshot → (ℕ → ℕ) → List Cell → Best → Type 0
ChosenBy p key sn st cs None = EachCandidate key sn st (λ x. ⊥) cs
ChosenBy p key sn st cs (Some (q, c)) = (q ≡ p) × ChosenCell key sn st cs c

abbrev pub LookupChooses : Type 0
LookupChooses =
    (sn : Snapshot) (st : ℕ → ℕ) (p key : ℕ) (cs : List Cell)
    → ChosenBy p key sn st cs (fold_cells (newest p key sn st) None cs)

-- a judgement's yes is the same for any page number
abbrev pub AnyPage : Type 0
AnyPage = (p q e : ℕ) (pg : List ℕ) → judge_leaf pg p ≡ Ok e → judge_leaf pg q ≡ Ok e

-- the cells of a run are exactly the key's, in their order
abbrev pub RunIsKeys : Type 0
RunIsKeys =
    (pg : List ℕ) (p key e : ℕ) (run : Run) (larger : Bool) → run_leaf pg p key ≡ Ok (run, e, larger)
    → rows_of pg run.count run.from ≡ only (of_key key) (rows pg)
