-- The theorems speak of something: pools with trees of two and three levels, and two claims that meet all premises of
-- FirstClaims.
use Rattle.std.specs.Prelude.{Some, ◌≡◌, true, [], ◌∷◌, ℕ}
use Rattle.mvcc.specs.Rules.{changed_after}
use Rattle.page.specs.Pool.{Grown}
use Rattle.call_read.specs.Find.{find_visible_run}
use Rattle.theory_tree.specs.Shape.{Shape, Deep}
use Rattle.meaning.specs.Trees.{TreeIn}
use Rattle.meaning.specs.Change.{claims, Fits, run}
use Rattle.meaning.specs.Demand.{Warned}
use Rattle.mvcc.specs.Snapshot.{snapshot, Snapshot, no_statuses}

-- a tree with n levels below its root
pub record TreeOf (n : ℕ) : Type 0 where
  pub pool : Grown
  pub shape : Shape
  pub tree : TreeIn pool shape
  pub deep : Deep n shape

pub record ManyLevels : Type 0 where
  pub two : TreeOf 1
  pub three : TreeOf 2

-- transactions 15 and 16 both run: what one of them sees by
abbrev pub teacher : ℕ → Snapshot
teacher c = snapshot 20 (15 ∷ 16 ∷ []) (Some c)

-- and both claim key 7
pub record TwoClaimants : Type 0 where
  pub pool : Grown
  pub shape : Shape
  pub tree : TreeIn pool shape
  pub first_fits : Fits (claims 7 (teacher 15) no_statuses)
  pub second_fits : Fits (claims 7 (teacher 16) no_statuses)
  pub apart : ◌≡◌ {A = ℕ} 15 16 → ⊥
  pub first_after : changed_after (teacher 16) 15 ≡ true
  pub second_after : changed_after (teacher 15) 16 ≡ true
  pub first_done : (run (claims 7 (teacher 15) no_statuses) pool).number ≡ 0
  pub second_done : (run (claims 7 (teacher 16) no_statuses) pool).number ≡ 0
  pub same : find_visible_run pool.pool pool.state 7 (teacher 15) no_statuses
      ≡ find_visible_run pool.pool pool.state 7 (teacher 16) no_statuses

-- and so the second is warned
abbrev pub SecondWarned : Type 0
SecondWarned =
    (x : TwoClaimants)
    → Warned (run (claims 7 (teacher 15) no_statuses) x.pool).after 7 (teacher 16) no_statuses
