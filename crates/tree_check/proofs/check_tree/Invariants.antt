-- `tree_check::check_tree` meets its contract: the numbers of levels that are left say what all of them say. Assumes
-- nothing.
use mathlib.Core.Path.{◌≡◌}
use Prim.Native.Nat.{◌-◌}
use Rattle.tree_check.specs.Check.{is_well_formed}
use Rattle.tree_check.proofs.Checking.{well_from}
use Rattle.tree_check.proofs.check_tree.Given as goal

abbrev pub invariant-loop-below : goal.invariant-loop-below
invariant-loop-below l = well_from (4 - l.below) l.below l.used l.root l.pool ≡ is_well_formed l.pool l.used l.root
