-- `tree_check::check_tree` meets its contract: the numbers of levels that are left say what all of them say. Assumes
-- nothing.
use mathlib.Core.Path.{ap, ◌∙◌}
use Prim.Native.Nat.{◌+◌, ◌-◌}
use native.Mathlib.Omega.{arith}
use Rattle.tree_check.specs.Steps.Check.{is_first}
use Rattle.tree_check.proofs.Linking.{check-is_well}
use Rattle.tree_check.proofs.Checking.{well_all, well_none, well_here, well_on}
use Rattle.tree_check.proofs.check_tree.Goals as goal

pub loop-below-init : goal.loop-below-init
loop-below-init c = well_all _ _ _

pub returns-then-is_some : goal.returns-then-is_some
returns-then-is_some c =
    well_here _ _ _ c.loop-below.below (4 - (c.loop-below.below + 1)) _ (omega arith) c.is_some.ensures (ap is_first c.check_subtree.ensures ∙ check-is_well _ _ _ _) c.if-is_some.true ∙ c.loop-below.invariant

pub loop-below-preserved : goal.loop-below-preserved
loop-below-preserved c =
    well_on _ _ _ c.loop-below.below (4 - (c.loop-below.below + 1)) _ (omega arith) c.is_some.ensures (ap is_first c.check_subtree.ensures ∙ check-is_well _ _ _ _) c.if-is_some.false ∙ c.loop-below.invariant

pub returns : goal.returns
returns c = well_none _ _ _ _ _ (omega arith) ∙ c.loop-below.invariant
