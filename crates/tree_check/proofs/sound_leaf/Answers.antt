-- `tree_check::sound_leaf` meets its contract: each way out is one law of Checking. Assumes nothing.
use mathlib.Core.Path.{◌∙◌}
use borrow.Author.Tests.{ne_eqb}
use Rattle.tree_check.proofs.Checking.{leaf_unused, leaf_orphan, leaf-cells}
use Rattle.std.proofs.Common.{rules}
use Rattle.tree_check.proofs.sound_leaf.Goals as goal

pub returns-then-used-p : goal.returns-then-used-p
returns-then-used-p c = leaf_unused _ _ _ _ _ _ (search rules)

pub returns-then-get_parent-parent : goal.returns-then-get_parent-parent
returns-then-get_parent-parent c = leaf-cells _ _ _ _ _ _ (search rules) c.page_of-pg.ensures.0 c.get_parent.ensures (search rules) c.cells_within.ensures

pub returns-else-get_parent-parent : goal.returns-else-get_parent-parent
returns-else-get_parent-parent c =
    ne_eqb _ _ c.if-get_parent-parent.false ∙ leaf_orphan _ _ _ _ _ _ (search rules) c.page_of-pg.ensures.0 c.get_parent.ensures c.if-get_parent-parent.false
