-- `leaf_edit::insert_cell` meets its contract. Assumes nothing.
use Rattle.leaf_edit.specs.Edit.{with_cell}
use mathlib.Core.Path.{◌∙◌}
use Rattle.leaf_edit.proofs.insert_cell.Goals as goal

pub returns : goal.returns
unfolding with_cell
returns c = c.set_cell_count.ensures ∙ rw c.put_cell.ensures
