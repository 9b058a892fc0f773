-- `leaf_edit::put_cell` meets its contract. Assumes nothing.
use mathlib.Core.Path.{sym, ◌∙◌}
use Rattle.row.proofs.Writing.{length-row}
use Rattle.leaf_edit.proofs.Editing.{cell_in}
use Rattle.std.proofs.Common.{rules}
use Rattle.leaf_edit.proofs.put_cell.Goals as goal

pub returns : goal.returns
returns c =
    cell_in _ _ _ _ _ (search rules) (search rules) (search rules) (length-row c.args.version.now ∙ sym c.size-m.ensures) c.open_gap.ensures c.write_cell.auto.out c.write_cell.ensures
