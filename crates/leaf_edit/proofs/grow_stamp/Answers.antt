-- `leaf_edit::grow_stamp` meets its contract. Assumes nothing.
use mathlib.Core.Path.{◌∙◌}
use Rattle.leaf_edit.proofs.grow_stamp.Goals as goal

pub returns : goal.returns
returns c = c.put64.ensures ∙ rw (c.put8.ensures, c.put32.ensures, c.open_gap.ensures)
