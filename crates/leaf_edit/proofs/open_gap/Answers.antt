-- `leaf_edit::open_gap` meets its contract. Assumes nothing.
use Rattle.leaf_edit.specs.Steps.Edit.{gapped}
use mathlib.Core.Path.{◌∙◌}
use Rattle.leaf_edit.proofs.open_gap.Goals as goal

pub returns : goal.returns
unfolding gapped
returns c = c.zero_fill.ensures ∙ rw c.shift.ensures
