-- `leaf_edit::take_out` meets its contract. Assumes nothing.
use mathlib.Core.Path.{◌∙◌}
use native.Mathlib.Omega.{arith}
use Rattle.leaf_edit.specs.Edit.{without}
use Rattle.leaf_edit.proofs.Editing.{gap_closed}
use Rattle.leaf_edit.proofs.take_out.Goals as goal

pub returns : goal.returns
unfolding without
returns c =
    let a = c.args in
    c.set_cell_count.ensures
    ∙ rw (c.open_gap.ensures, gap_closed a.a a.b a.e a.pg.now (omega arith) (omega arith) (omega arith) (omega arith))
