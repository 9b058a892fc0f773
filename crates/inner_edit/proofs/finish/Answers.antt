-- `inner_edit::finish` meets its contract. Assumes nothing.
use native.Mathlib.Omega.{arith}
use Rattle.inner_edit.proofs.Editing.{finish-done}
use Rattle.inner_edit.proofs.finish.Goals as goal

pub returns : goal.returns
returns c = finish-done _ _ _ (omega arith) (omega arith) c.zero_fill.ensures c.set_cell_count.ensures
