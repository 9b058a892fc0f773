-- `inner_edit::left_half` meets its contract. Assumes nothing.
use native.Mathlib.Omega.{arith}
use Rattle.inner_edit.proofs.Dividing.{left-done}
use Rattle.inner_edit.proofs.left_half.Goals as goal

pub returns : goal.returns
returns c = left-done _ _ _ _ (omega arith) (omega arith) (omega arith) c.keep.ensures c.finish.ensures
