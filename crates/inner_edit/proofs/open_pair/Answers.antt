-- `inner_edit::open_pair` meets its contract: the two stores are one. Assumes nothing.
use native.Mathlib.Omega.{arith}
use Rattle.inner_edit.proofs.Editing.{open_done}
use Rattle.inner_edit.proofs.open_pair.Goals as goal

pub returns : goal.returns
returns c = open_done _ _ _ _ _ (omega arith) (omega arith) c.shift.ensures c.put_pair.ensures
