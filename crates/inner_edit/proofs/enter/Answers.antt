-- `inner_edit::enter` meets its contract: the stores are what `with_entry` says. Assumes nothing.
use native.Mathlib.Omega.{arith}
use Rattle.inner_edit.proofs.Editing.{enter-done}
use Rattle.inner_edit.proofs.enter.Goals as goal

pub returns : goal.returns
returns c = enter-done _ _ _ _ _ (omega arith) (omega arith) (omega arith) (omega arith) c.open_pair.ensures c.finish.ensures
