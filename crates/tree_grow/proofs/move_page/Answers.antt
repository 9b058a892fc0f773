-- `tree_grow::move_page` meets its contract: the lent part is the image of the page. Assumes nothing.
use native.Mathlib.Omega.{arith}
use Rattle.tree_grow.proofs.Pinning.{move_done}
use Rattle.tree_grow.proofs.move_page.Goals as goal

pub returns : goal.returns
returns c = move_done _ _ _ (omega arith) (omega arith) c.shift.ensures c.set_is_root.ensures c.set_parent.ensures
