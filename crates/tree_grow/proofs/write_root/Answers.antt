-- `tree_grow::write_root` meets its contract: the lent part is the page. Assumes nothing.
use native.Mathlib.Omega.{arith}
use Rattle.tree_grow.proofs.Pinning.{root-done}
use Rattle.tree_grow.proofs.write_root.Goals as goal

pub returns : goal.returns
returns c = root-done _ _ _ _ _ (omega arith) c.zero_fill.ensures c.set_node_type.ensures c.set_parent.ensures c.write_top.ensures
