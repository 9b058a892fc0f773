-- `leaf_divide::link_leaves` meets its contract. Assumes nothing.
use Rattle.leaf_divide.proofs.Dividing.{link_done}
use Rattle.std.proofs.Common.{rules}
use Rattle.leaf_divide.proofs.link_leaves.Goals as goal

pub returns : goal.returns
returns c = link_done _ _ _ _ _ (search rules) (search rules) c.put16.ensures c.get32.ensures c.put32.ensures c.put16-2.ensures c.put32-2.ensures
