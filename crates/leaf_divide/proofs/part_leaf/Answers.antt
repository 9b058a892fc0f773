-- `leaf_divide::part_leaf` meets its contract. Assumes nothing.
use Rattle.leaf_divide.proofs.Dividing.{part-done}
use Rattle.std.proofs.Common.{rules}
use Rattle.leaf_divide.proofs.part_leaf.Goals as goal

pub returns : goal.returns
returns c =
    part-done _ _ _ _ c.args.pool.now (search rules) (search rules) (search rules) (search rules) (search rules) c.requires.2 c.put8.ensures c.shift.ensures c.zero_fill.ensures
