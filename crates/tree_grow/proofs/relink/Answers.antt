-- `tree_grow::relink` meets its contract: the children of an internal page are there. Assumes nothing.
use native.Mathlib.Omega.{arith}
use Rattle.std.proofs.Common.{rules}
use Rattle.tree_grow.proofs.Pinning.{relink_safe}
use Rattle.tree_grow.proofs.relink.Goals as goal

pub adopt-requires : goal.adopt-requires
adopt-requires c =
    let safe = relink_safe _ _ c.page_of-pg.ensures.0 c.get_cell_count-n.ensures c.get_node_type.ensures c.requires.1 (search rules) in (omega (arith, safe.0), omega arith, safe.1)
