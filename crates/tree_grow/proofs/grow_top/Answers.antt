-- `tree_grow::grow_top` meets its contract: its way out is one law of Entering. Assumes nothing.
use native.Mathlib.Omega.{arith}
use Rattle.page.proofs.PoolLaws.{alloc_page}
use Rattle.tree_grow.proofs.Entering.{top_done}
use Rattle.tree_grow.proofs.grow_top.Goals as goal

pub slice_bounds-write_top-end : goal.slice_bounds-write_top-end
slice_bounds-write_top-end c = omega (arith, alloc_page _ _ c.allocate-fresh.ensures.value)

pub returns : goal.returns
returns c = top_done _ _ c.allocate-fresh.ensures.value _ _ _ c.allocate-fresh.ensures.pool_after c.write_top.ensures c.link_both.ensures
