-- `tree::create::make_root` meets its contract: its way out is two laws of Creating. Assumes nothing.
use Rattle.tree.proofs.Creating.{root-state, root-done}
use Rattle.page.proofs.PoolLaws.{alloc_page}
use native.Mathlib.Omega.{arith}
use Rattle.tree.proofs.create.make_root.Goals as goal

pub slice_bounds-write_root-end : goal.slice_bounds-write_root-end
slice_bounds-write_root-end c = omega (arith, alloc_page _ _ c.allocate-fresh.ensures.value)

pub returns : goal.returns
returns c = record { value = root-state _ _ c.allocate-fresh.ensures.value; pool_after = root-done _ _ c.allocate-fresh.ensures.value c.allocate-fresh.ensures.pool_after c.write_root.ensures }
