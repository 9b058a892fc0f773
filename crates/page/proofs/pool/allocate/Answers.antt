-- `page::pool::allocate` meets its contract. Assumes nothing.
use mathlib.Core.Path.{refl}
use Rattle.page.specs.Pool.{allocated, next_page}
use Rattle.page.proofs.PoolLaws.{fresh_done}
use Rattle.page.proofs.pool.allocate.Goals as goal

pub returns : goal.returns
unfolding allocated next_page
returns c = record { value = refl; pool_after = fresh_done _ _ c.zero_fill.ensures }
