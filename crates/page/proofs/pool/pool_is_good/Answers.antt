-- `page::pool::pool_is_good` meets its contract. Assumes nothing.
use Rattle.page.proofs.PoolLaws.{pool_ragged, pool-none, pool_large, pool_in_use}
use Rattle.std.proofs.Common.{rules}
use Rattle.page.proofs.pool.pool_is_good.Goals as goal

pub returns-then-pool-ne0 : goal.returns-then-pool-ne0
returns-then-pool-ne0 c = pool_ragged _ _ (search rules)

pub returns-then-n-lt1 : goal.returns-then-n-lt1
returns-then-n-lt1 c = pool-none _ _ (search rules) (search rules)

pub returns-then-n-gt-MAX_PAGES : goal.returns-then-n-gt-MAX_PAGES
returns-then-n-gt-MAX_PAGES c = pool_large _ _ (search rules) (search rules) (search rules)

pub returns : goal.returns
returns c = pool_in_use _ _ (search rules) (search rules) (search rules)
