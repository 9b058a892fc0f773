-- `call_read::create` meets its contract: a page is left. Assumes nothing.
use mathlib.Core.Path.{sym, ◌∙◌}
use native.Mathlib.Omega.{arith}
use Rattle.page.proofs.PoolLaws.{pool-is}
use Rattle.call_read.proofs.create.Goals as goal

pub make_root-requires : goal.make_root-requires
make_root-requires c =
    let p = pool-is _ _ (sym c.pool_is_good.ensures ∙ c.if-not-pool_is_good.false) in
    (omega (arith, p.few), omega (arith, p.some))
