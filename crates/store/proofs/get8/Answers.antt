-- `store::get8` meets its contract. Assumes nothing.
use Rattle.std.proofs.Common.{rules}
use Rattle.store.specs.Le.{le_at}
use Rattle.store.proofs.get8.Goals as goal

pub returns : goal.returns
unfolding le_at
returns c = search rules
