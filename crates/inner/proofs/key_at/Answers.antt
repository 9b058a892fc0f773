-- `inner::key_at` meets its contract. Assumes nothing.
use Rattle.inner.specs.Inner.{key_at}
use Rattle.inner.proofs.key_at.Goals as goal

pub returns : goal.returns
unfolding key_at
returns c = cc
