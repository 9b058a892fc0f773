-- `inner::child_at` meets its contract. Assumes nothing.
use Rattle.inner.specs.Inner.{child_at}
use Rattle.inner.proofs.child_at.Goals as goal

pub returns : goal.returns
unfolding child_at
returns c = cc
