-- `mvcc::JudgedSnapshot::plain` meets its contract: an empty list rises.
-- Assumes nothing.
use Rattle.std.proofs.Common.{refl}
use Rattle.mvcc.specs.Lists.{rising}
use Rattle.mvcc.proofs.JudgedSnapshot.plain.Goals as goal

pub new-requires : goal.new-requires
unfolding rising
new-requires c = refl
