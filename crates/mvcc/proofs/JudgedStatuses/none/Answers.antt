-- `mvcc::JudgedStatuses::none` meets its contract: an empty list rises.
-- Assumes nothing.
use Rattle.std.proofs.Common.{refl}
use Rattle.mvcc.specs.Lists.{rising, rising_from}
use Rattle.mvcc.proofs.JudgedStatuses.none.Goals as goal

pub invariant_of-result : goal.invariant_of-result
unfolding rising rising_from
invariant_of-result c = record { rises = refl; same = refl }
