-- `mvcc_entries::settled` meets its contract: a list of one entry rises, and mvcc's lookup is asked.
-- Assumes nothing.
use mathlib.Core.Path.{refl}
use Rattle.mvcc.specs.Lists.{rising, rising_from}
use Rattle.mvcc_entries.proofs.settled.Goals as goal

pub status_of-requires : goal.status_of-requires
unfolding rising rising_from
status_of-requires c = record { rises = refl; same = refl }
