-- `row::read::stamp_size` meets its contract. Assumes nothing.
use Rattle.row.proofs.Reading.{stamp-size-none, stamp-size_by}
use Rattle.std.proofs.Common.{rules}
use Rattle.row.proofs.read.stamp_size.Goals as goal

pub returns-then-flag-eq0 : goal.returns-then-flag-eq0
returns-then-flag-eq0 c = stamp-size-none _ (search rules)

pub returns-else-flag-eq0 : goal.returns-else-flag-eq0
returns-else-flag-eq0 c = stamp-size_by _ (search rules)
