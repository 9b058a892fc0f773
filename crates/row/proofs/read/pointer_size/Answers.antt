-- `row::read::pointer_size` meets its contract. Assumes nothing.
use Rattle.row.proofs.Reading.{pointer-size-none, pointer-size_at}
use Rattle.std.proofs.Common.{rules}
use Rattle.row.proofs.read.pointer_size.Goals as goal

pub returns-then-flag-eq0 : goal.returns-then-flag-eq0
returns-then-flag-eq0 c = pointer-size-none _ (search rules)

pub returns-else-flag-eq0 : goal.returns-else-flag-eq0
returns-else-flag-eq0 c = pointer-size_at _ (search rules)
