-- `row::read::stamp_in` meets its contract. Assumes nothing.
use native.Mathlib.Omega.{arith}
use Rattle.store.specs.Le.{le_at}
use Rattle.row.proofs.Reading.{stamp-size, stamp-size_by, stamp-none, stamp_by}
use Rattle.std.proofs.Common.{rules}
use Rattle.row.proofs.read.stamp_in.Goals as goal

pub get8-requires : goal.get8-requires
get8-requires c = omega (arith, (stamp-size (le_at 1 c.args.s.now c.args.i)).0)

pub returns-then-get8-eq0 : goal.returns-then-get8-eq0
returns-then-get8-eq0 c = stamp-none _ _ (search rules)

pub get64-requires : goal.get64-requires
get64-requires c = omega (arith, stamp-size_by (le_at 1 c.args.s.now c.args.i) (λ e. omega arith))

pub returns : goal.returns
returns c = stamp_by _ _ (λ e. omega arith) (search rules)
