-- `row::read::pointer_in` meets its contract. Assumes nothing.
use native.Mathlib.Omega.{arith}
use Rattle.store.specs.Le.{le_at}
use Rattle.row.proofs.Reading.{pointer-size, pointer-size_at, pointer_none, pointer_at}
use Rattle.std.proofs.Common.{rules}
use Rattle.row.proofs.read.pointer_in.Goals as goal

pub get8-requires : goal.get8-requires
get8-requires c = omega (arith, (pointer-size (le_at 1 c.args.s.now c.args.i)).0)

pub returns-then-get8-eq0 : goal.returns-then-get8-eq0
returns-then-get8-eq0 c = pointer_none _ _ (search rules)

pub get32-requires : goal.get32-requires
get32-requires c = omega (arith, pointer-size_at (le_at 1 c.args.s.now c.args.i) (λ e. omega arith))

pub get16-requires : goal.get16-requires
get16-requires c = omega (arith, pointer-size_at (le_at 1 c.args.s.now c.args.i) (λ e. omega arith))

pub returns : goal.returns
returns c = pointer_at _ _ (λ e. omega arith) (search rules) (search rules)
