-- `row::write::put_pointer` meets its contract. Assumes nothing.
use mathlib.Core.Path.{◌∙◌}
use Rattle.row.proofs.Writing.{pointer-absent, pointer_present, pointer-none-done, pointer_at_done}
use native.Mathlib.Omega.{arith}
use Rattle.row.proofs.write.put_pointer.Goals as goal

pub put8-requires : goal.put8-requires
put8-requires c = omega (arith, pointer-absent c.in-None.is)

pub put8-requires-in-Some : goal.put8-requires-in-Some
put8-requires-in-Some c = omega (arith, pointer_present c.in-Some.is)

pub put32-requires : goal.put32-requires
put32-requires c = omega (arith, pointer_present c.in-Some.is)

pub put16-requires : goal.put16-requires
put16-requires c = omega (arith, pointer_present c.in-Some.is)

pub returns-in-None : goal.returns-in-None
returns-in-None c = c.put8.ensures ∙ pointer-none-done _ _ c.in-None.is (omega (arith, pointer-absent c.in-None.is))

pub returns-in-Some : goal.returns-in-Some
returns-in-Some c = cc (pointer_at_done c.args.out.now c.args.at c.in-Some.is (omega (arith, pointer_present c.in-Some.is)))
