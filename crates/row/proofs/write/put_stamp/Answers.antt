-- `row::write::put_stamp` meets its contract. Assumes nothing.
use mathlib.Core.Path.{◌∙◌}
use Rattle.row.proofs.Writing.{stamp-absent, stamp_present, stamp-none-done, stamp_by_done}
use native.Mathlib.Omega.{arith}
use Rattle.row.proofs.write.put_stamp.Goals as goal

pub put8-requires : goal.put8-requires
put8-requires c = omega (arith, stamp-absent c.in-None.is)

pub put8-requires-in-Some : goal.put8-requires-in-Some
put8-requires-in-Some c = omega (arith, stamp_present c.in-Some.is)

pub put64-requires : goal.put64-requires
put64-requires c = omega (arith, stamp_present c.in-Some.is)

pub returns-in-None : goal.returns-in-None
returns-in-None c = c.put8.ensures ∙ stamp-none-done _ _ c.in-None.is (omega (arith, stamp-absent c.in-None.is))

pub returns-in-Some : goal.returns-in-Some
returns-in-Some c = cc (stamp_by_done c.args.out.now c.args.i c.in-Some.is (omega (arith, stamp_present c.in-Some.is)))
