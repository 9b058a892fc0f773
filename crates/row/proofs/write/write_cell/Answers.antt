-- `row::write::write_cell` meets its contract. Assumes nothing.
use Rattle.row.proofs.Writing.{stamp_len_lem, pointer_len_lem, cell-done}
use native.Mathlib.Omega.{arith}
use Rattle.row.proofs.write.write_cell.Goals as goal

pub overflow_cast-payload : goal.overflow_cast-payload
overflow_cast-payload c =
    omega (arith, (stamp_len_lem c.version.inside.stamp).1, (pointer_len_lem c.version.inside.pointer).1, (rw (← c.version.view_is) at c.requires).0)

pub returns : goal.returns
returns c =
    let fits = rw (← c.version.view_is) at c.requires in
    rw (← c.version.view_is)
    (cell-done _ _ _ _ _ _ fits.1 (omega arith) (omega arith) c.put_head.ensures c.put_stamp.ensures c.put_pointer.ensures c.copy_in.ensures)
