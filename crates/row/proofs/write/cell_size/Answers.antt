-- `row::write::cell_size` meets its contract. Assumes nothing.
use Rattle.row.proofs.Writing.{stamp_len_lem, pointer_len_lem}
use native.Mathlib.Omega.{arith}
use Rattle.row.proofs.write.cell_size.Goals as goal

pub overflow_add-result : goal.overflow_add-result
overflow_add-result c = omega (arith, (stamp_len_lem c.args.stamp).1)

pub overflow_add-result-2 : goal.overflow_add-result-2
overflow_add-result-2 c = omega (arith, (stamp_len_lem c.args.stamp).1, (pointer_len_lem c.args.pointer).1)

pub overflow_add-result-3 : goal.overflow_add-result-3
overflow_add-result-3 c = omega (arith, (stamp_len_lem c.args.stamp).1, (pointer_len_lem c.args.pointer).1)
