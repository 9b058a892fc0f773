-- `leaf_divide::insert_divide_left` meets its contract. Assumes nothing.
use native.Mathlib.Omega.{arith}
use Rattle.page.proofs.PageLaws.{lent_page, back_page}
use Rattle.row.proofs.Writing.{length-row}
use Rattle.leaf_divide.proofs.Dividing.{left-done}
use Rattle.leaf_divide.proofs.insert_divide_left.Goals as goal

pub returns : goal.returns
returns c =
    let l = length-row c.args.version.now in
    let f = rw lent_page at c.put_cell.ensures in
    let g = rw back_page at c.link_leaves.ensures in
    left-done _ _ _ _ _ _ _ _ c.args.pool.now (omega arith) (omega arith) (omega arith) (omega arith) (omega arith) (omega arith) (omega arith) (omega arith) (omega arith) _
    (omega arith) (omega arith) (omega arith) c.part_leaf.ensures f g
