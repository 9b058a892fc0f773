-- `inner_edit::divide` meets its contract: the right half leaves page p as it was. Assumes nothing.
use mathlib.Core.Path.{◌∙◌}
use native.Mathlib.Omega.{arith}
use Rattle.page.proofs.PageLaws.{lent_page, back_page}
use Rattle.inner_edit.proofs.Dividing.{right_beside, divide-done}
use Rattle.std.proofs.Common.{rules}
use Rattle.inner_edit.proofs.divide.Goals as goal

pub left_half-requires : goal.left_half-requires
left_half-requires c =
    let a = c.args in
    let same = right_beside a.p a.q a.i a.sep a.child a.pool.now (omega arith) (omega arith) (omega arith) (search rules) in
    (omega arith, omega arith, rw (lent_page, c.right_half.ensures, same) (search rules))

pub returns : goal.returns
returns c =
    let a = c.args in record {
      value = rw c.page_of.ensures.0 at (c.middle_key-middle.ensures a.child);
      pool_after = back_page _ _ _
          ∙ divide-done _ _ _ _ _ _ (omega arith) (omega arith) (omega arith) (search rules) c.right_half.ensures (rw lent_page at c.left_half.ensures);
    }
