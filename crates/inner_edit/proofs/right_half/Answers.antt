-- `inner_edit::right_half` meets its contract: the lent part is page q with the bytes that were carried. Assumes nothing.
use mathlib.Core.Path.{◌∙◌}
use native.Mathlib.Omega.{arith}
use Rattle.page.proofs.PageLaws.{lent_page, back_page}
use Rattle.inner_edit.proofs.Dividing.{right-done}
use Rattle.std.proofs.Common.{rules}
use Rattle.inner_edit.proofs.right_half.Goals as goal

pub returns : goal.returns
returns c = back_page _ _ _ ∙ right-done _ _ _ _ _ _ (omega arith) (omega arith) (omega arith) (search rules) c.carry.ensures (rw lent_page at c.finish.ensures)
