-- `tree_grow::join` meets its contract: the lent part is page p, and the pair is in it before the links. Assumes nothing.
use native.Mathlib.Omega.{arith}
use Rattle.page.proofs.PageLaws.{lent_page, back_page}
use Rattle.std.proofs.Common.{rules}
use Rattle.tree_grow.proofs.join.Goals as goal

pub enter-requires : goal.enter-requires
enter-requires c = (omega arith, rw lent_page (search rules), omega arith, omega arith)

pub returns : goal.returns
returns c = rw (c.link_both.ensures, back_page, c.enter.ensures, lent_page)
