-- `inner_edit::adopt_one` meets its contract: the lent part is the page. Assumes nothing.
use Rattle.page.proofs.PageLaws.{lent_page, back_page}
use Rattle.inner_edit.proofs.adopt_one.Goals as goal

pub returns : goal.returns
returns c = rw (back_page, c.set_parent.ensures, lent_page)
