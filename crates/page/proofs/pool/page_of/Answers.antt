-- `page::pool::page_of` meets its contract. Assumes nothing.
use mathlib.Core.Path.{ap, ◌∙◌}
use lib.ListN.{length}
use Rattle.page.proofs.PageLaws.{lent_page, length-page}
use Rattle.page.proofs.pool.page_of.Goals as goal

pub returns : goal.returns
returns c =
    let g = c.args in
    let e = lent_page g.p g.pool.now in
    (e, ap length e ∙ length-page g.p g.pool.now c.requires)
