-- `tree_insert::store_insert` meets its contract: the leaf divides as planned, or its page is lent and edited. Assumes nothing.
use native.Mathlib.Omega.{arith}
use Rattle.page.proofs.PageLaws.{lent_page}
use Rattle.tree_insert.proofs.Storing.{stored_at, fits_in, fits-done, over_done}
use Rattle.std.proofs.Common.{rules}
use Rattle.tree_insert.proofs.store_insert.Goals as goal

pub page_of-requires : goal.page_of-requires
page_of-requires c =
    (stored_at _ _ _ _ c.args.version.now (λ i. search rules) c.requires.st_value.0 c.requires.st_value.1 c.requires.creator_value c.requires.body_value).there

pub store_divided-requires : goal.store_divided-requires
store_divided-requires c =
    let n = rw c.page_of.ensures.0 at c.get_cell_count-n.ensures in
    record {
      st_value = (c.requires.st_value.0, c.requires.st_value.1, n, c.if-plan.true);
      creator_value = c.requires.creator_value;
      body_value = c.requires.body_value;
      plan_value = c.requires.plan_value;
    }

pub returns-then-plan : goal.returns-then-plan
returns-then-plan c =
    let n = rw c.page_of.ensures.0 at c.get_cell_count-n.ensures in
    over_done _ _ _ _ c.args.version.now (λ i. search rules) c.requires.st_value.0 c.requires.st_value.1 c.requires.creator_value c.requires.body_value c.if-plan.true c.requires.plan_value n c.store_divided.ensures

pub slice_bounds-insert_cell-end : goal.slice_bounds-insert_cell-end
slice_bounds-insert_cell-end c =
    let t = (stored_at _ _ _ _ c.args.version.now (λ i. search rules) c.requires.st_value.0 c.requires.st_value.1 c.requires.creator_value c.requires.body_value).there in
    search rules

pub insert_cell-requires : goal.insert_cell-requires
insert_cell-requires c =
    let n = rw c.page_of.ensures.0 at c.get_cell_count-n.ensures in
    let t = stored_at _ _ _ _ c.args.version.now (λ i. search rules) c.requires.st_value.0 c.requires.st_value.1 c.requires.creator_value c.requires.body_value in
    let f = fits_in _ _ _ _ c.args.version.now (λ i. search rules) c.requires.st_value.0 c.requires.st_value.1 c.requires.creator_value c.requires.body_value c.if-plan.false in
    (rw lent_page t.sound.whole, t.low, t.inside, omega (arith, t.few), c.requires.st_value.1, f)

pub returns : goal.returns
returns c =
    let n = rw c.page_of.ensures.0 at c.get_cell_count-n.ensures in
    fits-done _ _ _ _ c.args.version.now (λ i. search rules) c.requires.st_value.0 c.requires.st_value.1 c.requires.creator_value c.requires.body_value c.if-plan.false n c.insert_cell.ensures
