-- `tree_stamp::store_stamp` meets its contract: the leaf divides as planned, or its page is lent and edited. Assumes nothing.
use Rattle.page.proofs.PageLaws.{lent_page}
use Rattle.tree_stamp.proofs.Storing.{stands, leaf-there, leaf-long, fits_in, fits-done, over_done}
use Rattle.std.proofs.Common.{rules}
use Rattle.tree_stamp.proofs.store_stamp.Goals as goal

pub page_of-requires : goal.page_of-requires
page_of-requires c = leaf-there _ _ _ _ c.args.d c.requires.st_value c.requires.cell_met.0 c.requires.cell_met.1 c.requires.t_value.0

pub store_divided-requires : goal.store_divided-requires
store_divided-requires c =
    let n = rw c.page_of.ensures.0 at c.get_cell_count-n.ensures in
    record {
      st_value = (c.requires.st_value, n, c.if-plan.true);
      cell_met = c.requires.cell_met;
      t_value = c.requires.t_value;
    }

pub returns-then-plan : goal.returns-then-plan
returns-then-plan c =
    let n = rw c.page_of.ensures.0 at c.get_cell_count-n.ensures in
    over_done _ _ _ _ c.args.d c.requires.st_value c.requires.cell_met.0 c.requires.cell_met.1 c.requires.t_value.0 c.if-plan.true n c.store_divided.ensures

pub slice_bounds-pg-end : goal.slice_bounds-pg-end
slice_bounds-pg-end c =
    let t = leaf-there _ _ _ _ c.args.d c.requires.st_value c.requires.cell_met.0 c.requires.cell_met.1 c.requires.t_value.0 in
    search rules

pub stamp_cell-requires : goal.stamp_cell-requires
stamp_cell-requires c =
    let t = stands _ _ _ _ c.args.d c.requires.st_value c.requires.cell_met.0 c.requires.cell_met.1 c.requires.t_value.0 in
    let l = leaf-long _ _ _ _ c.args.d c.requires.st_value c.requires.cell_met.0 c.requires.cell_met.1 c.requires.t_value.0 in
    let f = fits_in _ _ _ _ c.args.d c.requires.st_value c.requires.cell_met.0 c.requires.cell_met.1 c.requires.t_value.0 c.if-plan.false in
    (rw lent_page l, rw lent_page t.there, t.low, t.inside, f)

pub returns : goal.returns
returns c = fits-done _ _ _ _ c.args.d c.requires.st_value c.requires.cell_met.0 c.requires.cell_met.1 c.requires.t_value.0 c.if-plan.false c.stamp_cell.ensures
