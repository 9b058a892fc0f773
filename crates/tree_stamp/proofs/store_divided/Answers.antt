-- `tree_stamp::store_divided` meets its contract: each call's asking and the whole are laws of Storing. Assumes nothing.
use Rattle.tree_stamp.proofs.Storing.{free_left, divide_asks, settle_asks, settle-done}
use Rattle.std.proofs.Common.{rules}
use Rattle.tree_stamp.proofs.store_divided.Goals as goal

pub allocate-fresh-requires : goal.allocate-fresh-requires
allocate-fresh-requires c =
    let f = free_left _ _ _ _ c.args.d c.requires.st_value.0 c.requires.cell_met.0 c.requires.cell_met.1 c.requires.t_value.0 c.requires.st_value.2 c.requires.t_value.1 in
    (f.few, f.there)

pub divide_at-requires : goal.divide_at-requires
divide_at-requires c =
    let a = c.allocate-fresh.ensures in
    divide_asks _ _ _ _ c.args.d c.requires.st_value.0 c.requires.cell_met.0 c.requires.cell_met.1 c.requires.t_value.0 c.requires.st_value.2 c.requires.t_value.1 a.value a.pool_after c.requires.st_value.1

pub settle-requires : goal.settle-requires
settle-requires c =
    let a = c.allocate-fresh.ensures in
    let u = settle_asks _ _ _ _ c.args.d c.requires.st_value.0 c.requires.cell_met.0 c.requires.cell_met.1 c.requires.t_value.0 c.requires.st_value.2 c.requires.t_value.1 a.value a.pool_after c.requires.st_value.1 (λ i. search rules) c.divide_at.ensures in
    record { len_nonzero = (u.0, u.1, u.2); above_safe = u.3 }

pub returns : goal.returns
returns c =
    let a = c.allocate-fresh.ensures in
    settle-done _ _ _ _ c.args.d c.requires.st_value.0 c.requires.cell_met.0 c.requires.cell_met.1 c.requires.t_value.0 c.requires.st_value.2 c.requires.t_value.1 a.value a.pool_after c.requires.st_value.1 (λ i. search rules) c.divide_at.ensures c.settle.ensures
