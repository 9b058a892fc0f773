-- `tree_insert::store_divided` meets its contract: each call's asking and the whole are laws of Storing. Assumes nothing.
use Rattle.tree_insert.proofs.Storing.{free_left, divide_asks, cut_there, settle_asks, settle-done}
use Rattle.std.proofs.Common.{rules}
use Rattle.tree_insert.proofs.store_divided.Goals as goal

pub allocate-a-requires : goal.allocate-a-requires
allocate-a-requires c =
    let f = free_left _ _ _ _ c.args.version.now (λ i. search rules) c.requires.st_value.0 c.requires.st_value.1 c.requires.creator_value c.requires.body_value c.requires.st_value.3 c.requires.plan_value in
    (f.few, f.there)

pub divide_at-requires : goal.divide_at-requires
divide_at-requires c =
    let a = c.allocate-a.ensures in
    let d = divide_asks _ _ _ _ c.args.version.now (λ i. search rules) c.requires.st_value.0 c.requires.st_value.1 c.requires.creator_value c.requires.body_value c.requires.st_value.3 c.requires.plan_value a.value a.pool_after in
    record { leaf_lt_q = (d.0, d.1, d.2, c.requires.st_value.1); insert_cut_stands = cut_there _ _ _ _ c.args.version.now (λ i. search rules) c.requires.st_value.0 c.requires.st_value.1 c.requires.creator_value c.requires.body_value c.requires.st_value.3 c.requires.plan_value c.requires.st_value.2 }

pub settle-requires : goal.settle-requires
settle-requires c =
    let a = c.allocate-a.ensures in
    let u = settle_asks _ _ _ _ c.args.version.now (λ i. search rules) c.requires.st_value.0 c.requires.st_value.1 c.requires.creator_value c.requires.body_value c.requires.st_value.3 c.requires.plan_value a.value a.pool_after c.requires.st_value.2 c.divide_at.ensures in
    record { len_nonzero = (u.0, u.1, u.2); above_safe = u.3 }

pub returns : goal.returns
returns c =
    let a = c.allocate-a.ensures in
    settle-done _ _ _ _ c.args.version.now (λ i. search rules) c.requires.st_value.0 c.requires.st_value.1 c.requires.creator_value c.requires.body_value c.requires.st_value.3 c.requires.plan_value a.value a.pool_after c.requires.st_value.2 c.divide_at.ensures c.settle.ensures
