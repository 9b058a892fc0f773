-- `leaf_divide::stamp_divide_right` meets its contract. Assumes nothing.
use mathlib.Core.Path.{refl}
use native.Mathlib.Omega.{arith}
use Rattle.page.proofs.PageLaws.{lent_page, back_page}
use Rattle.page.specs.Page.{page}
use Rattle.row.proofs.Exact.{cell_placed}
use Rattle.leaf_divide.proofs.Dividing.{stamp-right-done}
use Rattle.std.proofs.Common.{rules}
use Rattle.leaf_divide.proofs.stamp_divide_right.Goals as goal

pub part_leaf-requires : goal.part_leaf-requires
part_leaf-requires c =
    let w = cell_placed (page c.args.pool.now c.args.p) c.args.c.at c.args.c c.requires.at_value.0 in
    search rules

pub overflow_sub-e : goal.overflow_sub-e
overflow_sub-e c =
    let w = cell_placed (page c.args.pool.now c.args.p) c.args.c.at c.args.c c.requires.at_value.0 in
    search rules

pub overflow_sub-c-2 : goal.overflow_sub-c-2
overflow_sub-c-2 c =
    let w = cell_placed (page c.args.pool.now c.args.p) c.args.c.at c.args.c c.requires.at_value.0 in
    search rules

pub grow_stamp-requires : goal.grow_stamp-requires
grow_stamp-requires c =
    let w = cell_placed (page c.args.pool.now c.args.p) c.args.c.at c.args.c c.requires.at_value.0 in
    search rules

pub returns : goal.returns
returns c =
    let w = cell_placed (page c.args.pool.now c.args.p) c.args.c.at c.args.c c.requires.at_value.0 in
    let f = rw lent_page at c.grow_stamp.ensures in
    let g = rw back_page at c.link_leaves.ensures in
    stamp-right-done _ _ _ _ _ _ c.args.c c.args.pool.now (omega arith) (omega arith) (λ i. search rules) c.requires.at_value.0 c.requires.at_value.1 (omega arith) (omega arith) (omega arith) _ _ _
    (omega arith) (omega arith) (omega arith) (omega arith) refl c.part_leaf.ensures f g
