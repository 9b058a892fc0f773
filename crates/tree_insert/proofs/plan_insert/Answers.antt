-- `tree_insert::plan_insert` meets its contract: the spot's leaf is in use and cut within a page. Assumes nothing.
use native.Mathlib.Omega.{arith}
use Rattle.tree_insert.proofs.Spotting.{spot_is}
use Rattle.std.proofs.Common.{rules}
use Rattle.tree_insert.proofs.plan_insert.Goals as goal

pub overflow_sub-over : goal.overflow_sub-over
overflow_sub-over c =
    let is = spot_is _ _ _ _ _ _ (λ i. search rules) c.requires.0 c.requires.2 in
    omega (arith, is.low, is.inside)

pub overflow_add-over : goal.overflow_add-over
overflow_add-over c =
    let is = spot_is _ _ _ _ _ _ (λ i. search rules) c.requires.0 c.requires.2 in
    omega (arith, is.within)

pub cut_at-cut-requires : goal.cut_at-cut-requires
cut_at-cut-requires c =
    let is = spot_is _ _ _ _ _ _ (λ i. search rules) c.requires.0 c.requires.2 in
    (is.there, omega (arith, is.low, is.inside), is.within, omega (arith, is.inside, is.within), omega arith, is.among, is.few)

pub plan_leaf-requires : goal.plan_leaf-requires
plan_leaf-requires c =
    let is = spot_is _ _ _ _ _ _ (λ i. search rules) c.requires.0 c.requires.2 in
    (c.requires.0, is.in_use)

pub plan_leaf-requires-2 : goal.plan_leaf-requires-2
plan_leaf-requires-2 c =
    let is = spot_is _ _ _ _ _ _ (λ i. search rules) c.requires.0 c.requires.2 in
    (c.requires.0, is.in_use)
