-- `tree::descend` meets its contract: each way out is one law of Ways. Assumes nothing.
use Rattle.std.proofs.lemmas.Result.{err_from_is_err_and}
use Rattle.tree.proofs.Ways.{inner_is, leaf_known, way_unused, way_leaf, way_deep, way_bad, way_on}
use native.Mathlib.Omega.{arith}
use mathlib.Core.Path.{◌∙◌}
use Rattle.std.proofs.Common.{rules}
use Rattle.tree.proofs.descend.Goals as goal

pub returns-in_err-is_leaf : goal.returns-in_err-is_leaf
returns-in_err-is_leaf c =
    let p = err_from_is_err_and c.from_residual.result c.from_residual.ensures.1 in
    rw (p.1, p.2) (way_unused _ _ _ c.is_leaf.ensures _ _ c.in_err-is_leaf.was ∙ c.loop.invariant)

pub returns-then-branch : goal.returns-then-branch
returns-then-branch c = way_leaf _ _ _ c.is_leaf.ensures _ c.in_ok-is_leaf.was _ (search rules) ∙ c.loop.invariant

pub returns-in_err-n : goal.returns-in_err-n
returns-in_err-n c =
    let p = err_from_is_err_and c.from_residual-in_err-n.result c.from_residual-in_err-n.ensures.1 in
    rw (p.1, p.2) (way_bad _ _ _ c.is_leaf.ensures _ c.in_ok-is_leaf.was (search rules) c.page_of.ensures.0 c.judge_inner.ensures _ (omega arith) c.in_err-n.was ∙ c.loop.invariant)

pub next_child-p-requires : goal.next_child-p-requires
next_child-p-requires c =
    let i = inner_is _ _ c.judge_inner.ensures c.in_ok-n.was in
    let l = leaf_known _ _ _ c.is_leaf.ensures c.in_ok-is_leaf.was in
    (omega (arith, l.0), i.few, rw c.page_of.ensures.0 at i.rises)

pub loop-preserved : goal.loop-preserved
loop-preserved c =
    way_on _ _ _ c.is_leaf.ensures _ c.in_ok-is_leaf.was (search rules) c.page_of.ensures.0 c.judge_inner.ensures _ (omega arith) c.in_ok-n.was c.next_child-p.ensures ∙ c.loop.invariant

pub returns-in_err-is_leaf-2 : goal.returns-in_err-is_leaf-2
returns-in_err-is_leaf-2 c =
    let p = err_from_is_err_and c.from_residual-in_err-is_leaf-2.result c.from_residual-in_err-is_leaf-2.ensures.1 in
    rw (p.1, p.2) (way_unused _ _ _ c.is_leaf-2.ensures _ _ c.in_err-is_leaf-2.was ∙ c.loop.invariant)

pub returns-then-branch-2 : goal.returns-then-branch-2
returns-then-branch-2 c = way_leaf _ _ _ c.is_leaf-2.ensures _ c.in_ok-is_leaf-2.was _ (search rules) ∙ c.loop.invariant

pub returns : goal.returns
returns c = way_deep _ _ _ c.is_leaf-2.ensures _ c.in_ok-is_leaf-2.was (search rules) _ (omega arith) c.structural_fault.ensures ∙ c.loop.invariant
