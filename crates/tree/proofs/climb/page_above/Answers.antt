-- `tree::climb::page_above` meets its contract: each way out is one law of Climbing. Assumes nothing.
use Rattle.std.proofs.lemmas.Result.{err_from_is_err_and}
use native.Mathlib.Omega.{arith}
use Rattle.tree.proofs.Ways.{inner_is}
use Rattle.tree.proofs.Climbing.{above_unused, above_bad, above_page, above_other}
use Rattle.std.proofs.Common.{rules}
use Rattle.tree.proofs.climb.page_above.Goals as goal

pub returns-then-used-q : goal.returns-then-used-q
returns-then-used-q c = above_unused _ _ _ c.page_of.ensures.0 c.get_parent-q.ensures (search rules) c.structural_fault.ensures

pub returns-in_err-n : goal.returns-in_err-n
returns-in_err-n c =
    let p = err_from_is_err_and c.from_residual.result c.from_residual.ensures.1 in
    rw (p.1, p.2) (above_bad _ _ _ c.page_of.ensures.0 c.get_parent-q.ensures (search rules) c.page_of-pg.ensures.0 c.judge_inner.ensures c.in_err-n.was)

pub overflow_add-n : goal.overflow_add-n
overflow_add-n c = let i = inner_is _ _ c.judge_inner.ensures c.in_ok-n.was in omega arith

pub child_place-requires : goal.child_place-requires
child_place-requires c = let i = inner_is _ _ c.judge_inner.ensures c.in_ok-n.was in (omega arith, c.page_of-pg.ensures.1)

pub returns-then-n-child_place : goal.returns-then-n-child_place
returns-then-n-child_place c =
    above_other _ _ _ c.page_of.ensures.0 c.get_parent-q.ensures (search rules) c.page_of-pg.ensures.0 c.judge_inner.ensures c.in_ok-n.was c.child_place.ensures.0 (search rules) c.structural_fault-then-n-child_place.ensures

pub returns : goal.returns
returns c =
    above_page _ _ _ c.page_of.ensures.0 c.get_parent-q.ensures (search rules) c.page_of-pg.ensures.0 c.judge_inner.ensures c.in_ok-n.was c.child_place.ensures.0 (search rules)
