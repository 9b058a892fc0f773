-- `tree_grow::plan::links_in` meets its contract: each way out is one law of Planning. Assumes nothing.
use Rattle.std.proofs.lemmas.Result.{err_from_is_err_and}
use Rattle.tree_grow.proofs.Planning.{in_bad, in_all, in_moved}
use Rattle.tree_grow.proofs.plan.links_in.Goals as goal

pub returns-in_err-links_from : goal.returns-in_err-links_from
returns-in_err-links_from c =
    let p = err_from_is_err_and c.from_residual.result c.from_residual.ensures.1 in
    rw (p.1, p.2) (in_bad _ _ _ _ c.first_moved-first.ensures c.links_from.ensures c.in_err-links_from.was)

pub returns-in_err-links_from-2 : goal.returns-in_err-links_from-2
returns-in_err-links_from-2 c =
    let p = err_from_is_err_and c.from_residual-in_err-links_from-2.result c.from_residual-in_err-links_from-2.ensures.1 in
    rw (p.1, p.2, ← c.in_err-links_from-2.was) (in_all _ _ _ _ c.first_moved-first.ensures c.links_from.ensures c.in_ok-links_from.was c.if-relocated.true c.links_from-then-relocated.ensures)

pub returns-in_ok-links_from-2 : goal.returns-in_ok-links_from-2
returns-in_ok-links_from-2 c =
    rw (← c.in_ok-links_from-2.was) (in_all _ _ _ _ c.first_moved-first.ensures c.links_from.ensures c.in_ok-links_from.was c.if-relocated.true c.links_from-then-relocated.ensures)

pub returns-else-relocated : goal.returns-else-relocated
returns-else-relocated c = in_moved _ _ _ _ c.first_moved-first.ensures c.links_from.ensures c.in_ok-links_from.was c.if-relocated.false
