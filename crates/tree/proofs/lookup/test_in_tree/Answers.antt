-- `tree::lookup::test_in_tree` meets its contract: each way out is one law of Looking. Assumes nothing.
use Rattle.std.proofs.lemmas.Result.{err_from_is_err_and}
use Rattle.tree.proofs.Looking.{test_lost, test_leaf_lem}
use Rattle.tree.proofs.lookup.test_in_tree.Goals as goal

pub returns-in_err-first : goal.returns-in_err-first
returns-in_err-first c =
    let p = err_from_is_err_and c.from_residual.result c.from_residual.ensures.1 in
    rw (p.1, p.2) (test_lost _ _ _ _ _ _ c.search_leaf.ensures _ _ c.in_err-first.was)

pub returns : goal.returns
returns c = test_leaf_lem _ _ _ _ _ _ c.search_leaf.ensures _ _ c.in_ok-first.was c.test_along.ensures
