-- `tree::test_along` meets its contract: each way out is one law of Ways. Assumes nothing.
use Rattle.std.proofs.lemmas.Result.{err_from_is_err_and}
use Rattle.tree.proofs.Ways.{along_again, along_unused, along_bad, along-last, along-end, along_on, test_broken, test_stop, test_go}
use Rattle.tree.specs.Chain.{test_along}
use native.Mathlib.Omega.{arith}
use mathlib.Core.Path.{◌∙◌}
use Rattle.std.proofs.Common.{rules}
use Rattle.tree.proofs.test_along.Goals as goal
use Rattle.tree.proofs.test_along.Goals.{then-larger-via-then-larger, then-larger-via-else-larger+then-next-eq0}

pub returns-then-used-p : goal.returns-then-used-p
unfolding test_along
returns-then-used-p c = along_unused _ _ _ _ _ _ (omega arith) (search rules) c.structural_fault.ensures ∙ c.loop.invariant

pub returns-in_err-found_here : goal.returns-in_err-found_here
unfolding test_along
returns-in_err-found_here c =
    let p = err_from_is_err_and c.from_residual.result c.from_residual.ensures.1 in
    rw (p.1, p.2) (along_bad _ _ _ _ _ (search rules) c.page_of-pg.ensures.0 _ (omega arith) (test_broken c.test_leaf.ensures c.in_err-found_here.was) ∙ c.loop.invariant)

pub returns-then-larger : goal.returns-then-larger
unfolding test_along
returns-then-larger c =
    elim c.then-larger.branch [
      | then-larger-via-then-larger w ↦ along-last _ _ _ _ _ (search rules) c.page_of-pg.ensures.0 _ (omega arith) (test_stop c.test_leaf.ensures c.in_ok-found_here.was w.if-larger.true) ∙ c.loop.invariant
      | then-larger-via-else-larger+then-next-eq0 w ↦ along-end _ _ _ _ _ (search rules) c.page_of-pg.ensures.0 _ (omega arith) (test_go c.test_leaf.ensures c.in_ok-found_here.was w.if-larger.false) c.get_next_leaf-next.ensures w.if-next-eq0.true ∙ c.loop.invariant
    ]

pub loop-preserved : goal.loop-preserved
loop-preserved c =
    along_on _ _ _ _ _ (search rules) c.page_of-pg.ensures.0 _ (omega arith) (test_go c.test_leaf.ensures c.in_ok-found_here.was c.if-larger.false) c.get_next_leaf-next.ensures (search rules) ∙ c.loop.invariant

pub returns : goal.returns
unfolding test_along
returns c = along_again _ _ _ _ _ _ (omega arith) c.structural_fault-2.ensures ∙ c.loop.invariant
