-- `call_clean::remove::count_along` meets its contract: what is left of the walk, from the count so far, gives what the whole walk
-- gives. Assumes nothing.
use mathlib.Core.Path.{◌∙◌}
use native.Mathlib.Omega.{arith}
use Rattle.std.proofs.Common.{rules}
use Rattle.std.proofs.lemmas.Result.{err_from_is_err_and}
use Rattle.call_clean.specs.Remove.{count_along}
use Rattle.tree.proofs.Ways.{along_again, along_unused, along_bad, along-last, along-end, along_on}
use Rattle.call_clean.proofs.Counting.{run_fits, run-broken, run-stop, run-go}
use Rattle.call_clean.proofs.remove.count_along.Goals as goal
use Rattle.call_clean.proofs.remove.count_along.Goals.{then-larger-via-then-larger, then-larger-via-else-larger+then-next-eq0}

pub returns-then-used-p : goal.returns-then-used-p
unfolding count_along
returns-then-used-p c = along_unused _ _ _ _ _ _ (omega arith) (search rules) c.structural_fault.ensures ∙ c.loop.invariant.left

pub returns-in_err-run : goal.returns-in_err-run
unfolding count_along
returns-in_err-run c =
    let p = err_from_is_err_and c.from_residual.result c.from_residual.ensures.1 in
    rw (p.1, p.2) (along_bad _ _ _ _ _ (search rules) c.page_of-pg.ensures.0 _ (omega arith) (run-broken _ _ _ c.run_in_leaf.ensures _ c.in_err-run.was) ∙ c.loop.invariant.left)

pub overflow_add-count : goal.overflow_add-count
overflow_add-count c =
    let run = run_fits _ _ _ c.run_in_leaf.ensures c.in_ok-run.was c.page_of-pg.ensures.1 in
    omega (arith, run.few)

pub returns-then-larger : goal.returns-then-larger
unfolding count_along
returns-then-larger c =
    elim c.then-larger.branch [
      | then-larger-via-then-larger w ↦ along-last _ _ _ _ _ (search rules) c.page_of-pg.ensures.0 _ (omega arith) (run-stop _ _ _ c.run_in_leaf.ensures c.in_ok-run.was _ w.if-larger.true) ∙ c.loop.invariant.left
      | then-larger-via-else-larger+then-next-eq0 w ↦ along-end _ _ _ _ _ (search rules) c.page_of-pg.ensures.0 _ (omega arith) (run-go _ _ _ c.run_in_leaf.ensures c.in_ok-run.was _ w.if-larger.false) c.get_next_leaf-next.ensures w.if-next-eq0.true ∙ c.loop.invariant.left
    ]

pub loop-preserved : goal.loop-preserved
loop-preserved c =
    let run = run_fits _ _ _ c.run_in_leaf.ensures c.in_ok-run.was c.page_of-pg.ensures.1 in
    let seen = run-go _ _ _ c.run_in_leaf.ensures c.in_ok-run.was _ c.if-larger.false in
    record {
      left = along_on _ _ _ _ _ (search rules) c.page_of-pg.ensures.0 _ (omega arith) seen c.get_next_leaf-next.ensures (search rules) ∙ c.loop.invariant.left;
      few = omega (arith, run.few);
    }

pub returns : goal.returns
unfolding count_along
returns c = along_again _ _ _ _ _ _ (omega arith) c.structural_fault-2.ensures ∙ c.loop.invariant.left
