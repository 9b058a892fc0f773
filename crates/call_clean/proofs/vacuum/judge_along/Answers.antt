-- `call_clean::vacuum::judge_along` meets its contract: what is left of the walk gives what the whole walk gives. Assumes nothing.
use mathlib.Core.Path.{◌∙◌}
use native.Mathlib.Omega.{arith}
use Rattle.std.proofs.Common.{rules}
use Rattle.std.proofs.lemmas.Result.{err_from_is_err_and}
use Rattle.call_clean.specs.Vacuum.{look_leaf, judged_along}
use Rattle.tree.proofs.Ways.{along_again, along_unused, along_bad, along-end, along_on}
use Rattle.call_clean.proofs.Counting.{leaf-broken, leaf-go}
use Rattle.call_clean.proofs.vacuum.judge_along.Goals as goal

pub returns-then-used-p : goal.returns-then-used-p
unfolding judged_along
returns-then-used-p c = along_unused _ _ _ _ _ _ (omega arith) (search rules) c.structural_fault.ensures ∙ c.loop.invariant

pub returns-in_err-judge_leaf : goal.returns-in_err-judge_leaf
unfolding judged_along
returns-in_err-judge_leaf c =
    let p = err_from_is_err_and c.from_residual.result c.from_residual.ensures.1 in
    rw (p.1, p.2) (along_bad look_leaf _ tt c.loop.p _ (search rules) c.page_of-pg.ensures.0 _ (omega arith) (leaf-broken c.judge_leaf.ensures c.in_err-judge_leaf.was) ∙ c.loop.invariant)

pub returns-then-next-eq0 : goal.returns-then-next-eq0
unfolding judged_along
returns-then-next-eq0 c =
    along-end look_leaf _ tt c.loop.p _ (search rules) c.page_of-pg.ensures.0 _ (omega arith) (leaf-go c.judge_leaf.ensures c.in_ok-judge_leaf.was) c.get_next_leaf-next.ensures c.if-next-eq0.true ∙ c.loop.invariant

pub loop-preserved : goal.loop-preserved
loop-preserved c =
    along_on _ _ _ _ _ (search rules) c.page_of-pg.ensures.0 _ (omega arith) (leaf-go c.judge_leaf.ensures c.in_ok-judge_leaf.was) c.get_next_leaf-next.ensures (search rules) ∙ c.loop.invariant

pub returns : goal.returns
unfolding judged_along
returns c = along_again _ _ _ _ _ _ (omega arith) c.structural_fault-2.ensures ∙ c.loop.invariant
