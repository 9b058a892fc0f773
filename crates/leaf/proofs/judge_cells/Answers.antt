-- `leaf::judge_cells` meets its contract: the walk that is left gives what the whole walk gives. Assumes nothing.
use Rattle.leaf.proofs.Walking.{walk_stuck, walk_on, walk-done, stepped, judged-ok, judged_bad}
use native.Mathlib.Omega.{arith}
use mathlib.Core.Path.{refl, sym, ◌∙◌}
use Rattle.std.proofs.Common.{rules}
use Rattle.std.proofs.lemmas.Result.{err_from_is_err_and}
use Rattle.leaf.proofs.judge_cells.Goals as goal

pub returns-in_err-end : goal.returns-in_err-end
returns-in_err-end c =
    let p = err_from_is_err_and c.from_residual.result c.from_residual.ensures.1 in
    rw (p.1, p.2) (judged_bad _ _ _ (sym (walk_stuck _ _ _ _ _ _ _ c.next_cell.ensures _ _ (search rules) c.in_err-end.was) ∙ c.loop.invariant.1))

pub get_rank-k-requires : goal.get_rank-k-requires
get_rank-k-requires c = let h = stepped _ _ _ _ _ c.next_cell.ensures c.in_ok-end.was in omega (arith, h.low, h.inside)

pub creator_at-c-requires : goal.creator_at-c-requires
creator_at-c-requires c = let h = stepped _ _ _ _ _ c.next_cell.ensures c.in_ok-end.was in omega (arith, h.low, h.inside)

pub loop-preserved : goal.loop-preserved
loop-preserved c =
    (omega (arith, (stepped _ _ _ _ _ c.next_cell.ensures c.in_ok-end.was).inside), walk_on _ _ _ _ _ _ _ c.next_cell.ensures _ _ (search rules) c.in_ok-end.was c.get_rank-k.ensures c.creator_at-c.ensures (λ x r u v w. refl) ∙ c.loop.invariant.1)

pub returns : goal.returns
returns c = judged-ok _ _ _ (sym (walk-done _ _ _ _ _ _ _ _ (search rules)) ∙ c.loop.invariant.1)
