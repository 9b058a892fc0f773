-- `list_versions::size_along` meets its contract: the rows gathered so far go on to what the whole walk gathers. Assumes nothing.
use native.Mathlib.Omega.{arith}
use Rattle.std.proofs.lemmas.Result.{err_from_is_err_and}
use Rattle.list_versions.proofs.Gathering.{measured_start, measured_again, measured_unused, measured_bad, measured_run, measured_last, measured_end, measured_on}
use Rattle.std.proofs.Common.{rules}
use Rattle.list_versions.proofs.size_along.Goals as goal

pub loop-init : goal.loop-init
loop-init c = measured_start _ _ _ _ (omega arith)

pub returns-then-used-p : goal.returns-then-used-p
returns-then-used-p c = measured_unused _ _ _ _ _ _ _ c.loop.invariant (omega arith) (search rules) c.structural_fault.ensures

pub returns-in_err-run : goal.returns-in_err-run
returns-in_err-run c =
    let p = err_from_is_err_and c.from_residual.result c.from_residual.ensures.1 in
    rw (p.1, p.2)
    (measured_bad _ _ _ _ _ _ _ c.loop.invariant (omega arith) (search rules) (λ i. (c.type_inv.pool i).fits) c.page_of-pg.ensures.0 c.page_of-pg.ensures.1 c.run_of.ensures c.in_err-run.was)

pub overflow_sub-size : goal.overflow_sub-size
overflow_sub-size c =
    let m = measured_run _ _ _ _ _ _ _ c.loop.invariant (omega arith) (search rules) (λ i. (c.type_inv.pool i).fits) c.page_of-pg.ensures.0 c.page_of-pg.ensures.1 c.run_of.ensures c.in_ok-run.was in omega arith

pub overflow_add-size : goal.overflow_add-size
overflow_add-size c =
    let m = measured_run _ _ _ _ _ _ _ c.loop.invariant (omega arith) (search rules) (λ i. (c.type_inv.pool i).fits) c.page_of-pg.ensures.0 c.page_of-pg.ensures.1 c.run_of.ensures c.in_ok-run.was in omega arith

pub overflow_mul-size : goal.overflow_mul-size
overflow_mul-size c =
    let m = measured_run _ _ _ _ _ _ _ c.loop.invariant (omega arith) (search rules) (λ i. (c.type_inv.pool i).fits) c.page_of-pg.ensures.0 c.page_of-pg.ensures.1 c.run_of.ensures c.in_ok-run.was in omega arith

pub overflow_add-size-in-loop : goal.overflow_add-size-in-loop
overflow_add-size-in-loop c =
    let m = measured_run _ _ _ _ _ _ _ c.loop.invariant (omega arith) (search rules) (λ i. (c.type_inv.pool i).fits) c.page_of-pg.ensures.0 c.page_of-pg.ensures.1 c.run_of.ensures c.in_ok-run.was in omega arith

pub returns-then-larger : goal.returns-then-larger
returns-then-larger c =
    measured_last _ _ _ _ _ _ _ c.loop.invariant (omega arith) (search rules) (λ i. (c.type_inv.pool i).fits) c.page_of-pg.ensures.0 c.page_of-pg.ensures.1 c.run_of.ensures c.in_ok-run.was (search rules)

pub returns-then-p-eq0 : goal.returns-then-p-eq0
returns-then-p-eq0 c =
    measured_end _ _ _ _ _ _ _ c.loop.invariant (omega arith) (search rules) (λ i. (c.type_inv.pool i).fits) c.page_of-pg.ensures.0 c.page_of-pg.ensures.1 c.run_of.ensures c.in_ok-run.was (search rules) c.get_next_leaf-p.ensures (search rules)

pub loop-preserved : goal.loop-preserved
loop-preserved c =
    measured_on _ _ _ _ _ _ _ c.loop.invariant (omega arith) (search rules) (λ i. (c.type_inv.pool i).fits) c.page_of-pg.ensures.0 c.page_of-pg.ensures.1 c.run_of.ensures c.in_ok-run.was (search rules) c.get_next_leaf-p.ensures (omega arith) (search rules)

pub returns : goal.returns
returns c = measured_again _ _ _ _ _ _ _ c.loop.invariant (omega arith) c.structural_fault-2.ensures
