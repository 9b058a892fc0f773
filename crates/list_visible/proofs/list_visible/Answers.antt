-- `list_visible::list_visible` meets its contract: each way out is one law of Ending. Assumes nothing.
use Rattle.std.proofs.lemmas.Result.{err_from_is_err_and}
use Rattle.list_visible.proofs.Ending.{list_bad, list_falls, list_room, list_through, list_short, list_fits, list_done}
use native.Mathlib.Omega.{arith}
use Rattle.list_visible.proofs.list_visible.Goals as goal
use Rattle.list_visible.proofs.list_visible.Goals.{else-out-bound-via-then-out-bound+else-out-measure, else-out-bound-via-else-out-bound}

pub returns-in_err-bound : goal.returns-in_err-bound
returns-in_err-bound c =
    let p = err_from_is_err_and c.from_residual.result c.from_residual.ensures.1 in
    rw (p.1, p.2) (list_bad _ _ _ _ _ (λ i. (c.type_inv.pool i).fits) c.requires c.bound_along.ensures _ c.in_err-bound.was)

pub returns-then-bound : goal.returns-then-bound
returns-then-bound c = list_falls _ _ _ _ _ (λ i. (c.type_inv.pool i).fits) c.requires c.bound_along.ensures c.in_ok-bound.was _ c.list_slow.ensures

pub measure-requires : goal.measure-requires
measure-requires c =
    (c.requires, list_through _ _ _ _ _ (λ i. (c.type_inv.pool i).fits) c.requires c.bound_along.ensures c.in_ok-bound.was (omega arith))

pub returns-then-out-measure : goal.returns-then-out-measure
returns-then-out-measure c =
    list_short _ _ _ _ _ (λ i. (c.type_inv.pool i).fits) c.requires c.bound_along.ensures c.in_ok-bound.was c.if-bound.false _ c.measure.ensures c.if-out-measure.true c.into.ensures

pub write_scan-requires : goal.write_scan-requires
write_scan-requires c =
    (c.requires, list_fits _ _ _ _ _ (λ i. (c.type_inv.pool i).fits) c.requires c.bound_along.ensures c.in_ok-bound.was _ (omega arith) (elim c.else-out-bound.branch [ else-out-bound-via-then-out-bound+else-out-measure w ↦ omega (arith, w.measure.ensures, w.if-out-measure.false) | else-out-bound-via-else-out-bound w ↦ list_room _ _ _ _ _ (λ i. (c.type_inv.pool i).fits) c.requires c.bound_along.ensures c.in_ok-bound.was w.if-out-bound.false ]))

pub returns : goal.returns
returns c =
    list_done _ _ _ _ _ (λ i. (c.type_inv.pool i).fits) c.requires c.bound_along.ensures c.in_ok-bound.was c.if-bound.false _ (elim c.else-out-bound.branch [ else-out-bound-via-then-out-bound+else-out-measure w ↦ omega (arith, w.measure.ensures, w.if-out-measure.false) | else-out-bound-via-else-out-bound w ↦ list_room _ _ _ _ _ (λ i. (c.type_inv.pool i).fits) c.requires c.bound_along.ensures c.in_ok-bound.was w.if-out-bound.false ]) c.write_scan.ensures
