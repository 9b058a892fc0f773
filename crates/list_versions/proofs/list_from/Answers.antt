-- `list_versions::list_from` meets its contract: each way out is one law of Answering. Assumes nothing.
use Rattle.std.proofs.lemmas.Result.{err_from_is_err_and}
use native.Mathlib.Omega.{arith}
use Rattle.list_versions.specs.Gather.{rows_along}
use Rattle.list_versions.proofs.Answering.{measured_rows, list_bad, list_short, list_done}
use Rattle.std.proofs.Common.{rules}
use Rattle.list_versions.proofs.list_from.Goals as goal

pub returns-then-out-n : goal.returns-then-out-n
returns-then-out-n c = rw (c.into.ensures) (list_short (rows_along _ _ _ _) _ c.size_along.ensures c.in_ok-n.was (search rules))

pub write_along-requires : goal.write_along-requires
write_along-requires c = let g = measured_rows (rows_along _ _ _ _) c.size_along.ensures c.in_ok-n.was in (c.requires, g.0, omega arith)

pub returns-in_err-n : goal.returns-in_err-n
returns-in_err-n c =
    let p = err_from_is_err_and c.from_residual.result c.from_residual.ensures.1 in
    rw (p.1, p.2) (list_bad (rows_along _ _ _ _) _ c.size_along.ensures c.in_err-n.was)

pub returns : goal.returns
returns c = list_done (rows_along _ _ _ _) _ c.size_along.ensures c.in_ok-n.was (search rules) c.write_along.ensures
