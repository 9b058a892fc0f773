-- `list_versions::run_of` meets its contract, case by case. Assumes nothing.
use Rattle.std.proofs.lemmas.Result.{err_from_is_err_and}
use mathlib.Core.Path.{◌∙◌}
use Rattle.list_versions.proofs.run_of.Goals as goal

pub returns-in-Key : goal.returns-in-Key
returns-in-Key c = c.run_in_leaf.ensures ∙ rw c.in-Key.is

pub returns-in_err-e-in-All : goal.returns-in_err-e-in-All
returns-in_err-e-in-All c =
    let p = err_from_is_err_and c.from_residual.result c.from_residual.ensures.1 in
    rw (p.1, p.2, c.in-All.is, ← c.judge_leaf.ensures, c.in_err-e-in-All.was)

pub returns-in_ok-e-in-All : goal.returns-in_ok-e-in-All
returns-in_ok-e-in-All c = rw (c.in-All.is, ← c.judge_leaf.ensures, c.in_ok-e-in-All.was, c.get_cell_count.ensures)
