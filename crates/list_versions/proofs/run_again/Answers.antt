-- `list_versions::run_again` meets its contract, case by case. Assumes nothing.
use Rattle.list_versions.proofs.run_again.Goals as goal

pub returns-in-All : goal.returns-in-All
returns-in-All c = rw (c.in-All.is, c.get_cell_count.ensures)

pub returns-in-Err : goal.returns-in-Err
returns-in-Err c = rw (c.in-Key.is, ← c.run_in_leaf.ensures, c.in-Err.is)

pub returns-in-Ok : goal.returns-in-Ok
returns-in-Ok c = rw (c.in-Key.is, ← c.run_in_leaf.ensures, c.in-Ok.is)
