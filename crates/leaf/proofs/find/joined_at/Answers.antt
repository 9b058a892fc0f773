-- `leaf::find::joined_at` meets its contract. Assumes nothing.
use Rattle.leaf.proofs.Finding.{read_bad, read_got}
use Rattle.leaf.proofs.find.joined_at.Goals as goal

pub returns-in-Err : goal.returns-in-Err
returns-in-Err c = read_bad _ _ c.read_cell.ensures c.in-Err.is

pub returns-in-Ok : goal.returns-in-Ok
returns-in-Ok c = read_got _ _ c.read_cell.ensures c.in-Ok.is c.joined_of.ensures
