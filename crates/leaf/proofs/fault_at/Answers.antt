-- `leaf::fault_at` meets its contract: each way out is one law of Walking. Assumes nothing.
use Rattle.leaf.proofs.Walking.{fault_bad, fault-order}
use Rattle.leaf.proofs.fault_at.Goals as goal

pub returns-in-Err : goal.returns-in-Err
returns-in-Err c = fault_bad _ _ _ c.read_cell.ensures c.in-Err.is c.cell_fault.ensures

pub returns-in-Ok : goal.returns-in-Ok
returns-in-Ok c = fault-order _ _ _ c.read_cell.ensures c.in-Ok.is c.structural_fault.ensures
