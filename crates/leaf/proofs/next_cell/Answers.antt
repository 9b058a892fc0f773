-- `leaf::next_cell` meets its contract: each way out is one law of Walking. Assumes nothing.
use Rattle.leaf.proofs.Walking.{end_low, step-end-none, step-end_in, step-end-out}
use native.Mathlib.Omega.{arith}
use Rattle.std.proofs.Common.{rules}
use Rattle.leaf.proofs.next_cell.Goals as goal

pub returns-in_default : goal.returns-in_default
returns-in_default c = step-end-none _ _ _ _ _ c.cell_end.ensures c.in_default.is c.fault_at.ensures

pub get_rank-requires : goal.get_rank-requires
get_rank-requires c = let h = end_low _ _ c.cell_end.ensures c.in-Some.is in omega (arith, h.0, h.1)

pub creator_at-requires : goal.creator_at-requires
creator_at-requires c = let h = end_low _ _ c.cell_end.ensures c.in-Some.is in omega (arith, h.0, h.1)

pub returns-then-in_order : goal.returns-then-in_order
returns-then-in_order c = step-end_in _ _ _ _ _ c.cell_end.ensures c.in-Some.is c.get_rank.ensures c.creator_at.ensures c.in_order.ensures (search rules)

pub returns : goal.returns
returns c = step-end-out _ _ _ _ _ c.cell_end.ensures c.in-Some.is c.get_rank.ensures c.creator_at.ensures c.in_order.ensures (search rules) c.structural_fault.ensures
