-- `leaf::judge_leaf` meets its contract. Assumes nothing.
use Rattle.leaf.proofs.Walking.{leaf-other, leaf-cells}
use native.Mathlib.Omega.{arith}
use Rattle.leaf.proofs.judge_leaf.Goals as goal

pub returns-then-get_node_type-ne-NODE_LEAF : goal.returns-then-get_node_type-ne-NODE_LEAF
returns-then-get_node_type-ne-NODE_LEAF c = leaf-other _ _ (λ e. omega arith) c.structural_fault.ensures

pub returns : goal.returns
returns c = leaf-cells _ _ (omega arith) c.get_cell_count.ensures c.judge_cells.ensures
