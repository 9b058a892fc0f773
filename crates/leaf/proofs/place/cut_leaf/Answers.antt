-- `leaf::place::cut_leaf` meets its contract: two walks and a step between them are one walk. Assumes nothing.
use native.Mathlib.Omega.{arith}
use Rattle.leaf.proofs.Placing.{step-passed, walk-passed, leaf_cut}
use Rattle.leaf.proofs.place.cut_leaf.Goals as goal

pub cut_step-there-requires : goal.cut_step-there-requires
cut_step-there-requires c =
    let w = walk-passed _ _ _ _ _ (omega arith) c.cut_cells-first.ensures in
    (omega (arith, w), omega (arith, w), omega arith)

pub cut_cells-last-requires : goal.cut_cells-last-requires
cut_cells-last-requires c =
    let w = walk-passed _ _ _ _ _ (omega arith) c.cut_cells-first.ensures in
    let s = step-passed _ _ _ c.cut_step-there.ensures in
    (omega arith, omega arith, omega arith, omega (arith, w, s), omega (arith, w, s))

pub returns : goal.returns
returns c = leaf_cut _ _ _ _ _ _ c.cut_cells-first.ensures c.cut_step-there.ensures c.cut_cells-last.ensures
