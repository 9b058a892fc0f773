-- `leaf::place::better_cut` meets its contract. Assumes nothing.
use native.Mathlib.Omega.{arith}
use Rattle.leaf.proofs.Placing.{better-later, better_earlier}
use Rattle.leaf.proofs.place.better_cut.Goals as goal

pub returns-then-larger_side : goal.returns-then-larger_side
returns-then-larger_side c = better-later _ _ _ (omega arith)

pub returns : goal.returns
returns c = better_earlier _ _ _ (omega arith)
