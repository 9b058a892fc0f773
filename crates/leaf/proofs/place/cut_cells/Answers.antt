-- `leaf::place::cut_cells` meets its contract: the walk that is left cuts as the whole walk does. Assumes nothing.
use mathlib.Core.Path.{sym, ◌∙◌}
use native.Mathlib.Omega.{arith}
use Rattle.std.proofs.Common.{rules}
use Rattle.leaf.proofs.Placing.{cut_done, cut_bad, cut_in, forward, step-passed}
use Rattle.leaf.proofs.place.cut_cells.Goals as goal

pub returns-in_default : goal.returns-in_default
returns-in_default c = sym (cut_bad _ _ _ _ _ c.read_cell.ensures c.in_default.is) ∙ c.loop.invariant.1

pub overflow_sub-x : goal.overflow_sub-x
overflow_sub-x c = omega (arith, forward _ _ c.read_cell.ensures c.in-Ok.is)

pub cut_step-here-requires : goal.cut_step-here-requires
cut_step-here-requires c = (omega arith, omega arith, omega (arith, forward _ _ c.read_cell.ensures c.in-Ok.is))

pub loop-preserved : goal.loop-preserved
loop-preserved c =
    let f = forward _ _ c.read_cell.ensures c.in-Ok.is in (
      omega arith,
      cut_in _ _ _ _ _ _ (search rules) c.read_cell.ensures c.in-Ok.is c.cut_step-here.ensures
          ∙ c.loop.invariant.1,
      omega (arith, step-passed _ _ _ c.cut_step-here.ensures),
      omega (arith, step-passed _ _ _ c.cut_step-here.ensures),
    )

pub returns : goal.returns
returns c = sym (cut_done _ _ _ _ _ (search rules)) ∙ c.loop.invariant.1
