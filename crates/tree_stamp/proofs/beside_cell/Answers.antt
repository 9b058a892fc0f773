-- `tree_stamp::beside_cell` meets its contract: the walk that is left counts as the whole walk does. Assumes nothing.
use mathlib.Core.Path.{sym, ◌∙◌}
use native.Mathlib.Omega.{arith}
use Rattle.tree_stamp.proofs.Counting.{count_start, count-done, count_bad, count_on, count-one, count_none}
use Rattle.tree_stamp.proofs.beside_cell.Goals as goal
use Rattle.tree_stamp.proofs.beside_cell.Goals.{then-end-at, else-end-at}

pub loop-init : goal.loop-init
loop-init c = record { left = count_start _ _ (omega (arith, c.get_cell_count-count.ensures)); few = omega arith }

pub returns-in_default : goal.returns-in_default
returns-in_default c = sym (count_bad _ _ _ _ c.cell_end.ensures _ c.in_default.is) ∙ c.loop.invariant.left

pub loop-preserved : goal.loop-preserved
loop-preserved c =
    record {
      left =
          count_on _ _ _ _ c.cell_end.ensures _ (omega arith) c.in-Some.is
          (elim c.if-end-at.branch [ then-end-at w ↦ count-one _ _ _ w.if-end-at.true w.before-is | else-end-at w ↦ count_none _ _ _ w.if-end-at.false w.before-is ])
          ∙ c.loop.invariant.left;
      few = elim c.if-end-at.branch [ then-end-at w ↦ omega arith | else-end-at w ↦ omega arith ];
    }

pub returns : goal.returns
returns c = sym (count-done _ _ _ _ _ (omega arith)) ∙ c.loop.invariant.left
