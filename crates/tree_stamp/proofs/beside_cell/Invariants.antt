-- `tree_stamp::beside_cell` meets its contract: the walk that is left counts as the whole walk does. Assumes nothing.
use mathlib.Core.Path.{◌≡◌}
use Prim.Native.Nat.{◌-◌, ◌≤◌}
use Rattle.leaf.specs.Cells.{cells_of, cells, fold_cells}
use Rattle.tree_stamp.specs.Target.{beside_step, beside_of}
use Rattle.tree_stamp.proofs.beside_cell.Given as goal

abbrev pub invariant-loop : goal.invariant-loop
invariant-loop l =
    record {
      left : fold_cells (beside_step l.at) (record { before = l.before; end = l.end }) (cells_of l.pg (l.count - l.counter) l.end) ≡ beside_of l.at (cells l.pg);
      few : l.before ≤ l.counter;
    }
