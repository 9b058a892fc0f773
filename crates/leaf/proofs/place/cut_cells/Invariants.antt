-- `leaf::place::cut_cells` meets its contract: the walk that is left cuts as the whole walk does. Assumes nothing.
use mathlib.Core.Path.{◌≡◌}
use Prim.Native.Nat.{◌-◌, ◌+◌, ◌≤◌}
use Rattle.leaf.specs.Cells.{cells_of}
use Rattle.leaf.specs.Place.{cut_after, sizes_of}
use Rattle.leaf.proofs.place.cut_cells.Given as goal

abbrev pub invariant-loop : goal.invariant-loop
invariant-loop l =
    (l.at ≤ 4096)
    × (cut_after l.t l.here (sizes_of (cells_of l.pg (l.n - l.counter) l.at)) ≡ cut_after l.t l.initial.here (sizes_of (cells_of l.pg l.n l.from)))
    × (l.here.left.cells ≤ l.initial.here.left.cells + l.counter)
    × (l.here.left.bytes + l.from ≤ l.initial.here.left.bytes + l.at)
