-- `list_visible::bound_in_leaf` meets its contract: the walk that is left gives what the whole walk gives. Assumes nothing.
use Rattle.list_visible.specs.Steps.Fast.{bound_cell}
use Rattle.leaf.proofs.Walking.{walk}
use Prim.Native.Nat.{◌+◌, ◌-◌, ◌*◌, ◌≤◌}
use mathlib.Core.Path.{◌≡◌}
use Rattle.list_visible.proofs.bound_in_leaf.Given as goal

abbrev pub invariant-loop : goal.invariant-loop
invariant-loop l = (l.at ≤ 4096) × (walk bound_cell l.p l.k l.c (l.count - l.counter) l.at l.here l.pg ≡ walk bound_cell l.p 0 0 l.count 12 l.initial.here l.pg) × (l.here.size + 24 ≤ l.initial.here.size + l.at * 2)
