-- `list_visible::bound_along` meets its contract: what is left of the walk gives what the whole walk gives. Assumes nothing.
use Rattle.list_visible.specs.Steps.Fast.{look_bound, start_bound}
use Rattle.tree.specs.Chain.{along}
use Prim.Native.Nat.{◌+◌, ◌-◌, ◌*◌, ◌≤◌}
use mathlib.Core.Path.{◌≡◌}
use Rattle.list_visible.proofs.bound_along.Given as goal

abbrev pub invariant-loop : goal.invariant-loop
invariant-loop l = (along l.pool l.used l.p look_bound (l.used - l.counter) l.here ≡ along l.pool l.used l.first look_bound l.used start_bound) × (l.here.size + (l.used - l.counter) * 8192 ≤ l.used * 8192)
