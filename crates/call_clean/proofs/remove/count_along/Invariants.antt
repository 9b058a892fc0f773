-- `call_clean::remove::count_along` meets its contract: what is left of the walk, from the count so far, gives what the whole walk
-- gives. Assumes nothing.
use mathlib.Core.Path.{◌≡◌}
use Prim.Native.Nat.{◌-◌, ◌*◌, ◌≤◌}
use Rattle.tree.specs.Chain.{along}
use Rattle.call_clean.specs.Remove.{look_held}
use Rattle.call_clean.proofs.remove.count_along.Given as goal

abbrev pub invariant-loop : goal.invariant-loop
invariant-loop l =
    record {
      left : along l.pool l.used l.p (look_held l.key) (l.used - l.counter) l.count ≡ along l.pool l.used l.first (look_held l.key) l.used 0;
      few : l.count ≤ 65535 * l.counter;
    }
