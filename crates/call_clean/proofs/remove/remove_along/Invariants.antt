-- `call_clean::remove::remove_along` meets its contract: what is left to do, from the pool as it is now, gives what all of it gives.
-- Assumes nothing.
use mathlib.Core.Path.{◌≡◌}
use Prim.Native.Nat.{◌-◌}
use Rattle.store.specs.Le.{AreBytes}
use Rattle.call_clean.specs.Remove.{removed_along}
use Rattle.call_clean.proofs.remove.remove_along.Given as goal

abbrev pub invariant-loop : goal.invariant-loop
invariant-loop l =
    record {
      left : removed_along l.pool l.used l.p l.key (l.used - l.counter) ≡ removed_along l.initial.pool l.used l.first l.key l.used;
      bytes : AreBytes l.pool;
    }
