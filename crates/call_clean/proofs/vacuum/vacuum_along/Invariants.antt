-- `call_clean::vacuum::vacuum_along` meets its contract: what is left to do, from the pool as it is now, gives what all of it gives.
-- Assumes nothing.
use mathlib.Core.Path.{◌≡◌}
use Prim.Native.Nat.{◌-◌, ◌*◌, ◌≤◌}
use Rattle.mvcc.specs.Snapshot.{lookup}
use Rattle.call_clean.specs.Vacuum.{vacuumed_along}
use Rattle.call_clean.proofs.vacuum.vacuum_along.Given as goal

abbrev pub invariant-loop : goal.invariant-loop
invariant-loop l =
    record {
      few : l.dropped ≤ 65535 * l.counter;
      left : vacuumed_along l.pool l.used l.p (lookup l.statuses) l.bound (l.used - l.counter) l.dropped
          ≡ vacuumed_along l.initial.pool l.used l.first (lookup l.statuses) l.bound l.used 0;
    }
