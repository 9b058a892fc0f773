-- `leaf_vacuum::vacuum_leaf` meets its contract: the sweep that is left, of the page as it is now, comes to the vacuumed leaf;
-- and the rows that are left stand on the page. Assumes nothing.
use mathlib.Core.Path.{◌≡◌}
use Prim.Native.Nat.{◌+◌, ◌-◌, ◌≤◌, ◌<◌}
use Rattle.mvcc.specs.Snapshot.{lookup}
use Rattle.leaf_vacuum.specs.Vacuum.{vacuumed_leaf}
use Rattle.leaf_vacuum.specs.Steps.Vacuum.{sweep}
use Rattle.leaf_vacuum.proofs.Sweeping.{Left}
use Rattle.leaf_vacuum.proofs.vacuum_leaf.Given as goal

abbrev pub invariant-loop : goal.invariant-loop
invariant-loop l =
    Left (l.n - l.counter) l.at l.end l.pg
    × (sweep (lookup l.statuses) l.bound (l.n - l.counter) l.at l.end l.count l.dropped l.changed l.pg ≡ vacuumed_leaf l.initial.pg (lookup l.statuses) l.bound)
    × (l.n ≤ l.count + l.counter)
    × (l.count < 65536)
    × (l.dropped ≤ l.counter)
