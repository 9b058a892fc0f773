-- `tree::best_along` meets its contract: what is left of the walk gives what the whole walk gives. Assumes nothing.
use Rattle.std.proofs.Common.{None}
use Rattle.tree.specs.Chain.{along, look_best}
use Rattle.mvcc.specs.Snapshot.{lookup}
use Prim.Native.Nat.{◌-◌}
use mathlib.Core.Path.{◌≡◌}
use Rattle.tree.proofs.best_along.Given as goal

abbrev pub invariant-loop : goal.invariant-loop
invariant-loop l =
    along l.pool l.used l.p (look_best l.key l.snapshot (lookup l.statuses)) (l.used - l.counter) l.best ≡ along l.pool l.used l.first (look_best l.key l.snapshot (lookup l.statuses)) l.used None
