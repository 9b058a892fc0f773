-- `tree::test_along` meets its contract: what is left of the walk gives what the whole walk gives. Assumes nothing.
use Rattle.std.proofs.Common.{false}
use Rattle.tree.specs.Chain.{along, look_test}
use Rattle.mvcc.specs.Snapshot.{lookup}
use Prim.Native.Nat.{◌-◌}
use mathlib.Core.Path.{◌≡◌}
use Rattle.tree.proofs.test_along.Given as goal

abbrev pub invariant-loop : goal.invariant-loop
invariant-loop l =
    along l.pool l.used l.p (look_test l.key l.snapshot (lookup l.statuses) l.claiming l.seen) (l.used - l.counter) l.found ≡ along l.pool l.used l.first (look_test l.key l.snapshot (lookup l.statuses) l.claiming l.seen) l.used false
