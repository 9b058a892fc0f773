-- `leaf::find::test_leaf` meets its contract: the walk that is left gives what the whole walk gives. Assumes nothing.
use Rattle.leaf.proofs.Walking.{walk}
use Rattle.leaf.specs.Find.{joined}
use Rattle.mvcc.specs.Snapshot.{lookup}
use Prim.Native.Nat.{◌-◌, ◌≤◌}
use mathlib.Core.Path.{◌≡◌}
use Rattle.leaf.proofs.find.test_leaf.Given as goal

abbrev pub invariant-loop : goal.invariant-loop
invariant-loop l = (l.at ≤ 4096) × (walk (joined l.key l.snapshot (lookup l.statuses) l.claiming l.seen) l.p l.k l.c (l.count - l.counter) l.at l.found l.pg ≡ walk (joined l.key l.snapshot (lookup l.statuses) l.claiming l.seen) l.p 0 0 l.count 12 l.before l.pg)
