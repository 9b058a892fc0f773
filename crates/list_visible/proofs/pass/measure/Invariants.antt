-- `list_visible::pass::measure` meets its contract: what was gathered is counted. Assumes nothing.
use Rattle.list_visible.proofs.Passing.{Passing}
use Rattle.mvcc.specs.Snapshot.{lookup}
use Prim.Native.Nat.{◌-◌}
use Rattle.list_visible.proofs.pass.measure.Given as goal

abbrev pub invariant-loop : goal.invariant-loop
invariant-loop l = Passing l.snapshot (lookup l.statuses) l.used l.pool l.first (l.used - l.counter) l.p l.here
