-- `list_visible::pass::write_scan` meets its contract: what was gathered stands at the start of the output. Assumes nothing.
use Rattle.list_visible.proofs.Passing.{Putting}
use Rattle.mvcc.specs.Snapshot.{lookup}
use Prim.Native.Nat.{◌-◌}
use Rattle.list_visible.proofs.pass.write_scan.Given as goal

abbrev pub invariant-loop : goal.invariant-loop
invariant-loop l = Putting l.snapshot (lookup l.statuses) l.used l.pool l.first l.initial.out (l.used - l.counter) l.p l.here l.out
