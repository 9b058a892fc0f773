-- `list_visible::pass::write_leaf` meets its contract: what is left to write gives what all of it gives. Assumes nothing.
use Rattle.list_visible.proofs.Writing.{Writing}
use Rattle.list_visible.specs.Steps.Fast.{pass_leaf}
use Rattle.mvcc.specs.Snapshot.{lookup}
use lib.ListN.{length}
use Prim.Native.Nat.{◌-◌}
use Rattle.list_visible.proofs.pass.write_leaf.Given as goal

abbrev pub invariant-loop : goal.invariant-loop
invariant-loop l = Writing l.snapshot (lookup l.statuses) l.p l.pool (length l.initial.out) (pass_leaf l.pool l.p l.snapshot (lookup l.statuses) l.initial.here l.initial.out) l.pg (l.count - l.counter) l.at l.here l.out
