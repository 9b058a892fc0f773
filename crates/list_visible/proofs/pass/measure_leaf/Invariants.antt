-- `list_visible::pass::measure_leaf` meets its contract: the cells that are left give what all of them give. Assumes nothing.
use Rattle.list_visible.proofs.Measuring.{Measuring}
use Rattle.list_visible.specs.Steps.Fast.{scan_leaf}
use Rattle.mvcc.specs.Snapshot.{lookup}
use Rattle.page.specs.Page.{page}
use Prim.Native.Nat.{◌-◌}
use Rattle.list_visible.proofs.pass.measure_leaf.Given as goal

abbrev pub invariant-loop : goal.invariant-loop
invariant-loop l = Measuring l.snapshot (lookup l.statuses) l.p (scan_leaf (page l.pool l.p) l.p l.snapshot (lookup l.statuses) l.initial.here) l.initial.here.size l.pg (l.count - l.counter) l.at l.here
