-- `list_versions::write_along` meets its contract: the rows written so far go on to what the whole walk gathers. Assumes nothing.
use Prim.Native.Nat.{◌-◌}
use Rattle.list_versions.proofs.Gathering.{Copied}
use Rattle.list_versions.proofs.write_along.Given as goal

abbrev pub invariant-loop : goal.invariant-loop
invariant-loop l = Copied l.which l.used l.first l.pool l.initial.out l.out l.p l.o (l.used - l.counter)
