-- `list_versions::size_along` meets its contract: the rows gathered so far go on to what the whole walk gathers. Assumes nothing.
use Prim.Native.Nat.{◌-◌}
use Rattle.list_versions.proofs.Gathering.{Measured}
use Rattle.list_versions.proofs.size_along.Given as goal

abbrev pub invariant-loop : goal.invariant-loop
invariant-loop l = Measured l.which l.used l.first l.pool l.p l.size (l.used - l.counter)
