-- `leaf::find::run_in_leaf` meets its contract: the walk that is left gives what the whole walk gives. Assumes nothing.
use Rattle.leaf.proofs.Walking.{walk}
use Rattle.leaf.specs.Find.{running}
use Prim.Native.Nat.{◌-◌, ◌+◌, ◌≤◌}
use mathlib.Core.Path.{◌≡◌}
use Rattle.leaf.proofs.find.run_in_leaf.Given as goal

abbrev pub invariant-loop : goal.invariant-loop
invariant-loop l = (l.at ≤ 4096) × (walk (running l.key) l.p l.k l.c (l.count - l.counter) l.at l.here l.pg ≡ walk (running l.key) l.p 0 0 l.count 12 (record { from = 12; to = 12; count = 0 }) l.pg) × (l.here.count + (l.count - l.counter) ≤ l.count)
