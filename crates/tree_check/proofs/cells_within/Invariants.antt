-- `tree_check::cells_within` meets its contract: the walk that is left gives what the whole walk gives. Assumes nothing.
use mathlib.Core.Path.{◌≡◌}
use mathlib.Core.Bool.{true}
use Prim.Native.Nat.{◌-◌, ◌≤◌}
use Rattle.leaf.proofs.Walking.{walk}
use Rattle.tree_check.proofs.Checking.{more}
use Rattle.tree_check.proofs.cells_within.Given as goal

abbrev pub invariant-loop : goal.invariant-loop
invariant-loop l =
    (l.at ≤ 4096) × (walk (more l.lo l.hi) l.p l.k l.c (l.count - l.counter) l.at true l.pg ≡ walk (more l.lo l.hi) l.p 0 0 l.count 12 true l.pg)
