-- `leaf::judge_cells` meets its contract: the walk that is left gives what the whole walk gives. Assumes nothing.
use Rattle.leaf.proofs.Walking.{walk, nothing}
use Prim.Native.Nat.{◌-◌, ◌≤◌}
use mathlib.Core.Path.{◌≡◌}
use Rattle.leaf.proofs.judge_cells.Given as goal

abbrev pub invariant-loop : goal.invariant-loop
invariant-loop l = (l.at ≤ 4096) × (walk nothing l.p l.k l.c (l.n - l.counter) l.at 0 l.pg ≡ walk nothing l.p 0 0 l.n 12 0 l.pg)
