-- `call_clean::vacuum::judge_along` meets its contract: what is left of the walk gives what the whole walk gives. Assumes nothing.
use mathlib.Core.Path.{◌≡◌}
use Prim.Native.Nat.{◌-◌}
use Rattle.tree.specs.Chain.{along}
use Rattle.call_clean.specs.Vacuum.{look_leaf}
use Rattle.call_clean.proofs.vacuum.judge_along.Given as goal

abbrev pub invariant-loop : goal.invariant-loop
invariant-loop l = along l.pool l.used l.p look_leaf (l.used - l.counter) tt ≡ along l.pool l.used l.first look_leaf l.used tt
