-- `tree::descend` meets its contract: each way out is one law of Ways. Assumes nothing.
use Rattle.tree.specs.Descend.{descend_of}
use Prim.Native.Nat.{◌-◌}
use mathlib.Core.Path.{◌≡◌}
use Rattle.tree.proofs.descend.Given as goal

abbrev pub invariant-loop : goal.invariant-loop
invariant-loop l = descend_of l.pool l.used l.p l.route (3 - l.counter) ≡ descend_of l.pool l.used l.root l.route 3
