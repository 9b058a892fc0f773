-- `inner::never_falls` meets its contract: the flag and what is left say what the whole says. Assumes nothing.
use mathlib.Core.Path.{◌≡◌}
use mathlib.Core.Bool.{◌&&◌}
use Prim.Native.Nat.{◌-◌}
use Rattle.inner.specs.Inner.{keys_from, never_falls}
use Rattle.inner.proofs.never_falls.Given as goal

abbrev pub invariant-loop-i : goal.invariant-loop-i
invariant-loop-i l = never_falls 0 (keys_from l.pg 0 l.n) ≡ (l.ok && never_falls l.last (keys_from l.pg l.i (l.n - l.i)))
