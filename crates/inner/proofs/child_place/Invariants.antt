-- `inner::child_place` meets its contract. Invariant: none of the children so far is the one. Assumes nothing.
use Rattle.std.proofs.Common.{◌≡◌, ℕ, ◌<◌}
use Rattle.inner.specs.Inner.{child_at}
use Rattle.inner.proofs.child_place.Given as goal

abbrev pub invariant-loop-i : goal.invariant-loop-i
invariant-loop-i l = (k : ℕ) → k < l.i → child_at l.pg k ≡ l.child → ⊥
