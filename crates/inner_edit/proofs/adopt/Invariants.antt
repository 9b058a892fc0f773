-- `inner_edit::adopt` meets its contract: what is left, from the pool as it is now, gives what all of it gives. Assumes nothing.
use mathlib.Core.Path.{◌≡◌}
use Prim.Native.Nat.{◌-◌}
use Rattle.inner_edit.specs.Edit.{adopted}
use Rattle.inner_edit.specs.Steps.Edit.{AdoptSafe}
use Rattle.inner_edit.proofs.adopt.Given as goal

abbrev pub invariant-loop-k : goal.invariant-loop-k
invariant-loop-k l =
    AdoptSafe (l.k-end - l.k) l.k l.p l.q l.pool × (adopted (l.k-end - l.k) l.k l.p l.q l.pool ≡ adopted l.n l.i l.p l.q l.initial.pool)
