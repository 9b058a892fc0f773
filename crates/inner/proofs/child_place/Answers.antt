-- `inner::child_place` meets its contract. Invariant: none of the children so far is the one. Assumes nothing.
use Rattle.std.proofs.Common.{arith}
use Rattle.inner.proofs.Routing.{first_child}
use Rattle.inner.proofs.child_place.Goals as goal

pub returns-then-child_at-child : goal.returns-then-child_at-child
returns-then-child_at-child c = (first_child _ _ _ _ (omega arith) c.loop-i.invariant (λ _. omega arith), omega arith)

pub returns : goal.returns
returns c = (first_child _ _ _ _ (omega arith) (λ k u. c.loop-i.invariant k (omega arith)) (λ u. absurd (omega arith)), omega arith)
