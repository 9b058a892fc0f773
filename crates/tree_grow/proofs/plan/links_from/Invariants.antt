-- `tree_grow::plan::links_from` meets its contract: what is left of the children is in use where all of them are. Assumes
-- nothing.
use Rattle.std.proofs.Common.{◌≡◌, ◌-◌}
use Rattle.inner.specs.Inner.{children_from}
use Rattle.tree_grow.specs.Plan.{in_use}
use Rattle.tree_grow.proofs.plan.links_from.Given as goal

abbrev pub invariant-loop-k : goal.invariant-loop-k
invariant-loop-k l = in_use l.used (children_from l.pg l.k (l.k-end - l.k)) ≡ in_use l.used (children_from l.pg l.i l.n)
