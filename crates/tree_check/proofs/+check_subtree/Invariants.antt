-- `tree_check::check_subtree`: the levels below fall at each call; in its loop the children that are left say what all of them say.
use mathlib.Core.Path.{◌≡◌}
use Prim.Native.Nat.{◌-◌}
use Rattle.tree_check.specs.Steps.Check.{kids_of, check_of}
use Rattle.tree_check.proofs.+check_subtree.Given as goal

abbrev pub invariant-loop-j : goal.invariant-loop-j
invariant-loop-j l =
    kids_of l.pg (check_of l.pool l.used (l.below - 1) l.p) l.lo l.j l.high l.link ≡ check_of l.pool l.used l.below l.parent l.p l.lo l.hi l.next

abbrev pub decreases-check_subtree : goal.decreases-check_subtree
decreases-check_subtree l = l.below
