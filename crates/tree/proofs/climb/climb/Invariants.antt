-- `tree::climb::climb` meets its contract: what is left of the climb, from the path so far, gives what the whole climb
-- gives, and that is the climb of the definition. Assumes nothing.
use mathlib.Core.Path.{◌≡◌}
use Prim.Native.Nat.{◌-◌, ◌≤◌, ◌<◌}
use Rattle.tree.proofs.Climbing.{climb_from, leaf_path}
use Rattle.tree.proofs.climb.climb.Given as goal

abbrev pub invariant-loop-p : goal.invariant-loop-p
invariant-loop-p l =
    (l.path.len ≤ 4) × (l.p < l.used) × (climb_from (4 - l.path.len) l.used l.root l.p l.path l.pool ≡ climb_from 3 l.used l.root l.leaf (leaf_path l.leaf) l.pool)

abbrev pub decreases-loop-p : goal.decreases-loop-p
decreases-loop-p l = 4 - l.path.len
