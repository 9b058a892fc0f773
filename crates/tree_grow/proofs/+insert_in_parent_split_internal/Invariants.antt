-- `tree_grow::insert_in_parent` and `tree_grow::split_internal`: the levels that are left, and a step between the two.
use Rattle.std.proofs.Common.{◌+◌, ◌-◌, ◌*◌}
use Rattle.tree_grow.proofs.+insert_in_parent_split_internal.Given as goal

abbrev pub decreases-insert_in_parent : goal.decreases-insert_in_parent
decreases-insert_in_parent l = 2 * (l.path.len - (l.level + 1))

abbrev pub decreases-split_internal : goal.decreases-split_internal
decreases-split_internal l = 2 * (l.path.len - (l.at + 1)) + 1
