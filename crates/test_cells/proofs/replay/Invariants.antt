-- `test_cells::replay` is safe: neither count is above the bytes that are passed.
use Rattle.std.proofs.Common.{◌+◌, ◌≤◌, length}
use Rattle.test_cells.proofs.replay.Given as goal

abbrev pub invariant-loop-line : goal.invariant-loop-line
invariant-loop-line g l =
    (goal.iterator-loop-line g).can_next l.line-iterator
    × (goal.iterator-loop-line g).is_finite l.line-iterator
    × (l.cases + (goal.iterator-loop-line g).remaining l.line-iterator ≤ length l.list)
    × (l.differ ≤ l.cases)
