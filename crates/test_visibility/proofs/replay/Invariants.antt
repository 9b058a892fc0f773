-- `test_visibility::replay` is safe: there are no more cases than bytes that are passed.
use Rattle.std.proofs.Common.{◌+◌, ◌-◌, ◌≤◌, length}
use Rattle.test_visibility.proofs.replay.Given as goal

abbrev pub invariant-loop-line : goal.invariant-loop-line
invariant-loop-line l =
    goal.iterator-loop-line.can_next l.line-iterator
    × goal.iterator-loop-line.is_finite l.line-iterator
    × (l.counts.cases + length l.line-iterator.rest.now ≤ length l.list)

abbrev pub invariant-loop-digit : goal.invariant-loop-digit
invariant-loop-digit l = l.counts.cases + length l.line - l.digit-index + length l.line-iterator.rest.now ≤ length l.list
