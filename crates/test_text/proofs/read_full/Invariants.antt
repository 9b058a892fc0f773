-- `test_text::read_full` ends: each turn reads at least one byte more.
use Rattle.std.proofs.Common.{◌-◌, ◌≤◌, length}
use Rattle.test_text.proofs.read_full.Given as goal

abbrev pub invariant-loop-n : goal.invariant-loop-n
invariant-loop-n g l = l.n ≤ length l.list

abbrev pub decreases-loop-n : goal.decreases-loop-n
decreases-loop-n g l = length l.list - l.n
