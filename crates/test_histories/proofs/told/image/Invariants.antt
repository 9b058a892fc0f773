-- `test_histories::told::image` is safe: the pieces so far end inside the page.
use Rattle.std.proofs.Common.{◌≤◌}
use Rattle.test_histories.proofs.told.image.Given as goal

abbrev pub invariant-loop : goal.invariant-loop
invariant-loop l = l.at ≤ 4096
