-- `inner::child_for_key` meets its contract: the first key above is the first that is at least one more. Assumes nothing.
use native.Mathlib.Numerals.{add-one}
use Rattle.std.proofs.Common.{rules}
use Rattle.inner.proofs.child_for_key.Goals as goal

pub returns : goal.returns
returns c = (rw add-one at c.first_from.ensures.0, search rules)
