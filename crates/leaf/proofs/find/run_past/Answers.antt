-- `leaf::find::run_past` meets its contract: each way out is one law of Finding. Assumes nothing.
use Rattle.leaf.proofs.Finding.{past-below, past_same, past_above}
use Rattle.std.proofs.Common.{rules}
use Rattle.leaf.proofs.find.run_past.Goals as goal

pub returns-then-k-key : goal.returns-then-k-key
returns-then-k-key c = past-below _ _ _ _ (search rules)

pub returns-then-k-key-2 : goal.returns-then-k-key-2
returns-then-k-key-2 c = past_same _ _ _ _ (search rules)

pub returns : goal.returns
returns c = past_above _ _ _ _ (search rules) (search rules)
