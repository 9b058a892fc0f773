-- `leaf::find::newest_of` meets its contract: each way out is one law of Finding. Assumes nothing.
use Rattle.leaf.proofs.Finding.{newest-other, newest-seen, newest_unseen}
use Rattle.std.proofs.Common.{rules}
use Rattle.leaf.proofs.find.newest_of.Goals as goal

pub returns-then-x-key : goal.returns-then-x-key
returns-then-x-key c = newest-other _ _ _ _ _ _ (search rules)

pub returns-then-sees : goal.returns-then-sees
returns-then-sees c = newest-seen _ _ _ _ _ _ (search rules) c.sees.ensures (search rules) c.later_of.ensures

pub returns : goal.returns
returns c = newest_unseen _ _ _ _ _ _ (search rules) c.sees.ensures (search rules)
