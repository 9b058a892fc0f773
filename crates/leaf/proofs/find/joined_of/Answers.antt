-- `leaf::find::joined_of` meets its contract: each way out is one law of Finding. Assumes nothing.
use Rattle.leaf.proofs.Finding.{joined_found, joined-other, joined-claim, joined_ported}
use Rattle.std.proofs.Common.{rules}
use Rattle.leaf.proofs.find.joined_of.Goals as goal

pub returns-then-found : goal.returns-then-found
returns-then-found c = joined_found _ _ _ _ _ _ _ (search rules)

pub returns-then-x-key : goal.returns-then-x-key
returns-then-x-key c = joined-other _ _ _ _ _ _ _ (search rules) (search rules)

pub returns-then-claiming : goal.returns-then-claiming
returns-then-claiming c = joined-claim _ _ _ _ _ _ _ (search rules) (search rules) (search rules) c.claim_conflicts.ensures

pub returns : goal.returns
returns c = joined_ported _ _ _ _ _ _ _ (search rules) (search rules) (search rules) c.conflicts.ensures
