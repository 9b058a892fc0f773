-- `mvcc::JudgedSnapshot::claim_conflicts` meets its contract: today it is the ported test.
-- Assumes nothing.
use Rattle.std.proofs.Common.{rules}
use Rattle.mvcc.specs.Rules.{claim_conflicting}
use Rattle.mvcc.proofs.JudgedSnapshot.claim_conflicts.Goals as goal

pub returns : goal.returns
unfolding claim_conflicting
returns c = search rules
