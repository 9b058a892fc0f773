-- `call_stamp::claim_ready` meets its contract: a claim that names nobody is refused. Assumes nothing.
use mathlib.Core.Path.{ap}
use Rattle.std.proofs.Common.{rules, Err}
use Rattle.call_answers.specs.declared.Refused.{Refused}
use Rattle.call_stamp.proofs.Calls.{claim_nobody}
use Rattle.call_stamp.proofs.claim_ready.Goals as goal

pub returns-then-creator_of-eq0 : goal.returns-then-creator_of-eq0
returns-then-creator_of-eq0 c =
    claim_nobody _ _ _ _ _ c.pool_is_good.ensures c.if-not-pool_is_good.false {who = c.creator_of.result} (search rules) (search rules)
    (ap (λ (x : Refused). Err x) c.into-then-creator_of-eq0.ensures)
