-- `mvcc::JudgedStatuses::fate_of` meets its contract, test by test.
-- Assumes nothing.
use mathlib.Core.Path.{◌∙◌}
use Rattle.std.proofs.Common.{rules}
use Rattle.mvcc.proofs.RuleLaws.{fate_aborted, fate-live, fate-stamped}
use Rattle.mvcc.proofs.JudgedStatuses.fate_of.Goals as goal

pub returns-then-state_of-eq3 : goal.returns-then-state_of-eq3
returns-then-state_of-eq3 c = fate_aborted _ _ _ _ _ c.state_of.ensures (search rules)

pub returns-in-Some : goal.returns-in-Some
returns-in-Some c = c.stamped_fate.ensures ∙ fate-stamped _ _ _ _ _ c.state_of.ensures (search rules) _ c.in-Some.is _ c.state_of-in-Some.ensures

pub returns-in-None : goal.returns-in-None
returns-in-None c = fate-live _ _ _ _ _ c.state_of.ensures (search rules) (search rules)
