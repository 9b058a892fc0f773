-- `mvcc::JudgedSnapshot::conflicts` meets its contract, test by test.
-- Assumes nothing.
use mathlib.Core.Path.{◌∙◌}
use Rattle.std.proofs.Common.{rules}
use Rattle.mvcc.proofs.RuleLaws.{conflict-other, conflict-live, conflict-stamped}
use Rattle.mvcc.proofs.JudgedSnapshot.conflicts.Goals as goal

pub returns-then-creator-seen : goal.returns-then-creator-seen
returns-then-creator-seen c = c.intrudes.ensures ∙ conflict-other _ _ _ _ (search rules)

pub returns-in-Some : goal.returns-in-Some
returns-in-Some c = conflict-stamped _ _ _ _ (search rules) _ c.in-Some.is (search rules)

pub returns-in-None : goal.returns-in-None
returns-in-None c = conflict-live _ _ _ _ (search rules) (search rules)
