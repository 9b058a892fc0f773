-- `mvcc::JudgedSnapshot::intrudes` meets its contract, test by test.
-- Assumes nothing.
use mathlib.Core.Path.{sym, ◌∙◌}
use Rattle.mvcc.proofs.RuleLaws.{intruding_own, intruding_else}
use Rattle.mvcc.proofs.JudgedSnapshot.intrudes.Goals as goal

pub returns-then-is_current : goal.returns-then-is_current
returns-then-is_current c = intruding_own _ _ (sym c.is_current.ensures ∙ c.if-is_current.true)

pub returns : goal.returns
returns c = c.changed_after.ensures ∙ intruding_else _ _ _ (sym c.is_current.ensures ∙ c.if-is_current.false)
