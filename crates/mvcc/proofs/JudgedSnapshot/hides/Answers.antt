-- `mvcc::JudgedSnapshot::hides` meets its contract, test by test.
-- Assumes nothing.
use mathlib.Core.Path.{sym, ◌∙◌}
use Rattle.std.proofs.Common.{rules}
use Rattle.mvcc.proofs.RuleLaws.{of_absent, hidden_own, hidden_else}
use Rattle.mvcc.proofs.JudgedSnapshot.hides.Goals as goal

pub returns-then-is_current : goal.returns-then-is_current
returns-then-is_current c = hidden_own _ _ _ _ c.in-Some.is (sym c.is_current.ensures ∙ c.if-is_current.true)

pub returns-else-is_current : goal.returns-else-is_current
returns-else-is_current c =
    c.committed_before.ensures
    ∙ hidden_else _ _ _ _ c.in-Some.is (sym c.is_current.ensures ∙ c.if-is_current.false) _ c.state_beside-other.ensures

pub returns-in-None : goal.returns-in-None
returns-in-None c = of_absent _ _ (search rules)
