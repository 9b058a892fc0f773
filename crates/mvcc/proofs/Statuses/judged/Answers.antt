-- `mvcc::Statuses::judged` meets its contract.
-- Assumes nothing.
use mathlib.Core.Path.{sym, ◌∙◌}
use Rattle.mvcc.proofs.Laws.{good-statuses-judged}
use Rattle.mvcc.proofs.Statuses.judged.Goals as goal

pub invariant_of-result : goal.invariant_of-result
invariant_of-result c = good-statuses-judged _ (sym c.good_statuses.ensures ∙ c.if-not-good_statuses.false)

pub returns : goal.returns
returns c = rw (← c.self.view_is, sym c.good_statuses.ensures ∙ c.if-not-good_statuses.false)
