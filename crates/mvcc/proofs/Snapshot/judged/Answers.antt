-- `mvcc::Snapshot::judged` meets its contract.
-- Assumes nothing.
use mathlib.Core.Path.{sym, ◌∙◌}
use Rattle.mvcc.proofs.Laws.{good-active-rises}
use Rattle.mvcc.proofs.Snapshot.judged.Goals as goal

pub invariant_of-result : goal.invariant_of-result
invariant_of-result c = good-active-rises _ (sym c.good_active.ensures ∙ c.if-not-good_active.false)

pub returns : goal.returns
returns c = rw (← c.self.view_is, sym c.good_active.ensures ∙ c.if-not-good_active.false)
