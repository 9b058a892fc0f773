-- `mvcc::JudgedSnapshot::committed_before` meets its contract, test by test.
-- Assumes nothing.
use mathlib.Core.Path.{sym, ◌∙◌}
use Rattle.std.proofs.Common.{rules}
use Rattle.mvcc.proofs.RuleLaws.{finished_zero, unfinished_late, unfinished_running, unfinished_aborted, unfinished_active, finished_else}
use Rattle.mvcc.proofs.JudgedSnapshot.committed_before.Goals as goal

pub returns-then-tx-eq0 : goal.returns-then-tx-eq0
returns-then-tx-eq0 c = finished_zero _ _ _ _ (search rules)

pub returns-then-self-tx : goal.returns-then-self-tx
returns-then-self-tx c = rw (← c.self.view_is) (unfinished_late _ _ _ _ (search rules) (search rules))

pub returns-then-state-eq1 : goal.returns-then-state-eq1
returns-then-state-eq1 c = rw (← c.self.view_is) (unfinished_running _ _ _ _ (search rules) (search rules))

pub returns-then-state-eq3 : goal.returns-then-state-eq3
returns-then-state-eq3 c = rw (← c.self.view_is) (unfinished_aborted _ _ _ _ (search rules) (search rules))

pub returns-then-in_active : goal.returns-then-in_active
returns-then-in_active c = rw (← c.self.view_is) (unfinished_active _ _ _ _ (search rules) (sym c.in_active.ensures ∙ c.if-in_active.true))

pub returns : goal.returns
returns c = rw (← c.self.view_is) (finished_else _ _ _ _ (search rules) (search rules) (search rules) (search rules) (sym c.in_active.ensures ∙ c.if-in_active.false))
