-- `mvcc::JudgedSnapshot::changed_after` meets its contract, test by test.
-- Assumes nothing.
use mathlib.Core.Path.{◌∙◌}
use Rattle.std.proofs.Common.{rules}
use Rattle.mvcc.proofs.RuleLaws.{changed_late, changed_else}
use Rattle.mvcc.proofs.JudgedSnapshot.changed_after.Goals as goal

pub returns-then-self-tx : goal.returns-then-self-tx
returns-then-self-tx c = rw (← c.self.view_is) (changed_late _ _ (search rules))

pub returns : goal.returns
returns c = rw (← c.self.view_is) (c.in_active.ensures ∙ changed_else _ _ (search rules))
