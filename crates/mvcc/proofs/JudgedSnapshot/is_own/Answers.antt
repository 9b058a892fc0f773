-- `mvcc::JudgedSnapshot::is_own` meets its contract, variant by variant.
-- Assumes nothing.
use mathlib.Core.Path.{◌∙◌}
use Rattle.std.proofs.Common.{rules}
use Rattle.mvcc.proofs.RuleLaws.{of_by, of_absent}
use Rattle.mvcc.proofs.JudgedSnapshot.is_own.Goals as goal

pub returns-in-Some : goal.returns-in-Some
returns-in-Some c = c.is_current.ensures ∙ of_by _ _ _ c.in-Some.is

pub returns-in-None : goal.returns-in-None
returns-in-None c = of_absent _ _ (search rules)
