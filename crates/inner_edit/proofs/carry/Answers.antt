-- `inner_edit::carry` meets its contract: one law for each place of the pair. Assumes nothing.
use mathlib.Core.Path.{◌∙◌}
use native.Mathlib.Omega.{arith}
use Rattle.inner_edit.proofs.Dividing.{carry-low, carry-here}
use Rattle.std.proofs.Common.{rules}
use Rattle.inner_edit.proofs.carry.Goals as goal

pub returns-then-i-lt-KEPT_KEYS : goal.returns-then-i-lt-KEPT_KEYS
returns-then-i-lt-KEPT_KEYS c = c.shift.ensures ∙ carry-low _ _ _ _ _ _ (omega arith) (omega arith) (omega arith) (search rules) (omega arith)

pub returns-then-i-eq-KEPT_KEYS : goal.returns-then-i-eq-KEPT_KEYS
returns-then-i-eq-KEPT_KEYS c = carry-here _ _ _ _ _ _ (omega arith) (omega arith) (omega arith) (search rules) (omega arith) c.put32.ensures c.shift-then-i-eq-KEPT_KEYS.ensures
