-- `inner_edit::keep` meets its contract: the pair is among these bytes, or after them. Assumes nothing.
use mathlib.Core.Path.{◌∙◌}
use native.Mathlib.Omega.{arith}
use Rattle.inner_edit.proofs.Dividing.{keep-done, keep-none}
use Rattle.inner_edit.proofs.keep.Goals as goal

pub returns-then-i-lt-KEPT_KEYS : goal.returns-then-i-lt-KEPT_KEYS
returns-then-i-lt-KEPT_KEYS c = c.open_pair.ensures ∙ keep-done _ _ _ _ (omega arith) (omega arith) (omega arith) (omega arith)

pub returns-else-i-lt-KEPT_KEYS : goal.returns-else-i-lt-KEPT_KEYS
returns-else-i-lt-KEPT_KEYS c = keep-none _ _ _ _ (omega arith) (omega arith) (omega arith) (omega arith)
