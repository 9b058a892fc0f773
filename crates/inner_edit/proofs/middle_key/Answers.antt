-- `inner_edit::middle_key` meets its contract: each way out is one law of Dividing. Assumes nothing.
use mathlib.Core.Path.{◌∙◌}
use native.Mathlib.Omega.{arith}
use Rattle.inner_edit.proofs.Dividing.{middle_low, middle_here, middle_high}
use Rattle.inner_edit.proofs.middle_key.Goals as goal

pub returns-then-i-lt-KEPT_KEYS : goal.returns-then-i-lt-KEPT_KEYS
returns-then-i-lt-KEPT_KEYS c = λ child. c.key_at.ensures ∙ middle_low _ _ child _ (omega arith) (omega arith) (omega arith) (omega arith)

pub returns-then-i-eq-KEPT_KEYS : goal.returns-then-i-eq-KEPT_KEYS
returns-then-i-eq-KEPT_KEYS c = λ child. middle_here _ _ child _ (omega arith) (omega arith) (omega arith) (omega arith) (omega arith)

pub returns : goal.returns
returns c = λ child. c.key_at-2.ensures ∙ middle_high _ _ child _ (omega arith) (omega arith) (omega arith) (omega arith)
