-- `inner_edit::put_pair` meets its contract: the two stores are one. Assumes nothing.
use mathlib.Core.Path.{◌∙◌}
use native.Mathlib.Omega.{arith}
use Rattle.inner_edit.proofs.Editing.{pair-done}
use Rattle.inner_edit.proofs.put_pair.Goals as goal

pub returns : goal.returns
returns c = c.put32.ensures ∙ rw c.put_rank.ensures (pair-done _ _ _ _ (omega arith))
