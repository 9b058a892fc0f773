-- `store::get32` meets its contract. Assumes nothing.
use mathlib.Core.Path.{◌∙◌}
use Rattle.store.proofs.LeBytesLaws.{number_lent}
use Rattle.store.proofs.get32.Goals as goal

pub returns : goal.returns
returns c = c.from_le_bytes.ensures ∙ number_lent 3 _ _ (rw c.unwrap.ensures at c.try_into.ensures.1).same
