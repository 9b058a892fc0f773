-- `store::get16` meets its contract. Assumes nothing.
use mathlib.Core.Path.{◌∙◌}
use Rattle.store.proofs.LeBytesLaws.{number_lent}
use Rattle.store.proofs.get16.Goals as goal

pub returns : goal.returns
returns c = c.from_le_bytes.ensures ∙ number_lent 1 _ _ (rw c.unwrap.ensures at c.try_into.ensures.1).same
