-- `store::put32` meets its contract. Assumes nothing.
use mathlib.Core.Path.{◌∙◌}
use Rattle.store.proofs.LeBytesLaws.{number_back}
use Rattle.store.proofs.put32.Goals as goal

pub returns : goal.returns
returns c = number_back 4 _ _ _ c.requires (c.copy_from_slice.ensures.after ∙ c.to_le_bytes.ensures)
