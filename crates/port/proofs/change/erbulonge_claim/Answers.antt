-- `port::change::erbulonge_claim` meets its contract. Assumes nothing.
use mathlib.Core.Path.{ap, ◌∙◌}
use mir.Facts.{to_z-of_z}
use Rattle.page.specs.Key.{rank_of}
use Rattle.port.specs.Words.{state_words}
use Rattle.port.proofs.Giving.{then_is}
use Rattle.port.proofs.Changing.{passed-pool, claim_asked}
use Rattle.port.proofs.change.erbulonge_claim.Goals as goal

pub returns : goal.returns
returns c =
    passed-pool state_words _ c.give.ensures
    (c.claim.ensures ∙ claim_asked _ _ (ap rank_of (to_z-of_z c.ranges.key)) (c.then_some.ensures ∙ then_is _ _) _ _ _)
