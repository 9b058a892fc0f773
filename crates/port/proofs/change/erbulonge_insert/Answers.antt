-- `port::change::erbulonge_insert` meets its contract. Assumes nothing.
use mathlib.Core.Path.{ap, ◌∙◌}
use mir.Facts.{to_z-of_z}
use Rattle.page.specs.Key.{rank_of}
use Rattle.port.specs.Words.{state_words}
use Rattle.port.proofs.Giving.{then_is}
use Rattle.port.proofs.Changing.{passed-pool, insert_asked}
use Rattle.port.proofs.change.erbulonge_insert.Goals as goal

pub returns : goal.returns
returns c =
    passed-pool state_words _ c.give.ensures
    (c.insert.ensures ∙ insert_asked _ _ (ap rank_of (to_z-of_z c.ranges.key)) (c.then_some-current.ensures ∙ then_is _ _) _ _)
