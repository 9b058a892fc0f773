-- `port::change::erbulonge_insert_version` meets its contract. Assumes nothing.
use mathlib.Core.Path.{ap, ◌∙◌}
use mir.Facts.{to_z-of_z}
use Rattle.page.specs.Key.{rank_of}
use Rattle.port.specs.Words.{state_words}
use Rattle.port.proofs.Giving.{then_is}
use Rattle.port.proofs.Changing.{passed-pool, insert_version_asked}
use Rattle.port.proofs.change.erbulonge_insert_version.Goals as goal

pub returns : goal.returns
returns c =
    passed-pool state_words _ c.give.ensures
    (c.insert_version.ensures ∙ insert_version_asked _ _ (ap rank_of (to_z-of_z c.ranges.key)) _ _ (c.then_some-stamp.ensures ∙ then_is _ _) (c.then_some-pointer.ensures ∙ then_is _ _))
