-- `port::change::erbulonge_mark_deleted` meets its contract. Assumes nothing.
use mathlib.Core.Path.{ap, ◌∙◌}
use mir.Facts.{to_z-of_z}
use Rattle.page.specs.Key.{rank_of}
use Rattle.port.specs.Words.{state_words}
use Rattle.port.proofs.Giving.{then_is}
use Rattle.port.proofs.Changing.{passed-pool, plain_asked}
use Rattle.port.proofs.change.erbulonge_mark_deleted.Goals as goal

pub returns : goal.returns
returns c =
    passed-pool state_words _ c.give.ensures
    (c.mark_deleted.ensures ∙ plain_asked _ _ (ap rank_of (to_z-of_z c.ranges.key)) (c.then_some-current.ensures ∙ then_is _ _) _ _)
