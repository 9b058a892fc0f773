-- `port::erbulonge_find_visible` meets its contract. Assumes nothing.
use mathlib.Core.Path.{ap, ◌∙◌}
use mir.Facts.{to_z-of_z}
use Rattle.page.specs.Key.{rank_of}
use Rattle.port.specs.Words.{version_words}
use Rattle.port.proofs.Giving.{then_is, passed, visible_asked}
use Rattle.port.proofs.erbulonge_find_visible.Goals as goal

pub returns : goal.returns
returns c = passed version_words _ c.give.ensures (c.find_visible.ensures ∙ visible_asked _ _ (ap rank_of (to_z-of_z c.ranges.key)) (c.then_some.ensures ∙ then_is _ _) _ _ _)
