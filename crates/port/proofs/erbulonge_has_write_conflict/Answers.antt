-- `port::erbulonge_has_write_conflict` meets its contract. Assumes nothing.
use mathlib.Core.Path.{ap, ◌∙◌}
use mir.Facts.{to_z-of_z}
use Rattle.page.specs.Key.{rank_of}
use Rattle.port.specs.Words.{flag_words}
use Rattle.port.proofs.Giving.{then_is, passed, conflict_asked}
use Rattle.port.proofs.erbulonge_has_write_conflict.Goals as goal

pub returns : goal.returns
returns c = passed flag_words _ c.give.ensures (c.has_write_conflict.ensures ∙ conflict_asked _ _ (ap rank_of (to_z-of_z c.ranges.key)) (c.then_some.ensures ∙ then_is _ _) _ _ _)
