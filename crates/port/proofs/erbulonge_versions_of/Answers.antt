-- `port::erbulonge_versions_of` meets its contract. Assumes nothing.
use mathlib.Core.Path.{ap, ◌∙◌}
use mir.Facts.{to_z-of_z}
use Rattle.page.specs.Key.{rank_of}
use Rattle.port.proofs.Giving.{passed_list, versions_asked}
use Rattle.port.proofs.erbulonge_versions_of.Goals as goal

pub returns : goal.returns
returns c = passed_list _ c.give.ensures (c.versions_of.ensures ∙ versions_asked _ _ _ (ap rank_of (to_z-of_z c.ranges.key)))
