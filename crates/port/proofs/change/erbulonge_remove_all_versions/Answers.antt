-- `port::change::erbulonge_remove_all_versions` meets its contract. Assumes nothing.
use mathlib.Core.Path.{ap, ◌∙◌}
use mir.Facts.{to_z-of_z}
use Rattle.page.specs.Key.{rank_of}
use Rattle.port.specs.Words.{count_words}
use Rattle.port.proofs.Changing.{passed-pool, remove_asked}
use Rattle.port.proofs.change.erbulonge_remove_all_versions.Goals as goal

pub returns : goal.returns
returns c =
    passed-pool count_words _ c.give.ensures
    (c.remove_all_versions.ensures ∙ remove_asked _ _ (ap rank_of (to_z-of_z c.ranges.key)))
