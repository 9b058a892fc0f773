-- `port::change::erbulonge_vacuum_deleted_versions` meets its contract. Assumes nothing.
use Rattle.port.proofs.Changing.{passed-pool}
use Rattle.port.specs.Words.{count_words}
use Rattle.port.proofs.change.erbulonge_vacuum_deleted_versions.Goals as goal

pub returns : goal.returns
returns c = passed-pool count_words _ c.give.ensures c.vacuum_deleted_versions.ensures
