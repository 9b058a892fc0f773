-- `port::erbulonge_create` meets its contract. Assumes nothing.
use Rattle.port.proofs.Changing.{passed-pool}
use Rattle.port.specs.Words.{state_words}
use Rattle.port.proofs.erbulonge_create.Goals as goal

pub returns : goal.returns
returns c = passed-pool state_words _ c.give.ensures c.create.ensures
