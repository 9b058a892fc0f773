-- `port::erbulonge_check` meets its contract. Assumes nothing.
use Rattle.port.proofs.Giving.{passed}
use Rattle.port.specs.Words.{flag_words}
use Rattle.port.proofs.erbulonge_check.Goals as goal

pub returns : goal.returns
returns c = passed flag_words _ c.give.ensures c.check.ensures
