-- A count's word is put. Assumes nothing.
use Rattle.port.proofs.Giving.{count_put}
use Rattle.port.proofs.UsizeWords.put.Goals as goal

pub returns : goal.returns
returns c = count_put _ _ c.requires
