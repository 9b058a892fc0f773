-- A state's words are put. Assumes nothing.
use Rattle.port.proofs.Giving.{state_put}
use Rattle.port.proofs.StateWords.put.Goals as goal

pub returns : goal.returns
returns c = rw (c.from.ensures, c.from-2.ensures) (state_put _ _ c.requires)
