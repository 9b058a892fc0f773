-- `mvcc::JudgedSnapshot::is_current` meets its contract, variant by variant.
-- Assumes nothing.
use Rattle.mvcc.specs.Rules.{is_current}
use Rattle.mvcc.proofs.JudgedSnapshot.is_current.Goals as goal

pub returns-in-Some : goal.returns-in-Some
unfolding is_current
returns-in-Some c = rw (← c.self.view_is, c.in-Some.is)

pub returns-in-None : goal.returns-in-None
unfolding is_current
returns-in-None c = rw (← c.self.view_is, c.in-None.is)
