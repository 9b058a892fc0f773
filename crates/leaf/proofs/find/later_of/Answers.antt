-- `leaf::find::later_of` meets its contract: each way out is one law of Finding. Assumes nothing.
use Rattle.leaf.proofs.Finding.{later_first, later_old, later-new}
use Rattle.std.proofs.Common.{rules}
use Rattle.leaf.proofs.find.later_of.Goals as goal

pub returns-then-b-a : goal.returns-then-b-a
returns-then-b-a c = later_old _ _ _ c.in-Some.is (search rules)

pub returns-in-None : goal.returns-in-None
returns-in-None c = later_first _ _ _ c.in-None.is

pub returns-else-b-a : goal.returns-else-b-a
returns-else-b-a c = later-new _ _ _ c.in-Some.is (search rules)
