-- `port::put_stamp` meets its contract. Assumes nothing.
use Rattle.port.proofs.Giving.{stamp-absent, stamp_by}
use Rattle.port.proofs.put_stamp.Goals as goal

pub returns-in-None : goal.returns-in-None
returns-in-None c = stamp-absent _ c.requires c.in-None.is

pub returns-in-Some : goal.returns-in-Some
returns-in-Some c = stamp_by _ c.requires c.in-Some.is
