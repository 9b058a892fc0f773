-- `port::put_pointer` meets its contract. Assumes nothing.
use Rattle.port.proofs.Giving.{pointer-absent, pointer_at}
use Rattle.port.proofs.put_pointer.Goals as goal

pub returns-in-None : goal.returns-in-None
returns-in-None c = pointer-absent _ c.requires c.in-None.is

pub returns-in-Some : goal.returns-in-Some
returns-in-Some c = rw (c.from.ensures, c.from-in-Some.ensures) (pointer_at _ c.requires c.in-Some.is)
