-- `list_visible::pass::write_wait` meets its contract. Assumes nothing.
use Rattle.list_visible.proofs.Stepping.{wait_none, wait_written, wait_fits}
use Rattle.list_visible.proofs.pass.write_wait.Goals as goal

pub write_record-requires : goal.write_record-requires
write_record-requires c = wait_fits _ _ _ c.in-Some.is c.requires.0 c.requires.1

pub returns-in_default : goal.returns-in_default
returns-in_default c = wait_none _ _ _ _ c.in_default.is

pub returns-in-Some : goal.returns-in-Some
returns-in-Some c = wait_written _ _ _ c.in-Some.is c.requires.0 _ c.write_record.ensures
