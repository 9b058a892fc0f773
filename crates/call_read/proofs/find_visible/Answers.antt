-- `call_read::find_visible` meets its contract: the version that was found starts in its page. Assumes nothing.
use Rattle.call_read.proofs.Calls.{run_small}
use Rattle.call_read.proofs.find_visible.Goals as goal

pub version_in_pool-requires : goal.version_in_pool-requires
version_in_pool-requires c = run_small _ _ _ _ _ c.find_visible_at.ensures c.in_ok-p.was
