-- `list_pages::is_listed` meets its contract. Assumes nothing.
use Rattle.list_pages.proofs.Bits.{listed_read}
use Rattle.list_pages.proofs.is_listed.Goals as goal

pub returns : goal.returns
returns c = listed_read c.args.seen.now c.args.p
