-- `list_pages::mark` meets its contract. Assumes nothing.
use Rattle.list_pages.proofs.Bits.{marked}
use native.Mathlib.Omega.{arith}
use Rattle.list_pages.proofs.mark.Goals as goal

pub returns : goal.returns
returns c = marked c.args.seen.now c.args.p (omega arith)
