-- `list_pages::longer` meets its contract. Assumes nothing.
use Rattle.list_pages.proofs.Lines.{longer-done}
use native.Mathlib.Omega.{arith}
use Rattle.list_pages.proofs.longer.Goals as goal

pub returns : goal.returns
returns c = longer-done c.args.above c.args.p (omega arith)
