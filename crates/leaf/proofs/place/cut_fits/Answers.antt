-- `leaf::place::cut_fits` meets its contract. Assumes nothing.
use Rattle.std.proofs.Common.{rules}
use Rattle.leaf.proofs.Placing.{fits-none, fits_some}
use Rattle.leaf.proofs.place.cut_fits.Goals as goal

pub returns-then-cut-lt1 : goal.returns-then-cut-lt1
returns-then-cut-lt1 c = fits-none _ _ (search rules)

pub returns : goal.returns
returns c = rw c.larger_side.ensures (fits_some _ _ (search rules))
