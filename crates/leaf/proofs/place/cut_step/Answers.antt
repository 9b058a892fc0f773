-- `leaf::place::cut_step` meets its contract. Assumes nothing.
use Rattle.leaf.specs.Place.{cut_step}
use Rattle.leaf.proofs.place.cut_step.Goals as goal

pub returns : goal.returns
unfolding cut_step
returns c = rw c.better_cut.ensures
