-- `tree_insert::find_spot` meets its contract: the leaf that the descent comes to is in use. Assumes nothing.
use mathlib.Core.Path.{sym, ◌∙◌}
use native.Mathlib.Omega.{arith}
use Rattle.tree_insert.proofs.Spotting.{leaf_in}
use Rattle.tree_insert.proofs.find_spot.Goals as goal

pub page_of-requires : goal.page_of-requires
page_of-requires c =
    let l = leaf_in _ _ _ 3 _ (sym c.descend.ensures ∙ c.in_ok-leaf.was) in
    omega (arith, l.in_use)
