-- `tree_stamp::plan_stamp` meets its contract: the leaf is in use and cut within a page. Assumes nothing.
use native.Mathlib.Omega.{arith}
use Rattle.tree_stamp.proofs.Meeting.{target_stands}
use Rattle.tree_stamp.proofs.plan_stamp.Goals as goal

pub bytes_stamped-requires : goal.bytes_stamped-requires
bytes_stamped-requires c =
    let k = c.requires in
    let is = target_stands _ _ _ k.1 k.2 in
    (omega (arith, is.low, is.size, is.inside), is.within)

pub cut_at-cut-requires : goal.cut_at-cut-requires
cut_at-cut-requires c =
    let k = c.requires in
    let is = target_stands _ _ _ k.1 k.2 in (
      omega (arith, k.0, k.1.in_use),
      omega (arith, is.low, is.size, is.inside),
      is.within,
      is.low,
      omega (arith, is.size),
      omega (arith, is.inside, is.within),
      omega (arith, is.count),
      is.few,
    )
