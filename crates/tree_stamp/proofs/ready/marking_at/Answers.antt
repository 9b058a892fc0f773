-- `tree_stamp::ready::marking_at` meets its contract: what the plan and its room are judged by. Assumes nothing.
use native.Mathlib.Omega.{arith}
use Rattle.page.proofs.PoolLaws.{pool-is}
use Rattle.tree_stamp.proofs.Meeting.{target_stands}
use Rattle.tree_stamp.proofs.Planning.{stamp-few}
use Rattle.tree_stamp.proofs.ready.marking_at.Goals as goal

pub bytes_stamped-requires : goal.bytes_stamped-requires
bytes_stamped-requires c =
    let k = c.requires in
    let is = target_stands _ _ _ k.1 k.2 in
    (omega (arith, is.low, is.size, is.inside), is.within)

pub judge_room-requires : goal.judge_room-requires
judge_room-requires c =
    let p = pool-is _ _ c.requires.0 in
    (stamp-few _ _ _ c.plan_stamp.ensures c.in_ok-plan.was, p.in_use, p.few)
