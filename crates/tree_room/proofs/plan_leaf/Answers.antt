-- `tree_room::plan_leaf` meets its contract: the climb's pages stand as the plan above asks. Assumes nothing.
use Rattle.tree_room.proofs.Rooming.{climb_asks}
use Rattle.tree_room.proofs.plan_leaf.Goals as goal

pub plan_above-requires : goal.plan_above-requires
plan_above-requires c =
    let h = climb_asks _ _ _ c.climb.ensures c.requires.1 c.in_ok-path.was in
    (h.0, h.1, c.requires.0, h.2)
