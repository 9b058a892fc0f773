-- `tree_room::judge_room` meets its contract: the pages that it adds up are few. Assumes nothing.
use Rattle.std.proofs.Common.{rules}
use Rattle.tree_room.proofs.Rooming.{asked_few}
use Rattle.tree_room.proofs.judge_room.Goals as goal

pub overflow_add-st-2 : goal.overflow_add-st-2
overflow_add-st-2 c = let h = asked_few _ _ c.requires.0 c.pages_asked.ensures in search rules
