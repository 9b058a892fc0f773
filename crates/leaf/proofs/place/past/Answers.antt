-- `leaf::place::past` meets its contract. Assumes nothing.
use Rattle.std.proofs.Common.{rules}
use Rattle.leaf.proofs.Placing.{past_on, past_not}
use Rattle.leaf.proofs.place.past.Goals as goal

pub returns-then-in_order : goal.returns-then-in_order
returns-then-in_order c = past_on _ _ c.in_order.ensures (search rules)

pub returns : goal.returns
returns c = past_not _ _ c.in_order.ensures (search rules)
