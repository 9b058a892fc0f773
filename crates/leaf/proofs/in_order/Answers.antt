-- `leaf::in_order` meets its contract. Assumes nothing.
use Rattle.leaf.proofs.Walking.{order_less, order_more, order_same}
use Rattle.std.proofs.Common.{rules}
use Rattle.leaf.proofs.in_order.Goals as goal

pub returns-then-k0-k : goal.returns-then-k0-k
returns-then-k0-k c = order_less _ _ _ _ (search rules)

pub returns-then-k0-k-2 : goal.returns-then-k0-k-2
returns-then-k0-k-2 c = order_more _ _ _ _ (search rules) (search rules)

pub returns : goal.returns
returns c = order_same _ _ _ _ (search rules)
