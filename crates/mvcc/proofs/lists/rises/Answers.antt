-- `mvcc::lists::rises` meets its contract: std's answer on each element and the next is that the list rises.
-- Assumes nothing.
use Rattle.std.proofs.Common.{rules, ltb}
use Rattle.std.proofs.lemmas.List.Sorted.{answers_always}
use Rattle.mvcc.proofs.Laws.{rises-adjacent}
use Rattle.mvcc.proofs.lists.rises.Goals as goal

pub returns : goal.returns
returns c = rises-adjacent _ _ (c.is_sorted_by.ensures.cases ltb (answers_always _ _ _ (λ f a r g k. search rules)))
