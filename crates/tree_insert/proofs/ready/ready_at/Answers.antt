-- `tree_insert::ready::ready_at` meets its contract: the spot is in a page, and its plan is of a climb. Assumes nothing.
use mathlib.Core.Path.{sym, ◌∙◌}
use native.Mathlib.Omega.{arith}
use Rattle.std.proofs.Common.{rules}
use Rattle.page.proofs.PoolLaws.{pool-is, pool_room}
use Rattle.tree_insert.proofs.Spotting.{spot_is}
use Rattle.tree_insert.proofs.Planning.{insert-few}
use Rattle.tree_insert.proofs.ready.ready_at.Goals as goal

pub overflow_sub-spot : goal.overflow_sub-spot
overflow_sub-spot c = let is = spot_is _ _ _ _ _ _ (λ i. search rules) (pool_room _ _ c.requires.0) c.requires.2 in omega (arith, is.low, is.inside)

pub overflow_add-spot : goal.overflow_add-spot
overflow_add-spot c = let is = spot_is _ _ _ _ _ _ (λ i. search rules) (pool_room _ _ c.requires.0) c.requires.2 in omega (arith, is.within, c.requires.1)

pub judge_room-requires : goal.judge_room-requires
judge_room-requires c = let p = pool-is _ _ c.requires.0 in (insert-few _ _ _ _ (sym c.plan_insert.ensures ∙ c.in_ok-plan.was), p.in_use, p.few)
