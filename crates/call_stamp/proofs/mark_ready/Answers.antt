-- `call_stamp::mark_ready` meets its contract: the version that is to be stamped was met in its leaf. Assumes nothing.
use mathlib.Core.Path.{refl, sym, ap, ◌∙◌}
use native.Mathlib.Omega.{arith}
use Rattle.std.proofs.Common.{Ok}
use Rattle.leaf.specs.Find.{Best}
use Rattle.page.proofs.PoolLaws.{pool_room}
use Rattle.tree_stamp.proofs.Meeting.{best-met}
use Rattle.call_stamp.proofs.mark_ready.Goals as goal

pub target_at-target-requires : goal.target_at-target-requires
target_at-target-requires c =
    let met = best-met _ _ _ _ _ _ (sym c.best_in_tree.ensures ∙ c.in_ok-best.was ∙ ap (λ (x : Best). Ok x) c.in-Some.is) in
    omega (arith, met.in_use, pool_room _ _ (sym c.pool_is_good.ensures ∙ c.if-not-pool_is_good.false))

pub marking_at-requires : goal.marking_at-requires
marking_at-requires c =
    let met = best-met _ _ _ _ _ _ (sym c.best_in_tree.ensures ∙ c.in_ok-best.was ∙ ap (λ (x : Best). Ok x) c.in-Some.is) in
    rw c.target_at-target.ensures (sym c.pool_is_good.ensures ∙ c.if-not-pool_is_good.false, met, refl)
