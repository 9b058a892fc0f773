-- `list_visible::bound_in_leaf` meets its contract: the walk that is left gives what the whole walk gives. Assumes nothing.
use Rattle.std.proofs.lemmas.Result.{err_from_is_err_and}
use Rattle.std.proofs.Common.{Ok, Err, rules}
use Rattle.list_visible.proofs.Bounding.{bound-step}
use Rattle.list_visible.specs.Steps.Fast.{bound_cell, bound_leaf}
use Rattle.leaf.proofs.Finding.{loop_type, loop_bad, loop_done}
use Rattle.leaf.proofs.Walking.{walk_stuck, walk_on, walk-done, stepped}
use native.Mathlib.Omega.{arith}
use mathlib.Core.Path.{sym, ◌∙◌}
use Rattle.list_visible.proofs.bound_in_leaf.Goals as goal
use Rattle.list_visible.proofs.bound_in_leaf.Goals.{then-here, else-here}

pub returns-then-get_node_type-ne-NODE_LEAF : goal.returns-then-get_node_type-ne-NODE_LEAF
unfolding bound_leaf
returns-then-get_node_type-ne-NODE_LEAF c = loop_type (λ e b l. Ok b) (λ f. Err f) bound_cell _ 0 _ _ (λ e. omega arith) c.structural_fault.ensures

pub returns-in_err-end : goal.returns-in_err-end
unfolding bound_leaf
returns-in_err-end c =
    let p = err_from_is_err_and c.from_residual.result c.from_residual.ensures.1 in
    rw (p.1, p.2) (loop_bad (λ e b l. Ok b) (λ f. Err f) bound_cell _ 0 _ _ (omega arith) c.get_cell_count-count.ensures (sym (walk_stuck _ _ _ _ _ _ _ c.next_cell.ensures _ _ (search rules) c.in_err-end.was) ∙ c.loop.invariant.1))

pub get_rank-k-requires : goal.get_rank-k-requires
get_rank-k-requires c = let h = stepped _ _ _ _ _ c.next_cell.ensures c.in_ok-end.was in omega (arith, h.low, h.inside)

pub creator_at-c-requires : goal.creator_at-c-requires
creator_at-c-requires c = let h = stepped _ _ _ _ _ c.next_cell.ensures c.in_ok-end.was in omega (arith, h.low, h.inside)

pub overflow_sub-here : goal.overflow_sub-here
overflow_sub-here c = let h = stepped _ _ _ _ _ c.next_cell.ensures c.in_ok-end.was in omega (arith, h.low)

pub overflow_add-here : goal.overflow_add-here
overflow_add-here c = let h = stepped _ _ _ _ _ c.next_cell.ensures c.in_ok-end.was in omega (arith, h.inside)

pub overflow_add-here-in-loop : goal.overflow_add-here-in-loop
overflow_add-here-in-loop c =
    let h = stepped _ _ _ _ _ c.next_cell.ensures c.in_ok-end.was in omega (arith, h.inside, c.requires.1, c.loop.invariant.2)

pub loop-preserved : goal.loop-preserved
loop-preserved c =
    let h = stepped _ _ _ _ _ c.next_cell.ensures c.in_ok-end.was in
    (omega (arith, h.inside), walk_on _ _ _ _ _ _ _ c.next_cell.ensures _ _ (search rules) c.in_ok-end.was c.get_rank-k.ensures c.creator_at-c.ensures (λ x r u v w. bound-step _ c.loop.here x _ r (c.get_rank-k.ensures ∙ u) w (elim c.if-here.branch [ then-here w ↦ w.here-is ∙ rw w.if-here.true | else-here w ↦ w.here-is ∙ rw w.if-here.false ])) ∙ c.loop.invariant.1, omega (arith, h.low, c.loop.invariant.2))

pub returns : goal.returns
unfolding bound_leaf
returns c =
    loop_done (λ e b l. Ok b) (λ f. Err f) bound_cell _ 0 _ _ (omega arith) c.get_cell_count-count.ensures (sym (walk-done _ _ _ _ _ _ _ _ (search rules)) ∙ c.loop.invariant.1)
