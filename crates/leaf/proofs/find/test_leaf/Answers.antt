-- `leaf::find::test_leaf` meets its contract: the walk that is left gives what the whole walk gives. Assumes nothing.
use Rattle.std.proofs.lemmas.Result.{err_from_is_err_and}
use Rattle.std.proofs.Common.{Ok, Err, rules}
use Rattle.leaf.proofs.Finding.{joined_skip, read_is, loop_type, loop_bad, loop_done}
use Rattle.leaf.proofs.Walking.{walk_stuck, walk_on, walk-done, stepped}
use Rattle.leaf.specs.Find.{test_leaf}
use native.Mathlib.Omega.{arith}
use mathlib.Core.Path.{sym, ◌∙◌}
use Rattle.leaf.proofs.find.test_leaf.Goals as goal
use Rattle.leaf.proofs.find.test_leaf.Goals.{then-k-key, else-k-key}

pub returns-then-get_node_type-ne-NODE_LEAF : goal.returns-then-get_node_type-ne-NODE_LEAF
unfolding test_leaf
returns-then-get_node_type-ne-NODE_LEAF c = loop_type (λ e b l. Ok (b, l)) (λ f. Err f) _ _ _ _ _ (λ e. omega arith) c.structural_fault.ensures

pub returns-in_err-end : goal.returns-in_err-end
unfolding test_leaf
returns-in_err-end c =
    let p = err_from_is_err_and c.from_residual.result c.from_residual.ensures.1 in
    rw (p.1, p.2) (loop_bad (λ e b l. Ok (b, l)) (λ f. Err f) _ _ _ _ _ (omega arith) c.get_cell_count-count.ensures (sym (walk_stuck _ _ _ _ _ _ _ c.next_cell.ensures _ _ (search rules) c.in_err-end.was) ∙ c.loop.invariant.1))

pub get_rank-k-requires : goal.get_rank-k-requires
get_rank-k-requires c = let h = stepped _ _ _ _ _ c.next_cell.ensures c.in_ok-end.was in omega (arith, h.low, h.inside)

pub creator_at-c-requires : goal.creator_at-c-requires
creator_at-c-requires c = let h = stepped _ _ _ _ _ c.next_cell.ensures c.in_ok-end.was in omega (arith, h.low, h.inside)

pub loop-preserved : goal.loop-preserved
loop-preserved c =
    (omega (arith, (stepped _ _ _ _ _ c.next_cell.ensures c.in_ok-end.was).inside), walk_on _ _ _ _ _ _ _ c.next_cell.ensures _ _ (search rules) c.in_ok-end.was c.get_rank-k.ensures c.creator_at-c.ensures (λ x r u v _. elim c.if-k-key.branch [ then-k-key w ↦ w.found-is ∙ read_is _ _ r w.joined_at-found.ensures | else-k-key w ↦ w.found-is ∙ joined_skip _ _ _ _ _ _ _ (λ q. w.if-k-key.false (c.get_rank-k.ensures ∙ (u ∙ q))) ]) ∙ c.loop.invariant.1)

pub returns : goal.returns
unfolding test_leaf
returns c =
    loop_done (λ e b l. Ok (b, l)) (λ f. Err f) _ _ _ _ _ (omega arith) c.get_cell_count-count.ensures (sym (walk-done _ _ _ _ _ _ _ _ (search rules)) ∙ c.loop.invariant.1)
