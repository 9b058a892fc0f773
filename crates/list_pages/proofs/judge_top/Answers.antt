-- `list_pages::judge_top` meets its contract: each way out is one law of Tops. Assumes nothing.
use Rattle.std.proofs.lemmas.Result.{err_from_is_err_and}
use native.Mathlib.Omega.{arith}
use Rattle.tree.proofs.Ways.{inner_is}
use Rattle.list_pages.proofs.Lines.{above-is}
use Rattle.list_pages.proofs.Tops.{top_unused, top_above, top_skip, top_leaf, top_deep, top_bad, top_inner}
use Rattle.std.proofs.Common.{rules}
use Rattle.list_pages.proofs.judge_top.Goals as goal
use Rattle.list_pages.proofs.judge_top.Goals.{then-used-p-via-then-used-p, then-used-p-via-else-used-p+then-contains}

pub returns-then-used-p : goal.returns-then-used-p
returns-then-used-p c =
    elim c.then-used-p.branch [
      | then-used-p-via-then-used-p w ↦ top_unused _ _ _ _ _ _ w.if-used-p.true c.structural_fault.ensures
      | then-used-p-via-else-used-p+then-contains w ↦ top_above _ _ _ _ _ _ w.if-used-p.false (above-is c.args.above c.args.p w.contains.ensures.value) w.if-contains.true c.structural_fault.ensures
    ]

pub returns-then-is_listed : goal.returns-then-is_listed
returns-then-is_listed c = top_skip _ _ _ _ _ _ (search rules) (above-is c.args.above c.args.p c.contains.ensures.value) c.if-contains.false c.is_listed.ensures c.if-is_listed.true

pub returns-then-get_node_type-eq-NODE_LEAF : goal.returns-then-get_node_type-eq-NODE_LEAF
returns-then-get_node_type-eq-NODE_LEAF c =
    top_leaf _ _ _ _ _ _ (search rules) (above-is c.args.above c.args.p c.contains.ensures.value) c.if-contains.false c.is_listed.ensures c.if-is_listed.false c.page_of-pg.ensures.0 c.get_node_type.ensures c.if-get_node_type-eq-NODE_LEAF.true

pub returns-then-above-eq-DEEPEST : goal.returns-then-above-eq-DEEPEST
returns-then-above-eq-DEEPEST c =
    top_deep _ _ _ _ _ _ (search rules) (above-is c.args.above c.args.p c.contains.ensures.value) c.if-contains.false c.is_listed.ensures c.if-is_listed.false c.page_of-pg.ensures.0 c.get_node_type.ensures c.if-get_node_type-eq-NODE_LEAF.false (omega arith) c.structural_fault-then-above-eq-DEEPEST.ensures

pub returns-in_err-keys : goal.returns-in_err-keys
returns-in_err-keys c =
    let r = err_from_is_err_and c.from_residual.result c.from_residual.ensures.1 in
    rw (r.1, r.2) (top_bad _ _ _ _ _ _ (search rules) (above-is c.args.above c.args.p c.contains.ensures.value) c.if-contains.false c.is_listed.ensures c.if-is_listed.false c.page_of-pg.ensures.0 c.get_node_type.ensures c.if-get_node_type-eq-NODE_LEAF.false (λ z. c.if-above-eq-DEEPEST.false (omega arith)) c.judge_inner.ensures c.in_err-keys.was)

pub overflow_add-result : goal.overflow_add-result
overflow_add-result c = let i = inner_is _ _ c.judge_inner.ensures c.in_ok-keys.was in omega (arith, i.few)

pub returns : goal.returns
returns c =
    top_inner _ _ _ _ _ _ (search rules) (above-is c.args.above c.args.p c.contains.ensures.value) c.if-contains.false c.is_listed.ensures c.if-is_listed.false c.page_of-pg.ensures.0 c.get_node_type.ensures c.if-get_node_type-eq-NODE_LEAF.false (λ z. c.if-above-eq-DEEPEST.false (omega arith)) c.judge_inner.ensures c.in_ok-keys.was
