-- `tree_check::cells_within` meets its contract: the walk that is left gives what the whole walk gives. Assumes nothing.
use mathlib.Core.Path.{◌≡◌, sym, ap, ◌∙◌}
use mathlib.Core.Bool.{false}
use native.Mathlib.Omega.{arith}
use Rattle.leaf.proofs.Walking.{walk_stuck, walk_on, walk-done, stepped}
use Rattle.std.proofs.Common.{rules}
use Rattle.tree_check.specs.Check.{within}
use Rattle.tree_check.proofs.Checking.{within_in, within_low, within_high, cells_other, cells_bad, cells_done, cells_out}
use Rattle.tree_check.proofs.cells_within.Goals as goal
use Rattle.tree_check.proofs.cells_within.Goals.{then-k-lo-via-then-k-lo, then-k-lo-via-else-k-lo+then-hi-k}

pub returns-then-get_node_type-ne-NODE_LEAF : goal.returns-then-get_node_type-ne-NODE_LEAF
returns-then-get_node_type-ne-NODE_LEAF c = cells_other _ _ _ _ (λ e. omega arith)

pub returns-in_default : goal.returns-in_default
returns-in_default c =
    cells_bad _ _ _ _ (omega arith) c.get_cell_count-count.ensures (sym (walk_stuck _ _ _ _ _ _ _ c.next_cell.ensures _ _ (search rules) c.in_default.is) ∙ c.loop.invariant.1)

pub get_rank-k-requires : goal.get_rank-k-requires
get_rank-k-requires c = let h = stepped _ _ _ _ _ c.next_cell.ensures c.in-Ok.is in omega (arith, h.low, h.inside)

pub creator_at-c-requires : goal.creator_at-c-requires
creator_at-c-requires c = let h = stepped _ _ _ _ _ c.next_cell.ensures c.in-Ok.is in omega (arith, h.low, h.inside)

pub returns-then-k-lo : goal.returns-then-k-lo
returns-then-k-lo c =
    let out : within c.args.lo c.args.hi c.get_rank-k.result ≡ false
    = elim c.then-k-lo.branch [ then-k-lo-via-then-k-lo w ↦ within_low _ _ _ w.if-k-lo.true | then-k-lo-via-else-k-lo+then-hi-k w ↦ within_high _ _ _ w.if-hi-k.true ] in
    cells_out _ _ _ _ (omega arith) c.get_cell_count-count.ensures _ _ _ _
    (walk_on _ _ _ _ _ _ _ c.next_cell.ensures _ _ (search rules) c.in-Ok.is c.get_rank-k.ensures c.creator_at-c.ensures
    (λ x r u v w. sym out ∙ ap (within _ _) (c.get_rank-k.ensures ∙ u))
    ∙ c.loop.invariant.1)

pub loop-preserved : goal.loop-preserved
loop-preserved c = (
  omega (arith, (stepped _ _ _ _ _ c.next_cell.ensures c.in-Ok.is).inside),
  walk_on _ _ _ _ _ _ _ c.next_cell.ensures _ _ (search rules) c.in-Ok.is c.get_rank-k.ensures c.creator_at-c.ensures
      (λ x r u v w. sym (within_in _ _ _ (search rules) (search rules)) ∙ ap (within _ _) (c.get_rank-k.ensures ∙ u))
      ∙ c.loop.invariant.1,
)

pub returns : goal.returns
returns c = cells_done _ _ _ _ (omega arith) c.get_cell_count-count.ensures (sym (walk-done _ _ _ _ _ _ _ _ (omega arith)) ∙ c.loop.invariant.1)
