-- `list_visible::bound_along` meets its contract: what is left of the walk gives what the whole walk gives. Assumes nothing.
use Rattle.std.proofs.lemmas.Result.{err_from_is_err_and}
use Rattle.list_visible.proofs.Bounding.{leaf_more}
use Rattle.list_visible.specs.Steps.Fast.{goes_on, look_bound, bound_along}
use Rattle.tree.proofs.Ways.{along_again, along_unused, along_bad, along-end, along_on}
use native.Mathlib.Omega.{arith}
use mathlib.Core.Path.{sym, ap, ◌∙◌}
use Rattle.std.proofs.Common.{rules}
use Rattle.list_visible.proofs.bound_along.Goals as goal

pub returns-then-used-p : goal.returns-then-used-p
unfolding bound_along
returns-then-used-p c = along_unused look_bound _ _ _ _ _ (omega arith) c.if-used-p.true c.structural_fault.ensures ∙ c.loop.invariant.0

pub bound_in_leaf-requires : goal.bound_in_leaf-requires
bound_in_leaf-requires c = (c.page_of-pg.ensures.1, omega (arith, c.loop.invariant.1))

pub returns-in_err-here : goal.returns-in_err-here
unfolding bound_along
returns-in_err-here c =
    let p = err_from_is_err_and c.from_residual.result c.from_residual.ensures.1 in
    rw (p.1, p.2) (along_bad look_bound _ _ _ _ (search rules) c.page_of-pg.ensures.0 _ (omega arith) (ap goes_on (sym c.bound_in_leaf.ensures ∙ c.in_err-here.was)) ∙ c.loop.invariant.0)

pub returns-then-p-eq0 : goal.returns-then-p-eq0
unfolding bound_along
returns-then-p-eq0 c =
    along-end look_bound _ _ _ _ (search rules) c.page_of-pg.ensures.0 _ (omega arith) (ap goes_on (sym c.bound_in_leaf.ensures ∙ c.in_ok-here.was)) c.get_next_leaf-p.ensures c.if-p-eq0.true ∙ c.loop.invariant.0

pub loop-preserved : goal.loop-preserved
loop-preserved c =
    (along_on look_bound _ _ _ _ (search rules) c.page_of-pg.ensures.0 _ (omega arith) (ap goes_on (sym c.bound_in_leaf.ensures ∙ c.in_ok-here.was)) c.get_next_leaf-p.ensures c.if-p-eq0.false ∙ c.loop.invariant.0, omega (arith, leaf_more _ _ _ c.page_of-pg.ensures.0 c.bound_in_leaf.ensures c.in_ok-here.was, c.loop.invariant.1))

pub returns : goal.returns
unfolding bound_along
returns c = along_again look_bound _ _ _ _ _ (omega arith) c.structural_fault-2.ensures ∙ c.loop.invariant.0
