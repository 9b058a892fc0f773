-- `tree::climb::climb` meets its contract: what is left of the climb, from the path so far, gives what the whole climb
-- gives, and that is the climb of the definition. Assumes nothing.
use Rattle.std.proofs.lemmas.Result.{err_from_is_err_and}
use Rattle.tree.proofs.Climbing.{climb_top, climb_lost, climb_high, climb_bad, climb_on, climb-is, held}
use native.Mathlib.Omega.{arith}
use mathlib.Core.Path.{sym, ◌∙◌}
use Rattle.std.proofs.Common.{rules}
use Rattle.tree.proofs.climb.climb.Goals as goal

pub returns-then-path-eq4 : goal.returns-then-path-eq4
returns-then-path-eq4 c = climb_high _ _ _ _ _ (search rules) _ (omega arith) c.structural_fault.ensures ∙ c.loop-p.invariant.2 ∙ climb-is _ _ _ _

pub returns-in_err-p : goal.returns-in_err-p
returns-in_err-p c =
    let p = err_from_is_err_and c.from_residual.result c.from_residual.ensures.1 in
    let i = c.loop-p.invariant.0 in
    rw (p.1, p.2) (climb_bad _ _ _ _ _ (search rules) c.page_above.ensures _ (omega arith) c.in_err-p.was ∙ c.loop-p.invariant.2 ∙ climb-is _ _ _ _)

pub loop-p-preserved : goal.loop-p-preserved
loop-p-preserved c =
    (omega arith, (held _ _ _ (sym c.page_above.ensures ∙ c.in_ok-p.was)).in_use, climb_on _ _ _ _ _ (search rules) c.page_above.ensures _ (omega arith) c.in_ok-p.was ∙ c.loop-p.invariant.2)

pub returns-then-get_parent-ne0 : goal.returns-then-get_parent-ne0
returns-then-get_parent-ne0 c =
    climb_lost _ _ _ _ _ (search rules) c.page_of.ensures.0 c.get_parent.ensures _ (search rules) c.structural_fault-then-get_parent-ne0.ensures ∙ c.loop-p.invariant.2 ∙ climb-is _ _ _ _

pub returns : goal.returns
returns c = climb_top _ _ _ _ _ (search rules) c.page_of.ensures.0 c.get_parent.ensures _ (search rules) ∙ c.loop-p.invariant.2 ∙ climb-is _ _ _ _
