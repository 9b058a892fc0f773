-- `tree_grow::plan::plan_above` meets its contract: what is left of the plan, from the pages so far, gives what the whole plan
-- gives. Assumes nothing.
use Rattle.std.proofs.Common.{◌≡◌, ◌-◌, ◌∙◌, arith, rules}
use Rattle.std.proofs.lemmas.Result.{err_from_is_err_and}
use Rattle.tree_grow.proofs.Planning.{above_none, next-is, kept_top, kept_below, plan_room, plan_bad, plan_on, plan_end, plan_is}
use Rattle.tree_grow.proofs.plan.plan_above.Goals as goal
use Rattle.tree_grow.proofs.plan.plan_above.Goals.{then-top, else-top}

pub page_of-pg-requires : goal.page_of-pg-requires
page_of-pg-requires c =
    let l = c.loop-full in
    let u = next-is _ c.args.path l.full _ (search rules) (omega arith) (omega arith) l.invariant.0 in
    omega (arith, u.in_use)

pub returns-then-get_cell_count-lt-FULL : goal.returns-then-get_cell_count-lt-FULL
returns-then-get_cell_count-lt-FULL c =
    let l = c.loop-full in
    let u = next-is _ c.args.path l.full _ (search rules) (omega arith) (omega arith) l.invariant.0 in
    plan_room _ _ _ _ u.is c.page_of-pg.ensures.0 c.get_cell_count.ensures c.if-get_cell_count-lt-FULL.true ∙ l.invariant.1 ∙ plan_is _ _ _ _

pub returns-in_err-links_in : goal.returns-in_err-links_in
returns-in_err-links_in c =
    let l = c.loop-full in
    let u = next-is _ c.args.path l.full _ (search rules) (omega arith) (omega arith) l.invariant.0 in
    let keeps = (elim c.if-top.branch [ then-top w ↦ kept_top l.full c.args.path _ w.if-top.true w.links_in-is | else-top w ↦ kept_below l.full c.args.path _ w.if-top.false w.links_in-is ]) ∙ u.keeps in
    let p = err_from_is_err_and c.from_residual.result c.from_residual.ensures.1 in
    rw (p.1, p.2) (plan_bad _ _ _ _ u.is c.page_of-pg.ensures.0 c.get_cell_count.ensures u.few c.if-get_cell_count-lt-FULL.false c.child_place-i.ensures.0 keeps c.links_in.ensures c.in_err-links_in.was ∙ l.invariant.1 ∙ plan_is _ _ _ _)

pub loop-full-preserved : goal.loop-full-preserved
loop-full-preserved c =
    let l = c.loop-full in
    let u = next-is _ c.args.path l.full _ (search rules) (omega arith) (omega arith) l.invariant.0 in
    let keeps = (elim c.if-top.branch [ then-top w ↦ kept_top l.full c.args.path _ w.if-top.true w.links_in-is | else-top w ↦ kept_below l.full c.args.path _ w.if-top.false w.links_in-is ]) ∙ u.keeps in
    (u.stands, plan_on _ _ _ _ u.is c.page_of-pg.ensures.0 c.get_cell_count.ensures u.few c.if-get_cell_count-lt-FULL.false c.child_place-i.ensures.0 keeps c.links_in.ensures c.in_ok-links_in.was ∙ l.invariant.1)

pub returns : goal.returns
returns c =
    let path = c.args.path in
    let l = c.loop-full in
    let last : l.full ≡ path.len - 1 = omega arith in
    rw (← last) (plan_end l.full _ _ _ _ (above_none path l.full (omega arith)) ∙ l.invariant.1 ∙ plan_is _ _ _ _)
