-- `tree_grow::plan::plan_above` meets its contract: what is left of the plan, from the pages so far, gives what the whole plan
-- gives. Assumes nothing.
use Rattle.std.proofs.Common.{◌≡◌}
use Rattle.tree_grow.specs.Path.{page_at, pages_above}
use Rattle.tree_grow.specs.Steps.Safe.{Stands}
use Rattle.tree_grow.proofs.Planning.{plan_from}
use Rattle.tree_grow.proofs.plan.plan_above.Given as goal

abbrev pub invariant-loop-full : goal.invariant-loop-full
invariant-loop-full l =
    Stands l.used (page_at l.path l.full) (pages_above l.path l.full) l.pool
    × (plan_from l.full l.used (page_at l.path l.full) (pages_above l.path l.full) l.pool ≡ plan_from 0 l.used (page_at l.path 0) (pages_above l.path 0) l.pool)
