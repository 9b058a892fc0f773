-- `tree_grow::plan::links_from` meets its contract: what is left of the children is in use where all of them are. Assumes
-- nothing.
use Rattle.std.proofs.Common.{◌+◌, ◌-◌, ◌∙◌, arith, rules}
use Rattle.tree_grow.proofs.Planning.{use_bad, use_turn, use_end}
use Rattle.tree_grow.proofs.plan.links_from.Goals as goal

pub returns-then-used-child : goal.returns-then-used-child
returns-then-used-child c =
    let l = c.loop-k in
    let end = c.args.i + c.args.n in
    use_bad _ l.k (end - l.k) (end - (l.k + 1)) _ (omega arith) c.child_at-child.ensures (search rules) c.structural_fault.ensures ∙ l.invariant

pub loop-k-preserved : goal.loop-k-preserved
loop-k-preserved c =
    let l = c.loop-k in
    let end = c.args.i + c.args.n in
    use_turn _ l.k (end - l.k) (end - (l.k + 1)) _ (omega arith) c.child_at-child.ensures (search rules) ∙ l.invariant

pub returns : goal.returns
returns c = let l = c.loop-k in use_end _ l.k (c.args.i + c.args.n - l.k) _ (omega arith) ∙ l.invariant
