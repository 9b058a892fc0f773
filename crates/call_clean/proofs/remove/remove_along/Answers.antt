-- `call_clean::remove::remove_along` meets its contract: what is left to do, from the pool as it is now, gives what all of it gives.
-- Assumes nothing.
use mathlib.Core.Path.{sym, ◌∙◌}
use native.Mathlib.Omega.{arith}
use borrow.Rule.Slice.PartMut.{put_same}
use Rattle.std.proofs.Common.{rules}
use Rattle.page.proofs.PageLaws.{lent_page}
use Rattle.leaf.proofs.Running.{run_bad}
use Rattle.call_clean.proofs.Counting.{run-there, run_fits}
use Rattle.call_clean.proofs.Storing.{run_made, remove-none, remove_unused, remove_bad, remove-last, remove-end, remove_on}
use Rattle.call_clean.proofs.remove.remove_along.Goals as goal
use Rattle.call_clean.proofs.remove.remove_along.Goals.{then-larger-via-then-larger, then-larger-via-else-larger+then-next-eq0}

pub returns-then-used-p : goal.returns-then-used-p
returns-then-used-p c = remove_unused _ _ _ _ _ (search rules) ∙ c.loop.invariant.left

pub returns-in_default : goal.returns-in_default
returns-in_default c =
    rw put_same (remove_bad _ _ _ _ (search rules) _ (run_bad _ _ _ _ (sym (rw lent_page at c.run_in_leaf.ensures) ∙ c.in_default.is)) ∙ c.loop.invariant.left)

pub take_run-requires : goal.take_run-requires
take_run-requires c =
    let run = run_fits _ _ _ c.run_in_leaf.ensures c.in-Ok.is (search rules) in
    search rules

pub returns-then-larger : goal.returns-then-larger
returns-then-larger c =
    let run = run-there _ _ _ (rw lent_page at c.run_in_leaf.ensures) c.in-Ok.is in
    let made = run_made _ _ _ c.loop.invariant.bytes (search rules) run (rw lent_page at c.take_run.ensures) in
    elim c.then-larger.branch [
      | then-larger-via-then-larger w ↦ remove-last _ _ _ _ (search rules) run.judged made run.last _ (omega arith) w.if-larger.true ∙ c.loop.invariant.left
      | then-larger-via-else-larger+then-next-eq0 w ↦ remove-end _ _ _ _ (search rules) run.judged made run.last (rw lent_page at c.get_next_leaf-next.ensures) _ (omega arith) w.if-larger.false w.if-next-eq0.true ∙ c.loop.invariant.left
    ]

pub loop-preserved : goal.loop-preserved
loop-preserved c =
    let run = run-there _ _ _ (rw lent_page at c.run_in_leaf.ensures) c.in-Ok.is in
    let made = run_made _ _ _ c.loop.invariant.bytes (search rules) run (rw lent_page at c.take_run.ensures) in
    record {
      left = remove_on _ _ _ _ (search rules) run.judged made run.last (rw lent_page at c.get_next_leaf-next.ensures) _ (omega arith) c.if-larger.false (search rules) ∙ c.loop.invariant.left;
      bytes = λ i. search rules;
    }

pub returns : goal.returns
returns c = remove-none _ _ _ _ _ (omega arith) ∙ c.loop.invariant.left
