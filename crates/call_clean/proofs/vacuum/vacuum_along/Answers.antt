-- `call_clean::vacuum::vacuum_along` meets its contract: what is left to do, from the pool as it is now, gives what all of it gives.
-- Assumes nothing.
use mathlib.Core.Path.{sym, ◌∙◌}
use native.Mathlib.Omega.{arith}
use borrow.Rule.Slice.PartMut.{put_same}
use Rattle.std.proofs.Common.{rules}
use Rattle.page.proofs.PageLaws.{lent_page}
use Rattle.leaf.proofs.Choosing.{any_page}
use Rattle.call_clean.proofs.Counting.{dropped-few}
use Rattle.call_clean.proofs.Storing.{page_made, vacuum-none, vacuum_unused, vacuum_bad, vacuum-end, vacuum_on}
use Rattle.call_clean.proofs.vacuum.vacuum_along.Goals as goal

pub returns-then-used-p : goal.returns-then-used-p
returns-then-used-p c = vacuum_unused _ _ _ _ _ _ _ (search rules) ∙ c.loop.invariant.left

pub returns-in_default : goal.returns-in_default
returns-in_default c =
    rw put_same (vacuum_bad _ _ _ _ _ _ (search rules) (rw lent_page at c.judge_leaf.ensures) _ c.in_default.is ∙ c.loop.invariant.left)

pub vacuum_leaf-dropped-requires : goal.vacuum_leaf-dropped-requires
vacuum_leaf-dropped-requires c = (search rules, c.get_cell_count-n.ensures, search rules, any_page _ 0 _ _ (sym c.judge_leaf.ensures ∙ c.in-Ok.is))

pub overflow_add-dropped : goal.overflow_add-dropped
overflow_add-dropped c = let few = dropped-few _ _ _ (search rules) c.vacuum_leaf-dropped.ensures.0 in omega arith

pub returns-then-next-eq0 : goal.returns-then-next-eq0
returns-then-next-eq0 c =
    let w = rw lent_page at c.vacuum_leaf-dropped.ensures in
    vacuum-end _ _ _ _ _ _ (search rules) (rw lent_page at c.judge_leaf.ensures) c.in-Ok.is w.0 (page_made _ _ w.1) (rw lent_page at c.get_next_leaf-next.ensures) _ (omega arith) c.if-next-eq0.true ∙ c.loop.invariant.left

pub loop-preserved : goal.loop-preserved
loop-preserved c =
    let few = dropped-few _ _ _ (search rules) c.vacuum_leaf-dropped.ensures.0 in
    let w = rw lent_page at c.vacuum_leaf-dropped.ensures in
    record {
      few = omega arith;
      left = vacuum_on _ _ _ _ _ _ (search rules) (rw lent_page at c.judge_leaf.ensures) c.in-Ok.is w.0 (page_made _ _ w.1) (rw lent_page at c.get_next_leaf-next.ensures) _ (omega arith) (search rules) ∙ c.loop.invariant.left;
    }

pub returns : goal.returns
returns c = vacuum-none _ _ _ _ _ _ _ (omega arith) ∙ c.loop.invariant.left
