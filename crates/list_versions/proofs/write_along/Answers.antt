-- `list_versions::write_along` meets its contract: the rows written so far go on to what the whole walk gathers. Assumes nothing.
use Rattle.list_versions.proofs.Gathering.{copied_start, copied_again, copied_unused, copied_room, copied_last, copied_end, copied_on}
use native.Mathlib.Omega.{arith}
use Rattle.std.proofs.Common.{rules}
use Rattle.list_versions.proofs.write_along.Goals as goal

pub loop-init : goal.loop-init
loop-init c = copied_start _ _ _ _ _ (omega arith)

pub returns-then-used-p : goal.returns-then-used-p
returns-then-used-p c = absurd (copied_unused _ _ _ _ _ _ _ _ _ c.loop.invariant c.requires.1 c.requires.2 (omega arith) (search rules))

pub write_run-o-requires : goal.write_run-o-requires
write_run-o-requires c =
    let room = copied_room _ _ _ _ _ _ _ _ _ c.loop.invariant c.requires.1 c.requires.2 (omega arith) (search rules) (λ i. (c.type_inv.pool i).fits) c.page_of-pg.ensures.0 c.page_of-pg.ensures.1 c.run_again-run.ensures in (c.page_of-pg.ensures.1, room.0, room.1)

pub returns-then-run : goal.returns-then-run
returns-then-run c =
    copied_last _ _ _ _ _ _ _ _ _ c.loop.invariant c.requires.1 c.requires.2 (omega arith) (search rules) (λ i. (c.type_inv.pool i).fits) c.page_of-pg.ensures.0 c.page_of-pg.ensures.1 c.run_again-run.ensures c.write_run-o.ensures.out_after (search rules)

pub returns-then-p-eq0 : goal.returns-then-p-eq0
returns-then-p-eq0 c =
    copied_end _ _ _ _ _ _ _ _ _ c.loop.invariant c.requires.1 c.requires.2 (omega arith) (search rules) (λ i. (c.type_inv.pool i).fits) c.page_of-pg.ensures.0 c.page_of-pg.ensures.1 c.run_again-run.ensures c.write_run-o.ensures.out_after (search rules) c.get_next_leaf-p.ensures (search rules)

pub loop-preserved : goal.loop-preserved
loop-preserved c =
    copied_on _ _ _ _ _ _ _ _ _ c.loop.invariant c.requires.1 c.requires.2 (omega arith) (search rules) (λ i. (c.type_inv.pool i).fits) c.page_of-pg.ensures.0 c.page_of-pg.ensures.1 c.run_again-run.ensures c.write_run-o.ensures.out_after (search rules) c.get_next_leaf-p.ensures (omega arith) (search rules) c.write_run-o.ensures.value

pub returns : goal.returns
returns c = absurd (copied_again _ _ _ _ _ _ _ _ _ c.loop.invariant c.requires.1 c.requires.2 (omega arith))
