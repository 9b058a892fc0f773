-- `list_visible::pass::write_leaf` meets its contract: what is left to write gives what all of it gives. Assumes nothing.
use Rattle.list_visible.proofs.Going.{next-turn}
use Rattle.list_visible.proofs.Writing.{turn-pushed, turn-passed, writing_start, writing_end, writing_fits, writing_turn}
use native.Mathlib.Omega.{arith}
use Rattle.list_visible.proofs.pass.write_leaf.Goals as goal
use Rattle.list_visible.proofs.pass.write_leaf.Goals.{then-visible_at, else-visible_at}

pub loop-init : goal.loop-init
loop-init c = writing_start _ _ _ _ c.args.sc _ c.page_of-pg.ensures.0 (omega arith) c.requires.2 c.requires.3 c.requires.4 c.requires.5

pub next_at-end-requires : goal.next_at-end-requires
next_at-end-requires c = let t = next-turn _ _ _ _ (omega arith) c.loop.invariant.going in omega (arith, t.next-is, t.inside)

pub visible_at-requires : goal.visible_at-requires
visible_at-requires c = let t = next-turn _ _ _ _ (omega arith) c.loop.invariant.going in omega (arith, t.stamp_in_lem, t.inside)

pub chosen_at-requires : goal.chosen_at-requires
chosen_at-requires c =
    let t = next-turn _ _ _ _ (omega arith) c.loop.invariant.going in (omega (arith, t.low, t.inside), omega (arith, c.loop.invariant.within), omega (arith, t.next-is, t.inside, c.page_of-pg.ensures.1, c.next_at-end.ensures))

pub push-here-requires : goal.push-here-requires
push-here-requires c =
    let t = next-turn _ _ _ _ (omega arith) c.loop.invariant.going in (c.loop.invariant.waits, writing_fits _ _ _ _ c.loop.invariant t c.visible_at.ensures c.if-visible_at.true c.next_at-end.ensures c.chosen_at.ensures, omega (arith, c.loop.invariant.few))

pub loop-preserved : goal.loop-preserved
loop-preserved c =
    let t = next-turn _ _ _ _ (omega arith) c.loop.invariant.going in writing_turn _ _ _ _ c.loop.invariant t _ (omega arith) c.requires.0 c.requires.1 c.page_of-pg.ensures.0 c.page_of-pg.ensures.1 c.next_at-end.ensures (elim c.if-visible_at.branch [ then-visible_at w ↦ turn-pushed _ _ _ _ _ _ t c.visible_at.ensures w.if-visible_at.true c.next_at-end.ensures w.chosen_at.ensures w.push-here.ensures w.out-is w.here-is | else-visible_at w ↦ turn-passed _ _ _ _ _ _ t c.visible_at.ensures w.if-visible_at.false w.out-is w.here-is ])

pub shape_of-out : goal.shape_of-out
shape_of-out c = c.loop.invariant.long

pub returns : goal.returns
returns c = writing_end _ _ _ _ c.loop.invariant (omega arith)
