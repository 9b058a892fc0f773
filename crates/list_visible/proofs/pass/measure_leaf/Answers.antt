-- `list_visible::pass::measure_leaf` meets its contract: the cells that are left give what all of them give. Assumes nothing.
use Rattle.list_visible.proofs.Going.{next-turn}
use Rattle.list_visible.proofs.Measuring.{turn-seen, turn_unseen, measuring_start, measuring_end, measuring_turn}
use native.Mathlib.Omega.{arith}
use Rattle.list_visible.proofs.pass.measure_leaf.Goals as goal
use Rattle.list_visible.proofs.pass.measure_leaf.Goals.{then-visible_at, else-visible_at}

pub loop-init : goal.loop-init
loop-init c = measuring_start _ _ _ _ c.args.sc c.page_of-pg.ensures.0 (omega arith) c.requires.2 c.requires.3

pub next_at-end-requires : goal.next_at-end-requires
next_at-end-requires c = let t = next-turn _ _ _ _ (omega arith) c.loop.invariant.going in omega (arith, t.next-is, t.inside)

pub visible_at-requires : goal.visible_at-requires
visible_at-requires c = let t = next-turn _ _ _ _ (omega arith) c.loop.invariant.going in omega (arith, t.stamp_in_lem, t.inside)

pub chosen_at-requires : goal.chosen_at-requires
chosen_at-requires c =
    let t = next-turn _ _ _ _ (omega arith) c.loop.invariant.going in (omega (arith, t.low, t.inside), omega (arith, c.loop.invariant.within), omega (arith, t.next-is, t.inside, c.page_of-pg.ensures.1, c.next_at-end.ensures))

pub step-here-requires : goal.step-here-requires
step-here-requires c = (c.loop.invariant.whole, omega (arith, c.loop.invariant.small, c.loop.invariant.within, c.requires.4))

pub loop-preserved : goal.loop-preserved
loop-preserved c =
    let t = next-turn _ _ _ _ (omega arith) c.loop.invariant.going in measuring_turn _ _ _ c.loop.invariant t (omega arith) c.page_of-pg.ensures.1 c.next_at-end.ensures (elim c.if-visible_at.branch [ then-visible_at w ↦ turn-seen _ _ _ _ t c.visible_at.ensures w.if-visible_at.true c.next_at-end.ensures w.chosen_at.ensures w.step-here.ensures w.here-is | else-visible_at w ↦ turn_unseen _ _ _ _ t c.visible_at.ensures w.if-visible_at.false w.here-is ])

pub returns : goal.returns
returns c = measuring_end _ _ _ c.loop.invariant (omega arith)
