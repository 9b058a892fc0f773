-- `list_visible::pass::measure` meets its contract: what was gathered is counted. Assumes nothing.
use Rattle.list_visible.proofs.Stepping.{waits-whole}
use Rattle.list_visible.proofs.Passing.{passing_start, passing_in, passing_sound, passing_over, passing_on, last-whole, last-size}
use native.Mathlib.Omega.{arith}
use Rattle.list_visible.proofs.pass.measure.Goals as goal

pub loop-init : goal.loop-init
loop-init c = passing_start _ _ _ _ _ (omega arith)

pub measure_leaf-here-requires : goal.measure_leaf-here-requires
measure_leaf-here-requires c =
    (c.requires.0, passing_in _ _ _ _ _ c.requires.1 c.loop.invariant, passing_sound _ _ _ _ _ c.requires.1 c.loop.invariant, waits-whole c.loop.here.wait _ c.loop.invariant.waits, omega (arith, c.loop.invariant.small))

pub page_of-requires : goal.page_of-requires
page_of-requires c = let h = passing_in _ _ _ _ _ c.requires.1 c.loop.invariant in omega (arith, c.requires.0)

pub full_size-requires : goal.full_size-requires
full_size-requires c =
    last-whole _ _ _ _ _ c.requires.1 c.loop.invariant c.requires.0 c.measure_leaf-here.ensures c.page_of.ensures.0 c.get_next_leaf-p.ensures (omega arith) c.if-p-eq0.true

pub returns-then-p-eq0 : goal.returns-then-p-eq0
returns-then-p-eq0 c =
    last-size _ _ _ _ _ c.requires.1 c.loop.invariant c.requires.0 c.measure_leaf-here.ensures c.page_of.ensures.0 c.get_next_leaf-p.ensures (omega arith) c.if-p-eq0.true c.full_size.ensures

pub loop-preserved : goal.loop-preserved
loop-preserved c =
    passing_on _ _ _ _ _ c.requires.1 c.loop.invariant c.requires.0 c.measure_leaf-here.ensures c.page_of.ensures.0 c.get_next_leaf-p.ensures (omega arith) c.if-p-eq0.false

pub unreachable-requires : goal.unreachable-requires
unreachable-requires c = passing_over _ _ _ _ _ c.requires.1 c.loop.invariant (omega arith)
