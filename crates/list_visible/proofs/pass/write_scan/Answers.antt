-- `list_visible::pass::write_scan` meets its contract: what was gathered stands at the start of the output. Assumes nothing.
use Rattle.list_visible.proofs.Passing.{passing_in, passing_sound, passing_over, putting_start, putting_room, putting_few, putting_on, last_asks, last_full, last-long, last-is}
use native.Mathlib.Omega.{arith}
use Rattle.list_visible.proofs.pass.write_scan.Goals as goal

pub loop-init : goal.loop-init
loop-init c = putting_start _ _ _ _ _ _ (omega arith)

pub write_leaf-here-requires : goal.write_leaf-here-requires
write_leaf-here-requires c =
    (c.requires.0, passing_in _ _ _ _ _ c.requires.1.through c.loop.invariant.passing, passing_sound _ _ _ _ _ c.requires.1.through c.loop.invariant.passing, c.loop.invariant.passing.waits, putting_room _ _ _ _ _ _ c.requires.1 c.loop.invariant, putting_few _ _ _ _ _ _ c.requires.1 c.loop.invariant)

pub page_of-requires : goal.page_of-requires
page_of-requires c = let h = passing_in _ _ _ _ _ c.requires.1.through c.loop.invariant.passing in omega (arith, c.requires.0)

pub write_wait-requires : goal.write_wait-requires
write_wait-requires c =
    last_asks _ _ _ _ _ _ c.requires.1 c.loop.invariant c.requires.0 c.write_leaf-here.ensures c.page_of.ensures.0 c.get_next_leaf-p.ensures (omega arith) c.if-p-eq0.true

pub full_size-requires : goal.full_size-requires
full_size-requires c =
    last_full _ _ _ _ _ _ c.requires.1 c.loop.invariant c.requires.0 c.write_leaf-here.ensures c.page_of.ensures.0 c.get_next_leaf-p.ensures (omega arith) c.if-p-eq0.true

pub shape_of-out-then-p-eq0 : goal.shape_of-out-then-p-eq0
shape_of-out-then-p-eq0 c =
    last-long _ _ _ _ _ _ c.requires.1 c.loop.invariant c.requires.0 c.write_leaf-here.ensures c.page_of.ensures.0 c.get_next_leaf-p.ensures (omega arith) c.if-p-eq0.true c.write_wait.ensures

pub returns-then-p-eq0 : goal.returns-then-p-eq0
returns-then-p-eq0 c =
    last-is _ _ _ _ _ _ c.requires.1 c.loop.invariant c.requires.0 c.write_leaf-here.ensures c.page_of.ensures.0 c.get_next_leaf-p.ensures (omega arith) c.if-p-eq0.true c.write_wait.ensures c.full_size.ensures

pub loop-preserved : goal.loop-preserved
loop-preserved c =
    putting_on _ _ _ _ _ _ c.requires.1 c.loop.invariant c.requires.0 c.write_leaf-here.ensures c.page_of.ensures.0 c.get_next_leaf-p.ensures (omega arith) c.if-p-eq0.false

pub unreachable-requires : goal.unreachable-requires
unreachable-requires c = passing_over _ _ _ _ _ c.requires.1.through c.loop.invariant.passing (omega arith)
