-- `tree_grow::pin_root` meets its contract: what the stores need stands in `PinIs`, and they are one law of Pinning. Assumes nothing.
use native.Mathlib.Omega.{arith}
use Rattle.page.proofs.PoolLaws.{alloc_page}
use Rattle.tree_grow.proofs.Pinning.{pin_is, pin_done}
use Rattle.tree_grow.proofs.pin_root.Goals as goal

pub page_of-top-requires : goal.page_of-top-requires
page_of-top-requires c = let is = pin_is _ _ _ c.requires in is.top

pub allocate-fresh-requires : goal.allocate-fresh-requires
allocate-fresh-requires c = let is = pin_is _ _ _ c.requires in (is.few, is.room)

pub move_page-requires : goal.move_page-requires
move_page-requires c = let is = pin_is _ _ _ c.requires in (omega (arith, alloc_page _ _ c.allocate-fresh.ensures.value), omega (arith, alloc_page _ _ c.allocate-fresh.ensures.value))

pub relink-requires : goal.relink-requires
relink-requires c =
    let is = pin_is _ _ _ c.requires in (omega (arith, alloc_page _ _ c.allocate-fresh.ensures.value), is.relinks c.allocate-fresh.ensures.value c.allocate-fresh.ensures.pool_after c.move_page.ensures)

pub write_root-requires : goal.write_root-requires
write_root-requires c = let is = pin_is _ _ _ c.requires in omega arith

pub link_both-requires : goal.link_both-requires
link_both-requires c =
    let is = pin_is _ _ _ c.requires in (omega (arith, alloc_page _ _ c.allocate-fresh.ensures.value), omega (arith, is.right c.page_of-top.ensures.0 c.child_at-right.ensures))

pub returns : goal.returns
returns c =
    pin_done _ _ _ c.page_of-top.ensures.0 c.key_at-sep.ensures c.child_at-right.ensures c.allocate-fresh.ensures.value c.allocate-fresh.ensures.pool_after c.move_page.ensures c.relink.ensures c.write_root.ensures c.link_both.ensures
