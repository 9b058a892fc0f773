-- `tree_grow::insert_in_parent` and `tree_grow::split_internal` meet their contracts, by the levels that are left: each way out is one law of Entering.
-- Assumes nothing.
use mathlib.Core.Path.{◌∙◌, ap}
use native.Mathlib.Omega.{arith}
use Rattle.std.proofs.Common.{rules}
use Rattle.page.specs.Header.{cell_count}
use Rattle.page.proofs.PoolLaws.{alloc_page}
use Rattle.tree_grow.proofs.Entering.{pages_top, pages_more, halved_free, halved_asks, halved_adopts, halved-enters, halved-done, enter_top, enter-room, enter_over, safe_top, safe_here, safe_over, at_place}
use Rattle.tree_grow.proofs.+insert_in_parent_split_internal.Goals as goal

pub insert_in_parent-grow_top-requires : goal.insert_in_parent-grow_top-requires
insert_in_parent-grow_top-requires t c =
    let none = pages_top c.args.path c.args.level (omega arith) in
    safe_top _ _ _ _ _ none c.requires.2

pub insert_in_parent-returns-then-level-path : goal.insert_in_parent-returns-then-level-path
insert_in_parent-returns-then-level-path t c =
    let none = pages_top c.args.path c.args.level (omega arith) in
    c.grow_top.ensures ∙ enter_top _ _ _ _ _ none

pub insert_in_parent-page_of-pg-requires : goal.insert_in_parent-page_of-pg-requires
insert_in_parent-page_of-pg-requires t c =
    let more = pages_more c.args.path c.args.level (omega arith) (omega arith) (search rules) in
    (safe_here _ _ _ _ _ _ _ _ more c.requires.2).2

pub insert_in_parent-child_place-i-requires : goal.insert_in_parent-child_place-i-requires
insert_in_parent-child_place-i-requires t c =
    let more = pages_more c.args.path c.args.level (omega arith) (omega arith) (search rules) in
    let h = safe_here _ _ _ _ _ _ _ _ more c.requires.2 in
    let of = c.page_of-pg.ensures.0 in
    let count = c.get_cell_count-n.ensures in
    let m = count ∙ ap cell_count of in
    (omega arith, omega arith)

pub insert_in_parent-join-requires : goal.insert_in_parent-join-requires
insert_in_parent-join-requires t c =
    let more = pages_more c.args.path c.args.level (omega arith) (omega arith) (search rules) in
    let h = safe_here _ _ _ _ _ _ _ _ more c.requires.2 in
    let of = c.page_of-pg.ensures.0 in
    let count = c.get_cell_count-n.ensures in
    let place = c.child_place-i.ensures.0 in
    let m = count ∙ ap cell_count of in
    let at = at_place _ _ _ of count place in
    (h.2, h.0, h.1, m, omega arith, omega arith)

pub insert_in_parent-returns-then-n-lt-MAX_KEYS : goal.insert_in_parent-returns-then-n-lt-MAX_KEYS
insert_in_parent-returns-then-n-lt-MAX_KEYS t c =
    let more = pages_more c.args.path c.args.level (omega arith) (omega arith) (search rules) in
    let of = c.page_of-pg.ensures.0 in
    let count = c.get_cell_count-n.ensures in
    let place = c.child_place-i.ensures.0 in
    enter-room _ _ _ _ _ _ _ _ more of count place (search rules) c.join.ensures

pub insert_in_parent-adopt_one-requires : goal.insert_in_parent-adopt_one-requires
insert_in_parent-adopt_one-requires t c =
    let more = pages_more c.args.path c.args.level (omega arith) (omega arith) (search rules) in
    (safe_here _ _ _ _ _ _ _ _ more c.requires.2).1

pub insert_in_parent-split_internal-requires : goal.insert_in_parent-split_internal-requires
insert_in_parent-split_internal-requires t c =
    let more = pages_more c.args.path c.args.level (omega arith) (omega arith) (search rules) in
    let of = c.page_of-pg.ensures.0 in
    let count = c.get_cell_count-n.ensures in
    let place = c.child_place-i.ensures.0 in
    (omega arith, (omega arith, omega arith, safe_over _ _ _ _ _ _ _ _ more of count place (omega arith) c.adopt_one.ensures c.requires.2))

pub insert_in_parent-returns : goal.insert_in_parent-returns
insert_in_parent-returns t c =
    let more = pages_more c.args.path c.args.level (omega arith) (omega arith) (search rules) in
    let of = c.page_of-pg.ensures.0 in
    let count = c.get_cell_count-n.ensures in
    let place = c.child_place-i.ensures.0 in
    c.split_internal.ensures ∙ enter_over _ _ _ _ _ _ _ _ more of count place (omega arith) c.adopt_one.ensures

pub split_internal-allocate-fresh-requires : goal.split_internal-allocate-fresh-requires
split_internal-allocate-fresh-requires t c = halved_free _ _ _ _ _ _ c.requires.2.0

pub split_internal-divide-middle-requires : goal.split_internal-divide-middle-requires
split_internal-divide-middle-requires t c =
    let fresh = c.allocate-fresh.ensures in
    let h = halved_asks _ _ _ _ _ _ c.requires.2.0 fresh.value fresh.pool_after in
    let f = halved_free _ _ _ _ _ _ c.requires.2.0 in
    (h.0, omega (arith, alloc_page _ _ fresh.value), h.1, h.2)

pub split_internal-adopt-requires : goal.split_internal-adopt-requires
split_internal-adopt-requires t c =
    let fresh = c.allocate-fresh.ensures in
    let f = halved_free _ _ _ _ _ _ c.requires.2.0 in
    (omega arith, omega (arith, alloc_page _ _ fresh.value), halved_adopts _ _ _ _ _ _ c.requires.2.0 fresh.value fresh.pool_after c.divide-middle.ensures.pool_after)

pub split_internal-insert_in_parent-requires : goal.split_internal-insert_in_parent-requires
split_internal-insert_in_parent-requires t c =
    let fresh = c.allocate-fresh.ensures in
    let cut = c.divide-middle.ensures in
    (omega arith, (omega arith, omega arith, halved-enters _ _ _ _ _ _ c.requires.2.0 fresh.value fresh.pool_after cut.pool_after cut.value c.adopt.ensures _ c.requires.2.1))

pub split_internal-returns : goal.split_internal-returns
split_internal-returns t c =
    let fresh = c.allocate-fresh.ensures in
    let cut = c.divide-middle.ensures in
    c.insert_in_parent.ensures ∙ halved-done _ _ _ _ _ _ c.requires.2.0 fresh.value fresh.pool_after cut.pool_after cut.value c.adopt.ensures _
