-- The stores of a stamp, as planned: where its leaf divides, what each call asks for and what all of them do; and where it
-- fits, the one edit of its page. Assumes nothing.
use Rattle.std.proofs.Common.{Some, None, Ok}
use mathlib.Core.Path.{◌≡◌, sym, ◌∙◌}
use mathlib.Core.Bool.{true, false}
use mathlib.Core.List.{List}
use Prim.Native.Nat.{ℕ, ◌+◌, ◌-◌, ◌*◌, ◌/◌, ◌≤◌, ◌<◌}
use native.Mathlib.Omega.{arith}
use borrow.Author.Tests.{ltb-true, ltb-false}
use borrow.Rule.Slice.PartMut.{mid_of, put_mid}
use lib.Dec.{ltb}
use lib.ListN.{length}
use Rattle.store.specs.Le.{AreBytes}
use Rattle.store.specs.Part.{part, zeros}
use Rattle.page.specs.Page.{page}
use Rattle.page.specs.Header.{cell_count}
use Rattle.page.specs.Pool.{good_pool, allocated, with_fresh, grown}
use Rattle.page.specs.Key.{rank_at}
use Rattle.page.specs.declared.pool.State.{State}
use Rattle.page.specs.declared.pool.Allocated.{Allocated}
use Rattle.row.specs.Write.{stamp_len, cell_bytes}
use Rattle.leaf_edit.specs.Edit.{with_stamp}
use Rattle.leaf_divide.specs.Divide.{divided}
use Rattle.tree_grow.specs.Path.{page_at, pages_above}
use Rattle.tree_grow.specs.Grow.{settled}
use Rattle.tree_grow.specs.Steps.Safe.{There, AboveSafe}
use Rattle.tree_room.specs.Room.{leaf_plan, room_of}
use Rattle.tree_room.specs.Up.{divided_up}
use Rattle.tree_room.specs.declared.Planned.{Planned}
use Rattle.tree_stamp.specs.Target.{target_of}
use Rattle.tree_stamp.specs.Steps.Target.{CellMet}
use Rattle.tree_stamp.specs.Stamp.{longer, bytes_stamped, cut_stamped, stamp_plan, spliced_stamp, stamped_at}
use Rattle.tree_stamp.specs.Steps.Stamp.{StampCutStands}
use Rattle.tree_stamp.specs.declared.Target.{Target}
use Rattle.store.proofs.PutLaws.{length-spliced}
use Rattle.store.proofs.SeamLaws.{spliced-before}
use Rattle.page.proofs.PageLaws.{length-page, lent_page, back_page}
use Rattle.page.proofs.PoolLaws.{pool-is, alloc_page}
use Rattle.row.proofs.Writing.{stamp_len_lem, length-cell}
use Rattle.leaf.proofs.Bytes.{bytes-page}
use Rattle.leaf_edit.proofs.Editing.{body_of, cell-ends}
use Rattle.tree_grow.proofs.Stepping.{next-is, fresh_long, fresh_here, fresh_other}
use Rattle.tree_room.proofs.Keeping.{PlannedIs, planned-is, RoomLeft, room-left, room-is, up_asks, up_done}
use Rattle.tree_stamp.proofs.Meeting.{Stands, target_stands}
use Rattle.tree_stamp.proofs.Cutting.{cut_stands}

module _ (s : List ℕ) (st : State) (t : Target) (plan : Planned) (d : ℕ) (good : good_pool s st ≡ true) (met : CellMet st.used t.leaf t.cell s)
    (is : t ≡ target_of (page s t.leaf) t.leaf t.cell) (plans : stamp_plan s st t ≡ Ok plan) where
  abbrev pg : List ℕ
  pg = page s t.leaf

  pub stands : Stands pg t.cell t.beside
  stands = target_stands st.used s t met is

  pub leaf-there : There t.leaf s
  leaf-there = omega (arith, met.in_use, (pool-is s st good).room)

  pub leaf-long : length pg ≡ 4096
  leaf-long = length-page t.leaf s leaf-there

  leaf-plans : leaf_plan s st t.leaf (ltb 4084 (bytes_stamped t)) (cut_stamped pg t) ≡ Ok plan
  unfolding stamp_plan
  leaf-plans = plans

  told : PlannedIs st t.leaf (ltb 4084 (bytes_stamped t)) (cut_stamped pg t) s plan
  told = planned-is st t.leaf (ltb 4084 (bytes_stamped t)) (cut_stamped pg t) s leaf-plans

  -- ---- where it fits

  pub fits_in : plan.over ≡ false → t.beside.end + 9 ≤ 4096 + stamp_len t.cell.version.stamp
  fits_in o =
      omega (arith, ltb-false 4084 (bytes_stamped t) (sym told.same ∙ o), stamp_len_lem t.cell.version.stamp, stands.low, stands.size, stands.inside)

  -- y is what the edit makes of the page that was lent
  pub fits-done : {y : List ℕ} → plan.over ≡ false → y ≡ with_stamp d t.beside.end t.cell (mid_of (t.leaf * 4096) (t.leaf * 4096 + 4096 - t.leaf * 4096) s)
      → grown (put_mid (t.leaf * 4096) (t.leaf * 4096 + 4096 - t.leaf * 4096) s y) st ≡ stamped_at d t plan (grown s st)
  unfolding stamped_at
  fits-done o q = rw (q, lent_page, back_page, o)

  -- ---- where it divides

  module _ (over : plan.over ≡ true) (room : room_of (length s / 4096) st (bytes_stamped t) plan ≡ Ok tt) where
    overfull : 4084 < bytes_stamped t
    overfull = ltb-true 4084 (bytes_stamped t) (sym told.same ∙ over)

    cut_is : plan.cut ≡ cut_stamped pg t
    cut_is = told.at_cut (sym told.same ∙ over)

    over_plans : leaf_plan s st t.leaf true (cut_stamped pg t) ≡ Ok plan
    over_plans = rw (sym told.same ∙ over) at leaf-plans

    pub free_left : RoomLeft s st plan
    free_left = room-left s st (bytes_stamped t) plan good room over

    cut_there : {n : ℕ} → n ≡ cell_count pg → StampCutStands t n plan.cut pg
    cut_there e =
        let f = (room-is (length s / 4096) st (bytes_stamped t) plan room over).cuts in
        rw (e, cut_is) (cut_stands t pg (omega (arith, leaf-long)) stands overfull (rw cut_is at f))

    module _ {a : Allocated} {s₁ : List ℕ} (given : a ≡ allocated s st) (fresh : s₁ ≡ with_fresh s st) {n : ℕ} (count : n ≡ cell_count pg) where
      page-is : a.page ≡ st.used
      page-is = alloc_page s st given

      same-leaf : page s₁ t.leaf ≡ pg
      same-leaf = rw fresh (fresh_other s st free_left.there t.leaf (λ e. omega (arith, met.in_use)))

      -- what `divide_at` asks for
      pub divide_asks : (t.leaf < a.page) × There a.page s₁ × (page s₁ a.page ≡ zeros 4096) × StampCutStands t n plan.cut (page s₁ t.leaf)
      divide_asks = (
        rw page-is met.in_use,
        rw (page-is, fresh, fresh_long s st free_left.there) free_left.there,
        rw (page-is ∙ sym (next-is s st), fresh) (fresh_here s st free_left.there),
        rw same-leaf (cut_there count),
      )

      module _ (B : AreBytes s) {u : List ℕ} (divides : u ≡ divided t.leaf a.page n plan.cut (spliced_stamp d t (page s₁ t.leaf)) s₁) where
        live : t.cell.version.stamp ≡ None
        live = (cut_there count).live

        abbrev new : List ℕ
        new = cell_bytes t.cell.key t.cell.version.creator (Some d) t.cell.version.pointer (body_of t.cell pg)

        v_long : length (spliced_stamp d t pg) ≡ 12 + bytes_stamped t
        v_long =
            let ends = cell-ends t.cell pg (bytes-page t.leaf s B) stands.there live in
            let l = length-cell t.cell.key t.cell.version.creator (Some d) t.cell.version.pointer (body_of t.cell pg) in
            let m : longer t.cell ≡ 8 = rw live in
            length-spliced t.cell.at t.cell.next t.beside.end new pg (omega (arith, stands.size)) stands.inside (omega (arith, leaf-long, stands.within))
            ∙ omega (arith, stands.low, stands.size, stands.inside)

        v_head : part 0 12 (spliced_stamp d t pg) ≡ part 0 12 pg
        v_head =
            spliced-before t.cell.at t.cell.next t.beside.end new pg (omega (arith, stands.size)) stands.inside (omega (arith, leaf-long, stands.within)) 0 12
            (omega (arith, stands.low))

        divides_is : u ≡ divided t.leaf a.page n plan.cut (spliced_stamp d t pg) s₁
        divides_is = rw same-leaf at divides

        cut_inside : plan.cut.bytes ≤ bytes_stamped t
        cut_inside = let m : longer t.cell ≡ 8 = rw live in omega (arith, (cut_there count).whole, stands.low, stands.size, stands.inside)

        -- what `settle` asks for, and what all of it does
        pub settle_asks : (0 < plan.path.len) × (plan.path.len ≤ 4) × There a.page u
            × AboveSafe a.state.root (page_at plan.path 0) (rank_at (page u a.page) 12) a.page (pages_above plan.path 0) (grown u a.state)
        settle_asks =
            up_asks s st t.leaf n (bytes_stamped t) (cut_stamped pg t) (spliced_stamp d t pg) good met.in_use stands.kind over_plans room v_head v_long cut_inside given fresh divides_is

        pub settle-done : {w : List ℕ} {r : State} → grown w r ≡ settled (pages_above plan.path 0) (page_at plan.path 0) a.page (grown u a.state)
            → grown w r ≡ divided_up plan t.leaf n (spliced_stamp d t pg) (grown s st)
        settle-done e =
            up_done s st t.leaf n (bytes_stamped t) (cut_stamped pg t) (spliced_stamp d t pg) good met.in_use stands.kind over_plans room v_head v_long cut_inside given fresh divides_is e

  pub over_done : {n : ℕ} {w : List ℕ} {r : State} → plan.over ≡ true → n ≡ cell_count pg → grown w r ≡ divided_up plan t.leaf n (spliced_stamp d t pg) (grown s st)
      → grown w r ≡ stamped_at d t plan (grown s st)
  unfolding stamped_at
  over_done o e q = q ∙ rw (e, o)
