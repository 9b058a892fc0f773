-- The stores of a new version, as planned: where its leaf divides, what each call asks for and what all of them do; and where
-- it fits, the one edit of its page. Assumes nothing.
use Rattle.std.proofs.Common.{Option, Ok}
use mathlib.Core.Path.{◌≡◌, sym, ◌∙◌}
use mathlib.Core.Bool.{true, false}
use mathlib.Core.List.{List}
use Prim.Native.Nat.{ℕ, ◌+◌, ◌-◌, ◌*◌, ◌/◌, ◌≤◌, ◌<◌}
use native.Mathlib.Omega.{arith}
use borrow.Author.Tests.{ltb-true, ltb-false}
use borrow.Rule.Slice.PartMut.{mid_of, put_mid}
use lib.Dec.{ltb}
use lib.ListN.{length}
use Rattle.store.specs.Le.{AreBytes}
use Rattle.store.specs.Part.{part, zeros}
use Rattle.page.specs.Page.{page}
use Rattle.page.specs.Header.{cell_count}
use Rattle.page.specs.Pool.{good_pool, allocated, with_fresh, grown}
use Rattle.page.specs.Key.{rank_at}
use Rattle.page.specs.declared.pool.State.{State}
use Rattle.page.specs.declared.pool.Allocated.{Allocated}
use Rattle.row.specs.Write.{cell_size}
use Rattle.row.specs.Row.{Row, row_size, row_bytes}
use Rattle.row.specs.declared.Pointer.{Pointer}
use Rattle.leaf_edit.specs.Edit.{with_cell}
use Rattle.leaf_divide.specs.Divide.{divided}
use Rattle.tree_grow.specs.Path.{page_at, pages_above}
use Rattle.tree_grow.specs.Grow.{settled}
use Rattle.tree_grow.specs.Steps.Safe.{There, AboveSafe}
use Rattle.tree_room.specs.Room.{leaf_plan, room_of}
use Rattle.tree_room.specs.Up.{divided_up}
use Rattle.tree_room.specs.declared.Planned.{Planned}
use Rattle.tree_insert.specs.Spot.{spot_of}
use Rattle.tree_insert.specs.Insert.{bytes_with, cut_with, insert_plan, spliced_at, inserted_at}
use Rattle.tree_insert.specs.Steps.Insert.{InsertCutStands}
use Rattle.tree_insert.specs.declared.Spot.{Spot}
use Rattle.store.proofs.PutLaws.{length-spliced}
use Rattle.store.proofs.SeamLaws.{spliced-before}
use Rattle.page.proofs.PageLaws.{lent_page, back_page}
use Rattle.page.proofs.PoolLaws.{pool-is, alloc_page}
use Rattle.row.proofs.Writing.{stamp_len_lem, pointer_len_lem, length-row}
use Rattle.tree_grow.proofs.Stepping.{next-is, fresh_long, fresh_here, fresh_other}
use Rattle.tree_room.proofs.Keeping.{PlannedIs, planned-is, RoomLeft, room-left, room-is, up_asks, up_done}
use Rattle.tree_insert.proofs.Spotting.{SpotIs, spot_is}
use Rattle.tree_insert.proofs.Cutting.{cut_stands}

-- a cell has 19 bytes at least, and 4084 at most
pub cell-size : (stamp : Option ℕ) (pointer : Option Pointer) (n : ℕ) → n ≤ 4051 → (19 ≤ cell_size stamp pointer n) × (cell_size stamp pointer n ≤ 4084)
cell-size stamp pointer n h =
    let a = stamp_len_lem stamp in
    let b = pointer_len_lem pointer in
    (omega arith, omega arith)

module _ (s : List ℕ) (st : State) (x : Spot) (plan : Planned) (version : Row)
    (B : AreBytes s) (good : good_pool s st ≡ true) (short : length version.body ≤ 4051) (spot : spot_of s st.used st.root version.key version.creator ≡ Ok x)
    (plans : insert_plan s st x (row_size version) ≡ Ok plan) where
  abbrev m : ℕ
  m = row_size version

  abbrev new : List ℕ
  new = row_bytes version

  abbrev pg : List ℕ
  pg = page s x.leaf

  pub stored_at : SpotIs st.used version.key version.creator s x
  stored_at = spot_is st.used st.root version.key version.creator s x B (pool-is s st good).room spot

  leaf-plans : leaf_plan s st x.leaf (ltb 4084 (bytes_with x m)) (cut_with pg x m) ≡ Ok plan
  unfolding insert_plan
  leaf-plans = plans

  told : PlannedIs st x.leaf (ltb 4084 (bytes_with x m)) (cut_with pg x m) s plan
  told = planned-is st x.leaf (ltb 4084 (bytes_with x m)) (cut_with pg x m) s leaf-plans

  -- ---- where it fits

  pub fits_in : plan.over ≡ false → x.end + m ≤ 4096
  fits_in o = omega (arith, ltb-false 4084 (bytes_with x m) (sym told.same ∙ o), stored_at.low, stored_at.inside)

  -- y is what the edit makes of the page that was lent
  pub fits-done : {n : ℕ} {y : List ℕ} → plan.over ≡ false → n ≡ cell_count pg
      → y ≡ with_cell x.place.at x.end n new (mid_of (x.leaf * 4096) (x.leaf * 4096 + 4096 - x.leaf * 4096) s)
      → grown (put_mid (x.leaf * 4096) (x.leaf * 4096 + 4096 - x.leaf * 4096) s y) st ≡ inserted_at x plan new (grown s st)
  unfolding inserted_at
  fits-done o e q = rw (q, lent_page, back_page, e, o)

  -- ---- where it divides

  module _ (over : plan.over ≡ true) (room : room_of (length s / 4096) st (bytes_with x m) plan ≡ Ok tt) where
    overfull : 4084 < bytes_with x m
    overfull = ltb-true 4084 (bytes_with x m) (sym told.same ∙ over)

    cut_is : plan.cut ≡ cut_with pg x m
    cut_is = told.at_cut (sym told.same ∙ over)

    over_plans : leaf_plan s st x.leaf true (cut_with pg x m) ≡ Ok plan
    over_plans = rw (sym told.same ∙ over) at leaf-plans

    pub free_left : RoomLeft s st plan
    free_left = room-left s st (bytes_with x m) plan good room over

    pub cut_there : {n : ℕ} → n ≡ cell_count pg → InsertCutStands x m n plan.cut
    cut_there e =
        let c = cell-size version.stamp version.pointer (length version.body) short in
        let f = (room-is (length s / 4096) st (bytes_with x m) plan room over).cuts in
        rw (e, cut_is) (cut_stands st.used version.key version.creator s x m stored_at c.0 c.1 overfull (rw cut_is at f))

    module _ {a : Allocated} {s₁ : List ℕ} (given : a ≡ allocated s st) (fresh : s₁ ≡ with_fresh s st) where
      page-is : a.page ≡ st.used
      page-is = alloc_page s st given

      -- what `divide_at` asks for
      pub divide_asks : (x.leaf < a.page) × There a.page s₁ × (page s₁ a.page ≡ zeros 4096)
      divide_asks = (
        rw page-is stored_at.in_use,
        rw (page-is, fresh, fresh_long s st free_left.there) free_left.there,
        rw (page-is ∙ sym (next-is s st), fresh) (fresh_here s st free_left.there),
      )

      same-leaf : page s₁ x.leaf ≡ pg
      same-leaf = rw fresh (fresh_other s st free_left.there x.leaf (λ e. omega (arith, stored_at.in_use)))

      module _ {n : ℕ} {u : List ℕ} (count : n ≡ cell_count pg) (divides : u ≡ divided x.leaf a.page (n + 1) plan.cut (spliced_at x new (page s₁ x.leaf)) s₁) where
        v_long : length (spliced_at x new pg) ≡ 12 + bytes_with x m
        v_long =
            length-spliced x.place.at x.place.at x.end new pg (omega arith) stored_at.inside (rw stored_at.sound.whole stored_at.within)
            ∙ omega (arith, length-row version, stored_at.low, stored_at.inside)

        v_head : part 0 12 (spliced_at x new pg) ≡ part 0 12 pg
        v_head =
            spliced-before x.place.at x.place.at x.end new pg (omega arith) stored_at.inside (rw stored_at.sound.whole stored_at.within) 0 12 (omega (arith, stored_at.low))

        divides_is : u ≡ divided x.leaf a.page (n + 1) plan.cut (spliced_at x new pg) s₁
        divides_is = rw same-leaf at divides

        cut_inside : plan.cut.bytes ≤ bytes_with x m
        cut_inside = omega (arith, (cut_there count).whole, stored_at.low, stored_at.inside)

        -- what `settle` asks for, and what all of it does
        pub settle_asks : (0 < plan.path.len) × (plan.path.len ≤ 4) × There a.page u
            × AboveSafe a.state.root (page_at plan.path 0) (rank_at (page u a.page) 12) a.page (pages_above plan.path 0) (grown u a.state)
        settle_asks =
            up_asks s st x.leaf (n + 1) (bytes_with x m) (cut_with pg x m) (spliced_at x new pg) good stored_at.in_use stored_at.kind over_plans room v_head v_long cut_inside given fresh divides_is

        pub settle-done : {w : List ℕ} {r : State} → grown w r ≡ settled (pages_above plan.path 0) (page_at plan.path 0) a.page (grown u a.state)
            → grown w r ≡ divided_up plan x.leaf (n + 1) (spliced_at x new pg) (grown s st)
        settle-done e =
            up_done s st x.leaf (n + 1) (bytes_with x m) (cut_with pg x m) (spliced_at x new pg) good stored_at.in_use stored_at.kind over_plans room v_head v_long cut_inside given fresh divides_is e

    pub over_done : {n : ℕ} {w : List ℕ} {r : State} → n ≡ cell_count pg → grown w r ≡ divided_up plan x.leaf (n + 1) (spliced_at x new pg) (grown s st)
        → grown w r ≡ inserted_at x plan new (grown s st)
    unfolding inserted_at
    over_done e q = q ∙ rw (e, over)
