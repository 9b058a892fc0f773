-- Laws of the entering above a divided page: the pages above a level of the path, and the stores of each function, which
-- together are what its contract says, with what they need. Assumes nothing.
use mathlib.Core.Path.{◌≡◌, ap, ◌∙◌}
use mathlib.Core.List.{List, [], ◌∷◌, map}
use Prim.Native.Nat.{ℕ, suc, ◌+◌, ◌-◌, ◌*◌, ◌≤◌, ◌<◌}
use native.Mathlib.Omega.{arith}
use borrow.Author.Tests.{lt-ltb, le-ltb}
use borrow.Rule.Slice.PartMut.{mid_of, put_mid}
use lib.ListN.{length, length-map, length-replicate}
use lib.Seq.{drop-cons}
use Rattle.store.specs.Part.{part, zeros}
use Rattle.page.specs.Page.{page, set_page}
use Rattle.page.specs.Header.{cell_count}
use Rattle.page.specs.Pool.{next_page, allocated, with_fresh, Grown, grown}
use Rattle.page.specs.declared.pool.State.{State}
use Rattle.page.specs.declared.pool.Allocated.{Allocated}
use Rattle.inner.specs.Inner.{children_from}
use Rattle.inner.specs.Route.{child_place}
use Rattle.inner_edit.specs.Edit.{with_entry, left_half, middle_key, right_half, top_page, adopted}
use Rattle.inner_edit.specs.Steps.Edit.{AdoptSafe}
use Rattle.tree.specs.declared.climb.Path.{Path}
use Rattle.tree_grow.specs.Path.{page_at, pages_above}
use Rattle.tree_grow.specs.Grow.{linked, linked_both, top_over, place_in, joined_to, halved, enter_of}
use Rattle.tree_grow.specs.Steps.Grow.{divide_of}
use Rattle.tree_grow.specs.Steps.Safe.{There, Free, HalvedSafe, EnterSafe, DivideSafe}
use Rattle.store.proofs.PutLaws.{part_none}
use Rattle.page.proofs.PageLaws.{lent_page, back_page, page-set_page-other}
use Rattle.page.proofs.PoolLaws.{alloc_page}

-- ---- the pages above a level

module _ (path : Path) (level : ℕ) where
  pub pages_top : level + 1 ≡ path.len → pages_above path level ≡ []
  unfolding pages_above
  pages_top e = part_none (level + 1) (path.len - (level + 1)) path.pages (omega arith)

  -- the array of a path has four elements
  pub pages_more : level + 1 < path.len → path.len ≤ 4 → length (map (λ (v : ℕ). v) path.pages) ≡ 4
      → pages_above path level ≡ page_at path (level + 1) ∷ pages_above path (level + 1)
  unfolding pages_above part
  pages_more h k four =
      let l : level + 1 < length path.pages = omega (arith, length-map path.pages (λ (v : ℕ). v)) in
      let e : path.len - (level + 1) ≡ suc (path.len - (level + 1 + 1)) = omega arith in
      let f : level + 1 + 1 ≡ suc (level + 1) = omega arith in
      rw (drop-cons path.pages (level + 1) 0, e, f)

-- ---- the new top

module _ (s : List ℕ) (st : State) {a : Allocated} (given : a ≡ allocated s st) where
  pub top_done : (old sep new : ℕ) {t y u : List ℕ} → t ≡ with_fresh s st
      → y ≡ top_page old sep new (mid_of (a.page * 4096) (a.page * 4096 + 4096 - a.page * 4096) t)
      → u ≡ linked_both old new a.page (put_mid (a.page * 4096) (a.page * 4096 + 4096 - a.page * 4096) t y)
      → grown u (record { root = a.page; used = a.state.used }) ≡ top_over old sep new (grown s st)
  unfolding top_over allocated
  top_done old sep new {t} {y} {u} e q l =
      let n : a.page ≡ next_page s st = ap (λ (x : Allocated). x.page) given in
      rw (l, back_page a.page t y, q, lent_page a.page t, n, e, given)

-- ---- a page divides

module _ (p i sep new : ℕ) (s : List ℕ) (st : State) (safe : HalvedSafe p i sep new (grown s st)) where
  pub halved_free : Free (grown s st)
  unfolding HalvedSafe
  halved_free = safe.0

  module _ {a : Allocated} {t : List ℕ} (given : a ≡ allocated s st) (fresh : t ≡ with_fresh s st) where
    -- the page is not touched by the allocation
    still : page t p ≡ page s p
    unfolding HalvedSafe with_fresh next_page
    still =
        let l : p < st.used = safe.1 in
        let f : st.used * 4096 + 4096 ≤ length s = safe.0.1 in
        rw fresh (page-set_page-other st.used (zeros 4096) s f (length-replicate {A = ℕ} 4096 0) p (λ e. omega arith))

    next-is : a.page ≡ next_page s st
    unfolding allocated
    next-is = ap (λ (x : Allocated). x.page) given

    pub halved_asks : (p < a.page) × (i ≤ 510) × (cell_count (page t p) ≡ 510)
    unfolding HalvedSafe
    halved_asks = (rw (alloc_page s st given) safe.1, safe.2, rw still safe.3)

    module _ {t₂ : List ℕ} (cut : t₂ ≡ set_page p (left_half i sep new (page t p)) (set_page a.page (right_half i sep new (page t p) (page t a.page)) t)) where
      pub halved_adopts : AdoptSafe 256 0 a.page a.page t₂
      unfolding HalvedSafe
      halved_adopts = rw (cut, next-is, fresh) safe.4

      module _ {t₃ : List ℕ} {middle : ℕ} (key : middle ≡ middle_key i sep new (page t p)) (linked₀ : t₃ ≡ adopted 256 0 a.page a.page t₂) (ps : List ℕ) where
        done : grown t₃ a.state ≡ halved p i sep new (grown s st)
        unfolding halved
        done = rw (linked₀, cut, next-is, fresh, given)

        pub halved-enters : EnterSafe ps p (middle_key i sep new (page s p)) (next_page s st) (halved p i sep new (grown s st)) → EnterSafe ps p middle a.page (grown t₃ a.state)
        halved-enters h = rw (done, key, still, next-is) h

        pub halved-done : enter_of ps p middle a.page (grown t₃ a.state) ≡ divide_of ps p i sep new (grown s st)
        halved-done = rw (done, key, still, next-is)

-- ---- the separator and the page new are entered above the page old

module _ (ps : List ℕ) (old sep new : ℕ) (g : Grown) (none : ps ≡ []) where
  pub enter_top : top_over old sep new g ≡ enter_of ps old sep new g
  unfolding enter_of
  enter_top = rw none

  pub safe_top : EnterSafe ps old sep new g → There old g.pool × There new g.pool × Free g
  unfolding EnterSafe
  safe_top h = rw none at h

-- the place of old in page p, as it was found
pub at_place : (p old : ℕ) (s : List ℕ) {pg : List ℕ} {n i : ℕ} → pg ≡ page s p → n ≡ cell_count pg → i ≡ child_place old (children_from pg 0 (n + 1)) → i ≡ place_in (page s p) old
at_place p old s of count place = place ∙ rw (count, of)

-- in a page p, which has n keys and the page old at i
module _ (ps qs : List ℕ) (p old sep new : ℕ) (s : List ℕ) (st : State) (more : ps ≡ p ∷ qs) where
  pub safe_here : EnterSafe ps old sep new (grown s st) → There old s × There new s × There p s × (cell_count (page s p) ≤ 510) × (place_in (page s p) old ≤ cell_count (page s p))
  unfolding EnterSafe
  safe_here h = let k = rw more at h in (k.0, k.1, k.2, k.3, k.4)

  module _ {pg : List ℕ} {n i : ℕ} (of : pg ≡ page s p) (count : n ≡ cell_count pg) (place : i ≡ child_place old (children_from pg 0 (n + 1))) where
    pub enter-room : {t : List ℕ} → n < 510 → t ≡ linked_both old new p (set_page p (with_entry i sep new (page s p)) s)
        → grown t st ≡ enter_of ps old sep new (grown s st)
    unfolding enter_of joined_to
    enter-room l e = rw (more, e, at_place p old s of count place, lt-ltb (cell_count (page s p)) 510 (rw (← of, ← count) l))

    module _ {t : List ℕ} (full : 510 ≤ n) (e : t ≡ linked new p s) where
      pub enter_over : divide_of qs p i sep new (grown t st) ≡ enter_of ps old sep new (grown s st)
      unfolding enter_of
      enter_over = rw (more, e, at_place p old s of count place, le-ltb (cell_count (page s p)) 510 (rw (← of, ← count) full))

      pub safe_over : EnterSafe ps old sep new (grown s st) → DivideSafe qs p i sep new (grown t st)
      unfolding EnterSafe
      safe_over h =
          let k = rw more at h in
          let c : cell_count (page s p) ≡ n = rw (← of, ← count) in
          rw (e, at_place p old s of count place) (k.5 (omega arith))
