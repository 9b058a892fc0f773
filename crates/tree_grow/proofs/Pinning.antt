-- A root that keeps its number: its image in one more page, the links of that page's children, the new top in its place,
-- and that together these are what `pin_of` says. Assumes nothing.
use mathlib.Core.Path.{◌≡◌, ◌∙◌}
use mathlib.Core.List.{List}
use Prim.Native.Nat.{ℕ, ◌+◌, ◌-◌, ◌*◌, ◌≤◌, ◌<◌}
use native.Mathlib.Omega.{arith}
use lib.ListN.{length}
use borrow.Author.Tests.{eq-eqb, ne_eqb}
use borrow.Rule.Slice.PartMut.{mid_of, put_mid}
use Rattle.store.specs.Part.{part, put, zeros}
use Rattle.page.specs.Page.{page, set_page}
use Rattle.page.specs.Header.{node_type, cell_count, with_node_type, with_is_root, with_parent}
use Rattle.page.specs.Pool.{next_page, allocated, with_fresh, Grown, grown}
use Rattle.page.specs.declared.pool.State.{State}
use Rattle.page.specs.declared.pool.Allocated.{Allocated}
use Rattle.inner.specs.Inner.{key_at, child_at}
use Rattle.inner_edit.specs.Edit.{top_page, adopted}
use Rattle.inner_edit.specs.Steps.Edit.{AdoptSafe}
use Rattle.tree_grow.specs.Grow.{linked_both, moved_to, relinked, top_in, pin_of, kept_root}
use Rattle.tree_grow.specs.Steps.Safe.{There, RelinkSafe, PinSafe}
use Rattle.store.proofs.PutLaws.{put-splice}
use Rattle.store.proofs.SeamLaws.{put-zeros}
use Rattle.page.proofs.PageLaws.{lent_page, back_page, length-page, page-set_page, set_page-set_page}

-- ---- the image in another page

copied : (p q : ℕ) (s : List ℕ) → There p s → put (q * 4096) (part (p * 4096) 4096 s) s ≡ set_page q (page s p) s
unfolding page set_page
copied p q s h = put-splice (q * 4096) 4096 (page s p) s (length-page p s h)

pub move_done : (fixed z : ℕ) (s : List ℕ) {s₁ y₁ y₂ : List ℕ} → fixed < z → There z s → s₁ ≡ put (z * 4096) (part (fixed * 4096) 4096 s) s
    → y₁ ≡ with_is_root 0 (mid_of (z * 4096) (z * 4096 + 4096 - z * 4096) s₁) → y₂ ≡ with_parent fixed y₁
    → put_mid (z * 4096) (z * 4096 + 4096 - z * 4096) s₁ y₂ ≡ moved_to fixed z s
move_done fixed z s {s₁} {y₁} {y₂} less fits e f g =
    let x = page s fixed in
    let lx : length x ≡ 4096 = length-page fixed s (omega arith) in
    let is : s₁ ≡ set_page z x s = e ∙ copied fixed z s (omega arith) in
    back_page z s₁ y₂ ∙ rw (g, f, lent_page z s₁, is, page-set_page z x s fits lx, set_page-set_page z x _ s fits lx)

-- ---- the links of its children

module _ (z : ℕ) (s : List ℕ) {pg : List ℕ} {t n : ℕ} (here : pg ≡ page s z) (count : n ≡ cell_count pg) (kind : t ≡ node_type pg) where
  pub relink_safe : RelinkSafe z s → t ≡ 0 → (n ≤ 510) × AdoptSafe (n + 1) 0 z z s
  unfolding RelinkSafe
  relink_safe h e = rw (count, here) (h (rw (kind, here) at e))

  pub relink_inner : {u : List ℕ} → t ≡ 0 → u ≡ adopted (n + 1) 0 z z s → u ≡ relinked z s
  unfolding relinked
  relink_inner e f = f ∙ rw (count, here, eq-eqb (node_type (page s z)) 0 (rw (kind, here) at e))

  pub relink-leaf : (t ≡ 0 → ⊥) → s ≡ relinked z s
  unfolding relinked
  relink-leaf e = rw (ne_eqb (node_type (page s z)) 0 (λ d. e (kind ∙ rw here d)))

-- ---- the new top in its place

pub root-done : (fixed left sep right : ℕ) (s : List ℕ) {y₁ y₂ y₃ y₄ : List ℕ} → There fixed s
    → y₁ ≡ put 12 (zeros (4096 - 12)) (mid_of (fixed * 4096) (fixed * 4096 + 4096 - fixed * 4096) s) → y₂ ≡ with_node_type 0 y₁ → y₃ ≡ with_parent 0 y₂ → y₄ ≡ top_page left sep right y₃
    → put_mid (fixed * 4096) (fixed * 4096 + 4096 - fixed * 4096) s y₄ ≡ set_page fixed (top_in left sep right (page s fixed)) s
root-done fixed left sep right s {y₁} {y₂} {y₃} {y₄} fits e f g h =
    back_page fixed s y₄ ∙ rw (h, g, f, e, lent_page fixed s, put-zeros 4096 12 (page s fixed) (length-page fixed s fits) (omega arith))

-- ---- all of it

-- what the stores need
pub record PinIs (fixed : ℕ) (s : List ℕ) (st : State) : Type 0 where
  pub few : st.used < 65536
  pub room : There st.used s
  pub below : fixed < st.used
  pub top : There st.root s
  pub right : {pg : List ℕ} {c : ℕ} → pg ≡ page s st.root → c ≡ child_at pg 1 → There c s
  pub relinks : {f : Allocated} {s₁ s₂ : List ℕ} → f ≡ allocated s st → s₁ ≡ with_fresh s st → s₂ ≡ moved_to fixed f.page s₁ → RelinkSafe f.page s₂

pub pin_is : (fixed : ℕ) (s : List ℕ) (st : State) → PinSafe fixed (grown s st) → PinIs fixed s st
unfolding PinSafe next_page allocated
pin_is fixed s st h =
    record { few = h.0.0; room = h.0.1; below = h.1; top = h.2; right = λ e f. rw (f, e) h.3; relinks = λ a e f. rw (f, e, a) h.4 }

pub pin_done : (fixed : ℕ) (s : List ℕ) (st : State) {f : Allocated} {top s₁ s₂ s₃ s₄ s₅ : List ℕ} {sep right : ℕ}
    → top ≡ page s st.root → sep ≡ key_at top 0 → right ≡ child_at top 1 → f ≡ allocated s st → s₁ ≡ with_fresh s st → s₂ ≡ moved_to fixed f.page s₁ → s₃ ≡ relinked f.page s₂
    → s₄ ≡ set_page fixed (top_in f.page sep right (page s₃ fixed)) s₃ → s₅ ≡ linked_both f.page right fixed s₄
    → grown s₅ (record { root = fixed; used = f.state.used }) ≡ pin_of fixed (grown s st)
unfolding pin_of allocated
pin_done fixed s st t k c a e₁ e₂ e₃ e₄ e₅ = rw (e₅, e₄, e₃, e₂, e₁, c, k, t, a)

-- ---- whether a root is pinned

module _ (original : ℕ) (s : List ℕ) (st : State) where
  pub keep_zero : original ≡ 0 → grown s st ≡ kept_root original (grown s st)
  unfolding kept_root
  keep_zero e = rw (eq-eqb original 0 e)

  pub keep_same : (original ≡ 0 → ⊥) → st.root ≡ original → grown s st ≡ kept_root original (grown s st)
  unfolding kept_root
  keep_same z e = rw (ne_eqb original 0 z, eq-eqb st.root original e)

  pub keep_pinned : {g : Grown} → (original ≡ 0 → ⊥) → (st.root ≡ original → ⊥) → g ≡ pin_of original (grown s st) → g ≡ kept_root original (grown s st)
  unfolding kept_root
  keep_pinned z e f = f ∙ rw (ne_eqb original 0 z, ne_eqb st.root original e)
