-- One step up: what the pool is after a page has divided, after the root has grown and after a root was relocated, page
-- by page, and that those stores are inside the pool. Assumes nothing.
use mathlib.Core.Path.{◌≡◌, refl, ap, sym, ◌∙◌}
use mathlib.Core.List.{List}
use Prim.Native.Nat.{ℕ, ◌+◌, ◌≤◌, ◌<◌}
use native.Mathlib.Omega.{arith}
use lib.ListN.{length}
use Rattle.store.specs.Le.{put_at}
use Rattle.store.specs.Part.{zeros}
use Rattle.page.specs.Page.{page, set_page}
use Rattle.page.specs.Header.{node_type, cell_count, with_is_root, with_parent, with_count}
use Rattle.page.specs.Key.{flip}
use Rattle.page.specs.Pool.{next_page, allocated, with_fresh, Grown}
use Rattle.page.specs.declared.pool.State.{State}
use Rattle.inner.specs.Inner.{child_at}
use Rattle.inner_edit.specs.Edit.{left_half, right_half, top_page}
use Rattle.tree_grow.specs.Grow.{top_over, halved, moved_to}
use Rattle.tree_grow.specs.Steps.Safe.{There, Free, HalvedSafe, RelinkSafe, PinSafe}
use Rattle.tree_grow.specs.Plan.{first_moved}
use Rattle.store.proofs.LeLaws.{length-put_at, le_at-put_at}
use Rattle.page.proofs.PageLaws.{length-page, length-set_page, page-set_page, page-set_page-other, length-zeros}
use Rattle.tree_grow.proofs.Likeness.{Alike, alike_eq, alike_trans, alike_parent, alike_root, Like, like_both, ChildrenThere, adopt_all, like_adopted}
use Rattle.tree_grow.proofs.Halving.{right-below, left-long, right-long}

-- ---- the page that is handed out

pub next-is : (s : List ℕ) (st : State) → next_page s st ≡ st.used
unfolding next_page
next-is s st = refl

module _ (s : List ℕ) (st : State) (there : There st.used s) where
  pub fresh_long : length (with_fresh s st) ≡ length s
  unfolding with_fresh next_page
  fresh_long = length-set_page st.used (zeros 4096) s there length-zeros

  pub fresh_here : page (with_fresh s st) (next_page s st) ≡ zeros 4096
  unfolding with_fresh next_page
  fresh_here = page-set_page st.used (zeros 4096) s there length-zeros

  pub fresh_other : (x : ℕ) → (x ≡ st.used → ⊥) → page (with_fresh s st) x ≡ page s x
  unfolding with_fresh next_page
  fresh_other = page-set_page-other st.used (zeros 4096) s there length-zeros

-- ---- page p divides

-- before the children that went are linked
abbrev split : (p i sep new : ℕ) → Grown → List ℕ
split p i sep new g =
    set_page p (left_half i sep new (page (with_fresh g.pool g.state) p))
    (set_page (next_page g.pool g.state) (right_half i sep new (page (with_fresh g.pool g.state) p) (page (with_fresh g.pool g.state) (next_page g.pool g.state)))
    (with_fresh g.pool g.state))

module _ (p i sep new : ℕ) (g : Grown) (free : Free g) (less : p < g.state.used) (in₀ : i ≤ 510) (full : cell_count (page g.pool p) ≡ 510) (fresh : new < g.state.used)
    (moved : (k : ℕ) → first_moved i ≤ k → k < 511 → child_at (page g.pool p) k < g.state.used) where
  abbrev q : ℕ
  q = next_page g.pool g.state

  q_is : q ≡ g.state.used
  q_is = next-is g.pool g.state

  before_here : page (with_fresh g.pool g.state) p ≡ page g.pool p
  before_here = fresh_other g.pool g.state free.1 p (λ e. omega arith)

  pg-long : length (page g.pool p) ≡ 4096
  pg-long = length-page p g.pool (omega (arith, free.1))

  abbrev right : List ℕ
  right = right_half i sep new (page g.pool p) (zeros 4096)

  abbrev left : List ℕ
  left = left_half i sep new (page g.pool p)

  split_is : split p i sep new g ≡ set_page p left (set_page q right (with_fresh g.pool g.state))
  split_is = rw (before_here, fresh_here g.pool g.state free.1)

  r_long : length right ≡ 4096
  r_long = right-long i sep new (page g.pool p) pg-long full in₀ (zeros 4096) length-zeros

  l_long : length left ≡ 4096
  l_long = left-long i sep new (page g.pool p) pg-long full in₀

  abbrev s₁ : List ℕ
  s₁ = set_page q right (with_fresh g.pool g.state)

  q_there : There q (with_fresh g.pool g.state)
  q_there = rw (q_is, fresh_long g.pool g.state free.1) free.1

  s₁_long : length s₁ ≡ length g.pool
  s₁_long = length-set_page q right (with_fresh g.pool g.state) q_there r_long ∙ fresh_long g.pool g.state free.1

  p_there : There p s₁
  p_there = omega (arith, s₁_long, free.1)

  split_long : length (split p i sep new g) ≡ length g.pool
  split_long = rw split_is (length-set_page p left s₁ p_there l_long ∙ s₁_long)

  split_here : page (split p i sep new g) p ≡ left
  split_here = rw split_is (page-set_page p left s₁ p_there l_long)

  split_right : page (split p i sep new g) q ≡ right
  split_right =
      rw split_is
      (page-set_page-other p left s₁ p_there l_long q (λ e. omega (arith, q_is)) ∙ page-set_page q right (with_fresh g.pool g.state) q_there r_long)

  split_other : (x : ℕ) → x < g.state.used → (x ≡ p → ⊥) → page (split p i sep new g) x ≡ page g.pool x
  split_other x h ne =
      rw split_is
      (page-set_page-other p left s₁ p_there l_long x ne
      ∙ page-set_page-other q right (with_fresh g.pool g.state) q_there r_long x (λ e. omega (arith, q_is))
      ∙ fresh_other g.pool g.state free.1 x (λ e. omega arith))

  children-there : ChildrenThere 256 0 q (split p i sep new g)
  children-there k h l =
      let b : child_at right k < g.state.used =
      right-below i sep new (page g.pool p) pg-long full in₀ g.state.used fresh (omega (arith, free.0)) (zeros 4096) length-zeros moved k (omega arith) in
      rw split_right (omega (arith, split_long, free.1))

  pub halved_safe : HalvedSafe p i sep new g
  unfolding HalvedSafe
  halved_safe = (free, less, in₀, full, adopt_all 256 0 q q (split p i sep new g) children-there)

  halved_like : Like (halved p i sep new g).pool (split p i sep new g)
  unfolding halved
  halved_like = like_adopted 256 0 q q (split p i sep new g) children-there

  pub halved-long : length (halved p i sep new g).pool ≡ length g.pool
  halved-long = halved_like.long ∙ split_long

  pub halved-here : Alike (page (halved p i sep new g).pool p) (left_half i sep new (page g.pool p))
  halved-here = alike_trans (halved_like.each p) (alike_eq split_here)

  pub halved-other : (x : ℕ) → x < g.state.used → (x ≡ p → ⊥) → Alike (page (halved p i sep new g).pool x) (page g.pool x)
  halved-other x h ne = alike_trans (halved_like.each x) (alike_eq (split_other x h ne))

pub halved-root : (p i sep new : ℕ) (g : Grown) → (halved p i sep new g).state.root ≡ g.state.root
unfolding halved allocated
halved-root p i sep new g = refl

pub halved-used : (p i sep new : ℕ) (g : Grown) → (halved p i sep new g).state.used ≡ g.state.used + 1
unfolding halved allocated
halved-used p i sep new g = refl

-- ---- an internal page whose children are there

abbrev pub Ready : ℕ → List ℕ → Type 0
Ready x s = node_type (page s x) ≡ 0 → (cell_count (page s x) ≤ 510) × ((k : ℕ) → k ≤ cell_count (page s x) → There (child_at (page s x) k) s)

pub ready_alike : (x y : ℕ) (s t : List ℕ) → length t ≡ length s → Alike (page t y) (page s x) → Ready x s → Ready y t
ready_alike x y s t l a r z =
    let h = r (rw a.kind at z) in
    (rw a.count h.0, λ k b. rw (l, a.child k) (h.1 k (rw a.count at b)))

relink_safe : (z : ℕ) (s : List ℕ) → Ready z s → RelinkSafe z s
unfolding RelinkSafe
relink_safe z s r e =
    let h = r e in
    (h.0, adopt_all (cell_count (page s z) + 1) 0 z z s (λ k a b. h.1 k (omega arith)))

-- ---- the new top

top_child : (old sep new : ℕ) (pg : List ℕ) → length pg ≡ 4096 → new < 4294967296 → child_at (top_page old sep new pg) 1 ≡ new
unfolding top_page child_at
top_child old sep new pg len h =
    let a = with_count 1 (with_is_root 1 pg) in
    let b = put_at 4 a 12 old in
    let c = put_at 4 b 16 (flip sep) in
    let l : length c ≡ 4096 = length-put_at 4 b 16 (flip sep) ∙ length-put_at 4 a 12 old ∙ length-put_at 2 (with_is_root 1 pg) 6 1 ∙ length-put_at 1 pg 1 1 ∙ len in
    le_at-put_at 4 c 20 new (omega arith) h

top_long : (old sep new : ℕ) (pg : List ℕ) → length pg ≡ 4096 → length (top_page old sep new pg) ≡ 4096
unfolding top_page
top_long old sep new pg len = rw (length-put_at, length-put_at, length-put_at, length-put_at, length-put_at) len

module _ (old sep new : ℕ) (g : Grown) (free : Free g) (low : old < g.state.used) (fresh : new < g.state.used) where
  abbrev t : ℕ
  t = next_page g.pool g.state

  t_is : t ≡ g.state.used
  t_is = next-is g.pool g.state

  abbrev s₀ : List ℕ
  s₀ = with_fresh g.pool g.state

  s₀_long : length s₀ ≡ length g.pool
  s₀_long = fresh_long g.pool g.state free.1

  t_there : There t s₀
  t_there = rw (t_is, s₀_long) free.1

  t_long : length (page s₀ t) ≡ 4096
  t_long = length-page t s₀ t_there

  abbrev x : List ℕ
  x = top_page old sep new (page s₀ t)

  x_long : length x ≡ 4096
  x_long = top_long old sep new (page s₀ t) t_long

  topped-long : length (set_page t x s₀) ≡ length g.pool
  topped-long = length-set_page t x s₀ t_there x_long ∙ s₀_long

  pub top_root : (top_over old sep new g).state.root ≡ g.state.used
  unfolding top_over next_page
  top_root = refl

  pub top_used : (top_over old sep new g).state.used ≡ g.state.used + 1
  unfolding top_over allocated
  top_used = refl

  top_like : Like (top_over old sep new g).pool (set_page t x s₀)
  unfolding top_over
  top_like = like_both old new t (set_page t x s₀) (omega (arith, topped-long, free.1)) (omega (arith, topped-long, free.1))

  pub top_length : length (top_over old sep new g).pool ≡ length g.pool
  top_length = top_like.long ∙ topped-long

  pub top_other : (y : ℕ) → y < g.state.used → Alike (page (top_over old sep new g).pool y) (page g.pool y)
  top_other y h =
      alike_trans (top_like.each y)
      (alike_eq (page-set_page-other t x s₀ t_there x_long y (λ e. omega (arith, t_is)) ∙ fresh_other g.pool g.state free.1 y (λ e. omega arith)))

  pub top_right : child_at (page (top_over old sep new g).pool (top_over old sep new g).state.root) 1 ≡ new
  top_right =
      ap (λ (y : ℕ). child_at (page (top_over old sep new g).pool y) 1) (top_root ∙ sym t_is)
      ∙ ((top_like.each t).child 1
      ∙ ap (λ (pg : List ℕ). child_at pg 1) (page-set_page t x s₀ t_there x_long)
      ∙ top_child old sep new (page s₀ t) t_long (omega (arith, free.0)))

-- ---- a root is relocated

pub pin_safe : (fixed : ℕ) (g : Grown) → Free g → fixed < g.state.used → There g.state.root g.pool → There (child_at (page g.pool g.state.root) 1) g.pool
    → Ready fixed g.pool → PinSafe fixed g
unfolding PinSafe
pin_safe fixed g free less top right ready =
    let z = next_page g.pool g.state in
    let s = with_fresh g.pool g.state in
    let pg = page s fixed in
    let e : z ≡ g.state.used = next-is g.pool g.state in
    let ls : length s ≡ length g.pool = fresh_long g.pool g.state free.1 in
    let there : There z s = rw (e, ls) free.1 in
    let same : pg ≡ page g.pool fixed = fresh_other g.pool g.state free.1 fixed (λ d. omega arith) in
    let len : length (with_parent fixed (with_is_root 0 pg)) ≡ 4096 =
    length-put_at 4 (with_is_root 0 pg) 2 fixed ∙ length-put_at 1 pg 1 0 ∙ length-page fixed s (omega arith) in
    let like : Alike (page (moved_to fixed z s) z) (page g.pool fixed) =
    alike_trans (alike_eq (page-set_page z (with_parent fixed (with_is_root 0 pg)) s there len))
    (alike_trans (alike_parent fixed (with_is_root 0 pg)) (alike_trans (alike_root 0 pg) (alike_eq same))) in
    let long : length (moved_to fixed z s) ≡ length g.pool = length-set_page z (with_parent fixed (with_is_root 0 pg)) s there len ∙ ls in
    (free, less, top, right, relink_safe z (moved_to fixed z s) (ready_alike fixed z g.pool (moved_to fixed z s) long like ready))
