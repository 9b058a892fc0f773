-- The theorems of specs/Rooted.antt: a root that divides keeps its number 3, and moves from 0. They hold of any bytes: what is
-- written to page 3 is followed through stores that may go anywhere. Assumes nothing.
use mathlib.Core.Path.{◌≡◌, refl, ap, ◌∙◌}
use mathlib.Core.Bool.{Bool, true, false}
use mathlib.Core.List.{List, [], ◌∷◌, ◌++◌}
use mathlib.Core.Logic.{⊎_elim}
use Prim.Native.Nat.{ℕ, zero, suc, ◌+◌, ◌-◌, ◌*◌, ◌≤◌, ◌<◌}
use native.Mathlib.Omega.{arith}
use borrow.Author.Tests.{eqb-true, eqb-false}
use lib.Dec.{eqb}
use lib.ListN.{length, length-append, length-take, length-drop, length-replicate, take, drop}
use Rattle.store.specs.Part.{part, splice, zeros, pad}
use Rattle.store.specs.Pick.{pick}
use Rattle.page.specs.Header.{node_type, cell_count, next_leaf, with_is_root, with_parent, with_count}
use Rattle.page.specs.Key.{rank_at}
use Rattle.page.specs.Page.{page, set_page}
use Rattle.page.specs.Pool.{next_page, allocated, with_fresh, Grown, grown}
use Rattle.page.specs.declared.pool.State.{State}
use Rattle.leaf.specs.declared.place.Cut.{Cut}
use Rattle.leaf_divide.specs.Divide.{left_leaf, right_leaf, divided}
use Rattle.inner.specs.Inner.{key_at, child_at}
use Rattle.inner_edit.specs.Edit.{top_page, adopted}
use Rattle.tree.specs.Climb.{path_of}
use Rattle.tree_grow.specs.Grow.{linked, linked_both, top_over, enter_of, moved_to, relinked, top_in, pin_of, kept_root, settled}
use Rattle.tree_grow.specs.Steps.Safe.{There}
use Rattle.tree_room.specs.Up.{divided_up}
use Rattle.tree_room.specs.declared.Planned.{Planned}
use Rattle.theory_grow.specs.Rooted.{Pinned, PinnedRoot, MovedRoot}
use Rattle.store.proofs.LeLaws.{length-put_at, le_at-put_at, le_at-put_at_above}
use Rattle.store.proofs.PartLaws.{le_or_lt, le_at-same, part-part}
use Rattle.store.proofs.SeamLaws.{part_left, part_right}
use Rattle.page.proofs.KeyLaws.{flip_less}
use Rattle.page.proofs.PageLaws.{length-page, length-set_page, page-set_page, page-set_page-other, length-zeros}
use Rattle.tree_grow.proofs.Stepping.{top_root, top_used, top_right}
use Rattle.theory_tree.proofs.Says.{InnerSays, inner_says}
use Rattle.theory_stores.proofs.Entering.{says_children, top_long, top_in_long, said_top_in}
use Rattle.tree_room.proofs.Rooming.{path_above}

pub moved-root : MovedRoot
unfolding divided_up settled enter_of top_over kept_root next_page allocated
moved-root s plan n v e = rw (e, path_above 0 [])

-- ---- a list stored in the place of a page, whatever its length

module _ (p : ℕ) (x s : List ℕ) (fits : There p s) (large : 4096 ≤ length x) where
  set_longer : length s ≤ length (set_page p x s)
  unfolding set_page splice
  set_longer = rw (length-append, length-append, length-take, length-drop, length-drop) (omega arith)

  set_next : next_leaf (page (set_page p x s) p) ≡ next_leaf x
  unfolding page set_page splice
  set_next =
      let a = p * 4096 in
      let l : length (take a s) ≡ a = rw length-take (omega arith) in
      le_at-same 4 8 8 (part a 4096 (take a s ++ (x ++ drop 4096 (drop a s)))) x
      (part-part a 4096 8 4 (take a s ++ (x ++ drop 4096 (drop a s))) (omega arith)
      ∙ part_right 8 4 (a + 8) (take a s) (x ++ drop 4096 (drop a s)) (omega arith)
      ∙ part_left 8 4 x (drop 4096 (drop a s)) (omega arith))

-- ---- the next page of page p, through links

-- the first m pages are there, and page p names the same next page
record Kept (m p : ℕ) (s t : List ℕ) : Type 0 where
  pub long : m * 4096 ≤ length t
  pub next : next_leaf (page t p) ≡ next_leaf (page s p)

kept_trans : (m p : ℕ) (s t u : List ℕ) → Kept m p s t → Kept m p t u → Kept m p s u
kept_trans m p s t u a b = record { long = b.long; next = b.next ∙ a.next }

module _ (m p : ℕ) (less : p < m) where
  -- a page that is not there is behind the first m
  kept_beyond : (c : ℕ) (x s : List ℕ) → m * 4096 ≤ length s → m ≤ c → Kept m p s (set_page c x s)
  unfolding page set_page splice part
  kept_beyond c x s long out =
      let a = c * 4096 in
      let b = p * 4096 in
      let l : b + 4096 ≤ length (take a s) = rw length-take (omega arith) in
      let e : 0 + b ≡ b = omega arith in
      record {
        long = rw (length-append, length-append, length-take, length-drop, length-drop) (omega arith);
        next = ap next_leaf (part_left b 4096 (take a s) (x ++ drop 4096 (drop a s)) l ∙ rw e at (part-part 0 a b 4096 s (omega arith)));
      }

  kept_linked : (c q : ℕ) (s : List ℕ) → m * 4096 ≤ length s → Kept m p s (linked c q s)
  kept_linked c q s long = ⊎_elim here (λ h. kept_beyond c (with_parent q (page s c)) s long (omega arith)) (le_or_lt (c * 4096 + 4096) (length s))
    where
      here : There c s → Kept m p s (linked c q s)
      here h =
          let len : length (with_parent q (page s c)) ≡ 4096 = length-put_at 4 (page s c) 2 q ∙ length-page c s h in
          record { long = rw (length-set_page c (with_parent q (page s c)) s h len) long; next = by_page len (eqb p c) refl }
        where
          by_page : length (with_parent q (page s c)) ≡ 4096 → (b : Bool) → eqb p c ≡ b → next_leaf (page (linked c q s) p) ≡ next_leaf (page s p)
          by_page len true e = rw (eqb-true p c e, page-set_page c (with_parent q (page s c)) s h len) (le_at-put_at_above 4 4 (page s c) 2 q 8 (omega arith))
          by_page len false e = ap next_leaf (page-set_page-other c (with_parent q (page s c)) s h len p (eqb-false p c e))

  kept_adopted : (n i z q : ℕ) (s : List ℕ) → m * 4096 ≤ length s → Kept m p s (adopted n i z q s)
  unfolding adopted
  kept_adopted zero i z q s long = record { long = long; next = refl }
  kept_adopted (suc n) i z q s long =
      let a = kept_linked (child_at (page s z) i) q s long in
      kept_trans m p s (linked (child_at (page s z) i) q s) _ a (kept_adopted n (i + 1) z q (linked (child_at (page s z) i) q s) a.long)

  kept_relinked : (z : ℕ) (s : List ℕ) → m * 4096 ≤ length s → Kept m p s (relinked z s)
  unfolding relinked
  kept_relinked z s long = by_kind (eqb (node_type (page s z)) 0)
    where
      by_kind : (b : Bool) → Kept m p s (pick b (adopted (cell_count (page s z) + 1) 0 z z s) s)
      by_kind true = kept_adopted (cell_count (page s z) + 1) 0 z z s long
      by_kind false = record { long = long; next = refl }

  -- a page of the usual length, in another place
  kept_set : (c : ℕ) (x s : List ℕ) → m * 4096 ≤ length s → There c s → length x ≡ 4096 → (p ≡ c → ⊥) → Kept m p s (set_page c x s)
  kept_set c x s long there len other =
      record { long = rw (length-set_page c x s there len) long; next = ap next_leaf (page-set_page-other c x s there len p other) }

-- ---- page 3 and its new top, where pages 0 to 6 are there

abbrev Long : List ℕ → Type 0
Long s = 7 * 4096 ≤ length s

kept_fresh : (s : List ℕ) (st : State) → Long s → (3 ≡ st.used → ⊥) → st.used < 7 → Kept 7 3 s (with_fresh s st)
unfolding with_fresh next_page
kept_fresh s st long other h = kept_set 7 3 (omega arith) st.used (zeros 4096) s long (omega arith) length-zeros other

-- the root page 3, relocated to page 6 from under its top, page 5
module _ (g : Grown) (long : Long g.pool) (root_is : g.state.root ≡ 5) (used-is : g.state.used ≡ 6)
    (right : child_at (page g.pool g.state.root) 1 ≡ 4) (next : next_leaf (page g.pool 3) ≡ 4) where
  abbrev sep : ℕ
  sep = key_at (page g.pool g.state.root) 0

  sep_fits : sep < 4294967296
  unfolding key_at
  sep_fits = flip_less _

  abbrev p₀ : List ℕ
  p₀ = with_fresh g.pool g.state

  abbrev p₁ : List ℕ
  p₁ = moved_to 3 6 p₀

  abbrev p₂ : List ℕ
  p₂ = relinked 6 p₁

  abbrev p₃ : List ℕ
  p₃ = set_page 3 (top_in 6 sep 4 (page p₂ 3)) p₂

  pin_is : pin_of 3 g ≡ grown (linked_both 6 4 3 p₃) (record { root = 3; used = 7 })
  unfolding pin_of next_page allocated
  pin_is = rw (right, used-is)

  kept₀ : Kept 7 3 g.pool p₀
  kept₀ = kept_fresh g.pool g.state long (λ e. omega (arith, e, used-is)) (omega (arith, used-is))

  kept₁ : Kept 7 3 p₀ p₁
  kept₁ =
      let l : Long p₀ = kept₀.long in
      kept_set 7 3 (omega arith) 6 (with_parent 3 (with_is_root 0 (page p₀ 3))) p₀ l (omega arith)
      (length-put_at 4 (with_is_root 0 (page p₀ 3)) 2 3 ∙ length-put_at 1 (page p₀ 3) 1 0 ∙ length-page 3 p₀ (omega arith)) (λ e. omega arith)

  kept₂ : Kept 7 3 p₁ p₂
  kept₂ = kept_relinked 7 3 (omega arith) 6 p₁ kept₁.long

  next₂ : next_leaf (page p₂ 3) ≡ 4
  next₂ = kept₂.next ∙ kept₁.next ∙ kept₀.next ∙ next

  there : (x : ℕ) → x < 7 → There x p₂
  there x h = let l : Long p₂ = kept₂.long in omega arith

  len : length (page p₂ 3) ≡ 4096
  len = length-page 3 p₂ (there 3 (omega arith))

  abbrev x : List ℕ
  x = top_in 6 sep 4 (page p₂ 3)

  x_long : length x ≡ 4096
  x_long = top_in_long 6 sep 4 (page p₂ 3) len

  p₃_long : length p₃ ≡ length p₂
  p₃_long = length-set_page 3 x p₂ (there 3 (omega arith)) x_long

  says : InnerSays x 0 (next_leaf (page p₂ 3)) 6 ((sep, 4) ∷ [])
  says = inner_says x (said_top_in 6 sep 4 (page p₂ 3) len (omega arith) sep_fits (omega arith))

  -- a link of another page
  other : (c : ℕ) (s : List ℕ) → There c s → (3 ≡ c → ⊥) → page (linked c 3 s) 3 ≡ page s 3
  other c s h ne = page-set_page-other c (with_parent 3 (page s c)) s h (length-put_at 4 (page s c) 2 3 ∙ length-page c s h) 3 ne

  page-is : page (linked_both 6 4 3 p₃) 3 ≡ x
  page-is =
      let l : Long p₂ = kept₂.long in
      let six : There 6 p₃ = omega (arith, p₃_long) in
      let l₁ : length (linked 6 3 p₃) ≡ length p₃ =
      length-set_page 6 (with_parent 3 (page p₃ 6)) p₃ six (length-put_at 4 (page p₃ 6) 2 3 ∙ length-page 6 p₃ six) in
      other 4 (linked 6 3 p₃) (omega (arith, l₁, p₃_long)) (λ e. omega arith)
      ∙ other 6 p₃ six (λ e. omega arith)
      ∙ page-set_page 3 x p₂ (there 3 (omega arith)) x_long

  pin_pinned : Pinned (pin_of 3 g)
  pin_pinned =
      rw pin_is
      (record {
        state = refl;
        children = rw page-is (says_children x 0 (next_leaf (page p₂ 3)) 6 ((sep, 4) ∷ []) says);
        next = rw page-is (says.next ∙ next₂);
      })

-- ---- the leaf divides, and its root grows

pad_large : (n : ℕ) (x : List ℕ) → n ≤ length (pad n x)
unfolding pad
pad_large n x = rw (length-append, length-replicate {A = ℕ} (n - length x) 0) (omega arith)

left_large : (q : ℕ) (cut : Cut) (v : List ℕ) → 4096 ≤ length (left_leaf q cut v)
unfolding left_leaf
left_large q cut v = rw (length-put_at, length-put_at) (pad_large 4096 (part 0 (12 + cut.bytes) v))

left-next : (q : ℕ) (cut : Cut) (v : List ℕ) → q < 4294967296 → next_leaf (left_leaf q cut v) ≡ q
unfolding left_leaf
left-next q cut v h =
    let y = pad 4096 (part 0 (12 + cut.bytes) v) in
    le_at-put_at 4 (with_count cut.cells y) 8 q (rw length-put_at (omega (arith, pad_large 4096 (part 0 (12 + cut.bytes) v)))) h

right_large : (next n : ℕ) (cut : Cut) (v fresh : List ℕ) → 4096 ≤ length (right_leaf next n cut v fresh)
unfolding right_leaf
right_large next n cut v fresh = rw (length-put_at, length-put_at) (pad_large 4096 _)

module _ (s : List ℕ) (n : ℕ) (cut : Cut) (v : List ℕ) (long : Long s) where
  abbrev a₀ : List ℕ
  a₀ = with_fresh s (record { root = 3; used = 4 })

  abbrev right_side : List ℕ
  right_side = right_leaf (next_leaf (page a₀ 3)) n cut v (page a₀ 4)

  abbrev a₁ : List ℕ
  a₁ = set_page 4 right_side a₀

  abbrev a₂ : List ℕ
  a₂ = divided 3 4 n cut v a₀

  a₀_long : Long a₀
  a₀_long = (kept_fresh s (record { root = 3; used = 4 }) long (λ e. omega arith) (omega arith)).long

  a₁_long : Long a₁
  a₁_long = omega (arith, a₀_long, set_longer 4 right_side a₀ (omega (arith, a₀_long)) (right_large (next_leaf (page a₀ 3)) n cut v (page a₀ 4)))

  a₂_long : Long a₂
  unfolding divided
  a₂_long = omega (arith, a₁_long, set_longer 3 (left_leaf 4 cut v) a₁ (omega (arith, a₁_long)) (left_large 4 cut v))

  a₂_next : next_leaf (page a₂ 3) ≡ 4
  unfolding divided
  a₂_next = set_next 3 (left_leaf 4 cut v) a₁ (omega (arith, a₁_long)) (left_large 4 cut v) ∙ left-next 4 cut v (omega arith)

  abbrev key : ℕ
  key = rank_at (page a₂ 4) 12

  abbrev g₁ : Grown
  g₁ = grown a₂ (record { root = 3; used = 5 })

  free : (5 < 65536) × There 5 a₂
  free = (omega arith, omega (arith, a₂_long))

  abbrev g₂ : Grown
  g₂ = top_over 3 key 4 g₁

  abbrev b₀ : List ℕ
  b₀ = with_fresh a₂ (record { root = 3; used = 5 })

  abbrev b₁ : List ℕ
  b₁ = set_page 5 (top_page 3 key 4 (page b₀ 5)) b₀

  g₂_kept : Kept 7 3 a₂ g₂.pool
  unfolding top_over next_page
  g₂_kept =
      let k₀ : Kept 7 3 a₂ b₀ = kept_fresh a₂ (record { root = 3; used = 5 }) a₂_long (λ e. omega arith) (omega arith) in
      let l₀ : Long b₀ = k₀.long in
      let k₁ : Kept 7 3 b₀ b₁ =
      kept_set 7 3 (omega arith) 5 (top_page 3 key 4 (page b₀ 5)) b₀ l₀ (omega arith) (top_long 3 key 4 (page b₀ 5) (length-page 5 b₀ (omega arith))) (λ e. omega arith) in
      let k₂ : Kept 7 3 b₁ (linked 3 5 b₁) = kept_linked 7 3 (omega arith) 3 5 b₁ k₁.long in
      kept_trans 7 3 a₂ b₀ _ k₀ (kept_trans 7 3 b₀ b₁ _ k₁ (kept_trans 7 3 b₁ (linked 3 5 b₁) _ k₂ (kept_linked 7 3 (omega arith) 4 5 (linked 3 5 b₁) k₂.long)))

  all_pinned : Pinned (pin_of 3 g₂)
  all_pinned =
      pin_pinned g₂ g₂_kept.long (top_root 3 key 4 g₁ free (omega arith) (omega arith)) (top_used 3 key 4 g₁ free (omega arith) (omega arith))
      (top_right 3 key 4 g₁ free (omega arith) (omega arith)) (g₂_kept.next ∙ a₂_next)

up_is : (s : List ℕ) (plan : Planned) (n : ℕ) (v : List ℕ) (long : Long s) → plan.path ≡ path_of (3 ∷ [])
    → divided_up plan 3 n v (grown s (record { root = 3; used = 4 })) ≡ pin_of 3 (g₂ s n plan.cut v long)
unfolding divided_up settled enter_of top_over kept_root next_page allocated
up_is s plan n v long e = rw (e, path_above 3 [])

pub pinned_root : PinnedRoot
pinned_root s plan n v B Bv long e = rw (up_is s plan n v long e) (all_pinned s n plan.cut v long)
