-- The children of the two halves of a page with 510 keys and a pair entered: those that stay are the new page or old
-- children before `first_moved`, those that go are the new page or old ones from it on. Assumes nothing.
use mathlib.Core.Path.{◌≡◌, refl, ap, sym, ◌∙◌}
use mathlib.Core.List.{List, [], ◌++◌, append-nil}
use mathlib.Core.Logic.{⊎_elim}
use Prim.Native.Nat.{ℕ, ◌+◌, ◌-◌, ◌*◌, ◌≤◌, ◌<◌}
use native.Mathlib.Omega.{arith}
use borrow.Author.Tests.{lt-ltb, le-ltb}
use lib.ListN.{length, length-append}
use Rattle.store.specs.Le.{le_at, bytes_le}
use Rattle.store.specs.Part.{part, pad}
use Rattle.page.specs.Header.{cell_count, with_count}
use Rattle.page.specs.Key.{flip, key_bytes}
use Rattle.inner.specs.Inner.{child_at}
use Rattle.inner_edit.specs.Edit.{entered, left_half, right_half}
use Rattle.tree_grow.specs.Plan.{first_moved}
use Rattle.store.proofs.LeLaws.{length-bytes_le, length-put_at, le_at-put_at, le_at-put_at_above}
use Rattle.store.proofs.PartLaws.{le_or_lt, length_part, le_at-part, le_at-same, le_at-first, part_peel}
use Rattle.store.proofs.SeamLaws.{part_right, length-pad, part-pad}
use Rattle.inner_edit.proofs.Editing.{entered-before, entered-pair, entered-after}
use Rattle.inner_edit.proofs.Dividing.{length-left, length-right}

-- a page whose bytes are x, then zeros, has the children of x
made_child : (n k : ℕ) (x : List ℕ) → 12 + 8 * k + 4 ≤ length x → child_at (with_count n (pad 4096 x)) k ≡ child_at x k
unfolding child_at
made_child n k x h =
    le_at-put_at_above 4 2 (pad 4096 x) 6 n (12 + 8 * k) (omega arith) ∙ le_at-same 4 (12 + 8 * k) (12 + 8 * k) (pad 4096 x) x (part-pad 4096 (12 + 8 * k) 4 x h)

-- ---- the first that goes

moved-low : (i : ℕ) → i < 255 → first_moved i ≡ 255
moved-low i h = rw (lt-ltb i 255 h)

moved_high : (i : ℕ) → 255 ≤ i → first_moved i ≡ 256
moved_high i h = rw (le-ltb i 255 h)

module _ (i sep new : ℕ) (pg : List ℕ) (len : length pg ≡ 4096) (full : cell_count pg ≡ 510) (in₀ : i ≤ 510) where
  -- ---- the 512 children

  child_before : (k : ℕ) → k ≤ i → child_at (entered i sep new pg) k ≡ child_at pg k
  unfolding child_at
  child_before k h =
      le_at-same 4 (12 + 8 * k) (12 + 8 * k) (entered i sep new pg) pg (entered-before i sep new pg len (omega arith) (omega arith) (12 + 8 * k) 4 (omega arith))

  child_new : (k : ℕ) → k ≡ i + 1 → new < 4294967296 → child_at (entered i sep new pg) k ≡ new
  unfolding child_at
  child_new k e h =
      let f : 12 + 8 * k ≡ 16 + 8 * i + 4 = omega arith in
      let v = entered i sep new pg in
      let here : part (16 + 8 * i + 4) 4 v ≡ bytes_le 4 new =
      part_peel (16 + 8 * i) 4 4 (key_bytes sep) (bytes_le 4 new) v (length-bytes_le 4 (flip sep)) (entered-pair i sep new pg len (omega arith) (omega arith) (16 + 8 * i) refl) in
      rw f (le_at-first 4 (16 + 8 * i + 4) 4 new [] v (omega arith) h (here ∙ sym (append-nil (bytes_le 4 new))))

  child_after : (k j : ℕ) → k ≡ j + 1 → i < j → j ≤ 510 → child_at (entered i sep new pg) k ≡ child_at pg j
  unfolding child_at
  child_after k j e h l =
      le_at-same 4 (12 + 8 * k) (12 + 8 * j) (entered i sep new pg) pg (entered-after i sep new pg len (omega arith) (omega arith) (12 + 8 * j) (12 + 8 * k) 4 (omega arith) (omega arith) (omega arith))

  -- child k of the 512 is below m, if the new page is, and the old ones that it may be
  module _ (m : ℕ) (fresh : new < m) (few : m ≤ 4294967296) where
    one_below : (k : ℕ) → k ≤ 511 → (k ≤ i → child_at pg k < m) → (i + 1 < k → child_at pg (k - 1) < m) → child_at (entered i sep new pg) k < m
    one_below k h lo hi =
        ⊎_elim
        (λ (a : k ≤ i). rw (child_before k a) (lo a))
        (λ (a : i < k). ⊎_elim
        (λ (b : k ≤ i + 1). rw (child_new k (omega arith) (omega arith)) fresh)
        (λ (b : i + 1 < k). rw (child_after k (k - 1) (omega arith) (omega arith) (omega arith)) (hi b))
        (le_or_lt k (i + 1)))
        (le_or_lt k i)

    -- ---- the half that stays

    left_child : (k : ℕ) → k < 256 → child_at (left_half i sep new pg) k ≡ child_at (entered i sep new pg) k
    unfolding left_half child_at
    left_child k h =
        made_child 255 k (part 0 2056 (entered i sep new pg)) (omega (arith, length-left i sep new pg len full in₀))
        ∙ le_at-part 4 0 2056 (entered i sep new pg) (12 + 8 * k) (omega arith)
        ∙ ap (le_at 4 (entered i sep new pg)) (omega arith)

    pub left_below : ((k : ℕ) → k < first_moved i → child_at pg k < m) → (k : ℕ) → k < 256 → child_at (left_half i sep new pg) k < m
    left_below old k h =
        rw (left_child k h)
        (⊎_elim
        (λ (a : 255 ≤ i). let f = moved_high i a in one_below k (omega arith) (λ b. old k (omega arith)) (λ b. old (k - 1) (omega arith)))
        (λ (a : i < 255). let f = moved-low i a in one_below k (omega arith) (λ b. old k (omega arith)) (λ b. old (k - 1) (omega arith)))
        (le_or_lt 255 i))

    -- ---- the half that goes, into a page whose bytes are zeros

    module _ (zs : List ℕ) (whole : length zs ≡ 4096) where
      head : length (part 0 12 zs) ≡ 12
      head = length_part 0 12 zs (omega arith)

      right_child : (k : ℕ) → k < 256 → child_at (right_half i sep new pg zs) k ≡ child_at (entered i sep new pg) (256 + k)
      unfolding right_half child_at
      right_child k h =
          let v = entered i sep new pg in
          let x = part 0 12 zs ++ part 2060 2044 v in
          let l : length x ≡ 2056 = rw (length-append, head, length-right i sep new pg len full in₀) in
          made_child 255 k x (omega arith)
          ∙ le_at-same 4 (12 + 8 * k) (8 * k) x (part 2060 2044 v) (part_right (8 * k) 4 (12 + 8 * k) (part 0 12 zs) (part 2060 2044 v) (omega (arith, head)))
          ∙ le_at-part 4 2060 2044 v (8 * k) (omega arith)
          ∙ ap (le_at 4 v) (omega arith)

      pub right-below : ((k : ℕ) → first_moved i ≤ k → k < 511 → child_at pg k < m) → (k : ℕ) → k < 256 → child_at (right_half i sep new pg zs) k < m
      right-below old k h =
          rw (right_child k h)
          (⊎_elim
          (λ (a : 255 ≤ i).
          let f = moved_high i a in
          one_below (256 + k) (omega arith) (λ b. old (256 + k) (omega arith) (omega arith)) (λ b. old (256 + k - 1) (omega arith) (omega arith)))
          (λ (a : i < 255).
          let f = moved-low i a in
          one_below (256 + k) (omega arith) (λ b. old (256 + k) (omega arith) (omega arith)) (λ b. old (256 + k - 1) (omega arith) (omega arith)))
          (le_or_lt 255 i))

-- ---- the halves are pages

module _ (i sep new : ℕ) (pg : List ℕ) (len : length pg ≡ 4096) (full : cell_count pg ≡ 510) (in₀ : i ≤ 510) where
  pub left-long : length (left_half i sep new pg) ≡ 4096
  unfolding left_half
  left-long = rw length-put_at (length-pad 4096 (part 0 2056 (entered i sep new pg)) (omega (arith, length-left i sep new pg len full in₀)))

  pub left-count : cell_count (left_half i sep new pg) ≡ 255
  unfolding left_half
  left-count =
      let x = part 0 2056 (entered i sep new pg) in
      let l : length (pad 4096 x) ≡ 4096 = length-pad 4096 x (omega (arith, length-left i sep new pg len full in₀)) in
      le_at-put_at 2 (pad 4096 x) 6 255 (omega arith) (omega arith)

  pub right-long : (zs : List ℕ) → length zs ≡ 4096 → length (right_half i sep new pg zs) ≡ 4096
  unfolding right_half
  right-long zs h =
      let x = part 0 12 zs ++ part 2060 2044 (entered i sep new pg) in
      let l : length x ≡ 2056 = rw (length-append, length_part 0 12 zs (omega arith), length-right i sep new pg len full in₀) in
      rw length-put_at (length-pad 4096 x (omega arith))
