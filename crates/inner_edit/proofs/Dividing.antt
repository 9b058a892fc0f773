-- Laws of the division: the middle key, the bytes that stay and those that go right, for each of three places of the pair,
-- and the two pages that they make. Assumes nothing.
use mathlib.Core.Path.{◌≡◌, refl, ap, sym, ◌∙◌}
use mathlib.Core.List.{List, ◌++◌, append_assoc}
use Prim.Native.Nat.{ℕ, ◌+◌, ◌-◌, ◌*◌, ◌≤◌, ◌<◌}
use native.Mathlib.Omega.{arith}
use lib.ListN.{length, length-append}
use Rattle.store.specs.Le.{bytes_le, put_at}
use Rattle.store.specs.Part.{part, put, pad}
use Rattle.page.specs.Page.{page, set_page}
use Rattle.page.specs.Header.{cell_count, with_count}
use Rattle.page.specs.Key.{flip, key_bytes}
use Rattle.inner.specs.Inner.{key_at}
use Rattle.inner_edit.specs.Edit.{pair_bytes, entered, left_half, middle_key, right_half}
use Rattle.store.proofs.LeLaws.{length-bytes_le, length-put_at}
use Rattle.store.proofs.PartLaws.{length_part, part_add, part_peel, le_at-first, le_at-same}
use Rattle.store.proofs.PutLaws.{put_at-put, put-part, put-after_at, length-put, part-put, part-put-below, part_thru}
use Rattle.store.proofs.SeamLaws.{length-pad}
use Rattle.page.proofs.KeyLaws.{flip-flip, flip_less}
use Rattle.page.proofs.PageLaws.{length-page, page-set_page, page-set_page-other, set_page-set_page, part-page, put-page}
use Rattle.inner_edit.proofs.Editing.{length-pair, length-entered, entered-before, entered-pair, entered-after}

-- ---- a page with 510 keys and a pair entered

module _ (i sep child : ℕ) (pg : List ℕ) (len : length pg ≡ 4096) (full : cell_count pg ≡ 510) (in₀ : i ≤ 510) where
  few : cell_count pg ≤ 510
  few = omega arith

  in₁ : i ≤ cell_count pg
  in₁ = omega arith

  all : length (entered i sep child pg) ≡ 4104
  all = length-entered i sep child pg len few in₁ ∙ rw full

  before : (b n : ℕ) → b + n ≤ 16 + 8 * i → part b n (entered i sep child pg) ≡ part b n pg
  before = entered-before i sep child pg len few in₁

  pair : (k : ℕ) → k ≡ 16 + 8 * i → part k 8 (entered i sep child pg) ≡ pair_bytes sep child
  pair = entered-pair i sep child pg len few in₁

  after : (j k n : ℕ) → k ≡ j + 8 → 16 + 8 * i ≤ j → j + n ≤ 4096 → part k n (entered i sep child pg) ≡ part j n pg
  after j k n e h l = entered-after i sep child pg len few in₁ j k n e h (omega arith)

  -- ---- the middle key

  pub middle_low : i < 255 → key_at pg 254 ≡ middle_key i sep child pg
  unfolding key_at middle_key
  middle_low h = ap flip (sym (le_at-same 4 2056 2048 (entered i sep child pg) pg (after 2048 2056 4 (omega arith) (omega arith) (omega arith))))

  pub middle_here : i ≡ 255 → sep < 4294967296 → sep ≡ middle_key i sep child pg
  unfolding middle_key
  middle_here h f =
      sym (ap flip (le_at-first 4 2056 8 (flip sep) (bytes_le 4 child) (entered i sep child pg) (omega arith) (flip_less sep) (pair 2056 (omega arith))) ∙ flip-flip sep f)

  pub middle_high : 255 < i → key_at pg 255 ≡ middle_key i sep child pg
  unfolding key_at middle_key
  middle_high h = ap flip (sym (le_at-same 4 2056 2056 (entered i sep child pg) pg (before 2056 4 (omega arith))))

  -- ---- bytes 2060 to 4104 go right

  pub length-right : length (part 2060 2044 (entered i sep child pg)) ≡ 2044
  length-right = length_part 2060 2044 (entered i sep child pg) (omega (arith, all))

  right-low : i < 255 → part 2060 2044 (entered i sep child pg) ≡ part 2052 2044 pg
  right-low h = after 2052 2060 2044 (omega arith) (omega arith) (omega arith)

  right-here : i ≡ 255 → part 2060 2044 (entered i sep child pg) ≡ bytes_le 4 child ++ part 2056 2040 pg
  right-here h =
      part_add 2060 4 2040 (entered i sep child pg)
      ∙ rw (part_peel 2056 4 4 (key_bytes sep) (bytes_le 4 child) (entered i sep child pg) (length-bytes_le 4 (flip sep)) (pair 2056 (omega arith)), after 2056 2064 2040 (omega arith) (omega arith) (omega arith))

  -- k bytes of the page, the pair, and the rest of the page
  right_high : (k : ℕ) → 2060 + k ≡ 16 + 8 * i → k ≤ 2036
      → part 2060 2044 (entered i sep child pg) ≡ part 2060 k pg ++ (pair_bytes sep child ++ part (2060 + k) (2036 - k) pg)
  right_high k e h =
      let f : 2044 ≡ k + (8 + (2036 - k)) = omega arith in
      rw (
        f,
        part_add 2060 k (8 + (2036 - k)) (entered i sep child pg),
        part_add (2060 + k) 8 (2036 - k) (entered i sep child pg),
        before 2060 k (omega arith),
        pair (2060 + k) e,
        after (2060 + k) (2060 + k + 8) (2036 - k) refl (omega arith) (omega arith),
      )

  -- ---- bytes 0 to 2056 stay

  pub length-left : length (part 0 2056 (entered i sep child pg)) ≡ 2056
  length-left = length_part 0 2056 (entered i sep child pg) (omega (arith, all))

  pub keep-done : i < 255 → put (16 + 8 * i) (pair_bytes sep child ++ part (16 + 8 * i) (2048 - (16 + 8 * i)) pg) pg ≡ put 0 (part 0 2056 (entered i sep child pg)) pg
  keep-done h =
      let a = 16 + 8 * i in
      let Y = pair_bytes sep child ++ part a (2048 - a) pg in
      let f : 2056 ≡ a + (8 + (2048 - a)) = omega arith in
      let g : 0 + a ≡ a = omega arith in
      let v : part 0 2056 (entered i sep child pg) ≡ part 0 a pg ++ Y =
      rw (
        f,
        part_add 0 a (8 + (2048 - a)) (entered i sep child pg),
        g,
        part_add a 8 (2048 - a) (entered i sep child pg),
        before 0 a (omega arith),
        pair a refl,
        after a (a + 8) (2048 - a) refl (omega arith) (omega arith),
      ) in
      let l : a ≡ 0 + length (part 0 a pg) = rw (length_part 0 a pg (omega arith)) (omega arith) in
      sym (rw v (sym (put-after_at 0 a (part 0 a pg) Y pg (omega arith) l)) ∙ ap (put a Y) (put-part 0 a pg (omega arith)))

  pub keep-none : 255 ≤ i → pg ≡ put 0 (part 0 2056 (entered i sep child pg)) pg
  keep-none h = sym (rw (before 0 2056 (omega arith)) (put-part 0 2056 pg (omega arith)))

  pub left-done : {s₁ s₂ : List ℕ} → s₁ ≡ put 0 (part 0 2056 (entered i sep child pg)) pg → s₂ ≡ with_count 255 (pad 4096 (part 0 2056 s₁)) → s₂ ≡ left_half i sep child pg
  unfolding left_half
  left-done p q = q ∙ rw (p, rw length-left at (part-put 0 (part 0 2056 (entered i sep child pg)) pg (omega arith)))

-- ---- from page p to page q of a pool

module _ (p q i sep child : ℕ) (s : List ℕ) (less : p < q) (fits : q * 4096 + 4096 ≤ length s) (in₀ : i ≤ 510) (full : cell_count (page s p) ≡ 510) where
  len_p : length (page s p) ≡ 4096
  len_p = length-page p s (omega arith)

  len_q : length (page s q) ≡ 4096
  len_q = length-page q s fits

  -- the bytes that go right
  abbrev pub carried : List ℕ
  carried = part 2060 2044 (entered i sep child (page s p))

  length_carried : length carried ≡ 2044
  length_carried = length-right i sep child (page s p) len_p full in₀

  pub carry-low : i < 255 → put (q * 4096 + 12) (part (p * 4096 + 2052) 2044 s) s ≡ put (q * 4096 + 12) carried s
  carry-low h = rw (right-low i sep child (page s p) len_p full in₀ h, part-page p 2052 2044 s (omega arith))

  pub carry-here : {s₁ s₂ : List ℕ} → i ≡ 255 → s₁ ≡ put_at 4 s (q * 4096 + 12) child → s₂ ≡ put (q * 4096 + 12 + 4) (part (p * 4096 + 2056) 2040 s₁) s₁
      → s₂ ≡ put (q * 4096 + 12) carried s
  carry-here h e f =
      let to = q * 4096 + 12 in
      let x = bytes_le 4 child in
      let l : to + 4 ≡ to + length x = rw length-bytes_le in
      f
      ∙ rw (
        e,
        put_at-put 4 to child s (omega arith),
        part-put-below to x s (omega arith) (p * 4096 + 2056) 2040 (omega arith),
        put-after_at to (to + 4) x (part (p * 4096 + 2056) 2040 s) s (omega arith) l,
        right-here i sep child (page s p) len_p full in₀ h,
        part-page p 2056 2040 s (omega arith),
      )

  pub carry_high : {s₁ s₂ s₃ : List ℕ} (k : ℕ) → 255 < i → k ≡ 8 * (i - 256) + 4 → s₁ ≡ put (q * 4096 + 12) (part (p * 4096 + 2060) k s) s
      → s₂ ≡ put (q * 4096 + 12 + k) (pair_bytes sep child) s₁ → s₃ ≡ put (q * 4096 + 12 + k + 8) (part (p * 4096 + 2060 + k) (2036 - k) s₂) s₂
      → s₃ ≡ put (q * 4096 + 12) carried s
  carry_high k h is e f g =
      let to = q * 4096 + 12 in
      let A = part (p * 4096 + 2060) k s in
      let B = pair_bytes sep child in
      let la : length A ≡ k = length_part (p * 4096 + 2060) k s (omega arith) in
      let lab : length (A ++ B) ≡ k + 8 = rw (length-append, la, length-pair) in
      let x : to + k ≡ to + length A = rw la in
      let y : to + k + 8 ≡ to + length (A ++ B) = rw lab (omega arith) in
      let z : p * 4096 + 2060 + k ≡ p * 4096 + (2060 + k) = omega arith in
      g
      ∙ rw (
        f,
        e,
        put-after_at to (to + k) A B s (omega arith) x,
        part-put-below to (A ++ B) s (omega arith) (p * 4096 + 2060 + k) (2036 - k) (omega arith),
        put-after_at to (to + k + 8) (A ++ B) (part (p * 4096 + 2060 + k) (2036 - k) s) s (omega arith) y,
        right_high i sep child (page s p) len_p full in₀ k (omega arith) (omega arith),
        z,
        part-page p 2060 k s (omega arith),
        part-page p (2060 + k) (2036 - k) s (omega arith),
      )
      (simp append_assoc)

  -- ---- the two pages

  pub right-done : {s₁ y : List ℕ} → s₁ ≡ put (q * 4096 + 12) carried s → y ≡ with_count 255 (pad 4096 (part 0 2056 (page s₁ q)))
      → set_page q y s₁ ≡ set_page q (right_half i sep child (page s p) (page s q)) s
  unfolding right_half
  right-done {s₁} {y} e f =
      let x = put 12 carried (page s q) in
      let lx : length x ≡ 4096 = length-put 12 carried (page s q) (omega (arith, length_carried, len_q)) ∙ len_q in
      let is : s₁ ≡ set_page q x s = e ∙ put-page q 12 carried s fits (omega (arith, length_carried)) in
      let l : 2056 ≡ 12 + length carried = rw length_carried in
      rw (f, is, page-set_page q x s fits lx, set_page-set_page q x _ s fits lx, part_thru 12 carried (page s q) (omega (arith, len_q)) 2056 l)

  length_half : length (right_half i sep child (page s p) (page s q)) ≡ 4096
  unfolding right_half
  length_half =
      let l : length (part 0 12 (page s q) ++ carried) ≡ 2056 = rw (length-append, length_part 0 12 (page s q) (omega (arith, len_q)), length_carried) in
      rw length-put_at (length-pad 4096 (part 0 12 (page s q) ++ carried) (omega arith))

  -- the right half leaves page p as it was
  pub right_beside : page (set_page q (right_half i sep child (page s p) (page s q)) s) p ≡ page s p
  right_beside = page-set_page-other q (right_half i sep child (page s p) (page s q)) s fits length_half p (λ e. omega arith)

  pub divide-done : {s₁ y : List ℕ} → s₁ ≡ set_page q (right_half i sep child (page s p) (page s q)) s → y ≡ left_half i sep child (page s₁ p)
      → set_page p y s₁ ≡ set_page p (left_half i sep child (page s p)) (set_page q (right_half i sep child (page s p) (page s q)) s)
  divide-done e f = rw (f, e, right_beside)

pub middle_less : (i sep new : ℕ) (pg : List ℕ) → middle_key i sep new pg < 4294967296
unfolding middle_key
middle_less i sep new pg = flip_less _
