-- Laws of the edits: the page with a pair entered, part by part, and the stores of each edit, which together are what its
-- contract says. Assumes nothing.
use mathlib.Core.Path.{◌≡◌, ◌∙◌}
use mathlib.Core.List.{List, ◌++◌}
use Prim.Native.Nat.{ℕ, suc, ◌+◌, ◌-◌, ◌*◌, ◌≤◌, ◌<◌}
use native.Mathlib.Omega.{arith}
use lib.ListN.{length, length-append}
use Rattle.store.specs.Le.{put_at}
use Rattle.store.specs.Part.{part, put, zeros, pad, spliced}
use Rattle.page.specs.Page.{page, set_page}
use Rattle.page.specs.Header.{cell_count, with_count, with_parent}
use Rattle.page.specs.Key.{flip, key_bytes}
use Rattle.inner.specs.Inner.{child_at}
use Rattle.inner_edit.specs.Edit.{pair_bytes, entered, with_entry, adopted}
use Rattle.inner_edit.specs.Steps.Edit.{AdoptSafe}
use Rattle.store.proofs.LeLaws.{length-bytes_le}
use Rattle.store.proofs.PartLaws.{length_part}
use Rattle.store.proofs.PutLaws.{put_at-put, put-field, put-before, part_thru, length-spliced}
use Rattle.store.proofs.SeamLaws.{spliced-before, spliced-new, spliced-after, put-zeros}

pub length-pair : (sep child : ℕ) → length (pair_bytes sep child) ≡ 8
length-pair sep child = simp (length-append, length-bytes_le)

-- ---- the page with a pair entered, part by part

module _ (i sep child : ℕ) (pg : List ℕ) (len : length pg ≡ 4096) (few : cell_count pg ≤ 510) (in₀ : i ≤ cell_count pg) where
  pub length-entered : length (entered i sep child pg) ≡ 24 + 8 * cell_count pg
  unfolding entered
  length-entered =
      length-spliced (16 + 8 * i) (16 + 8 * i) (16 + 8 * cell_count pg) (pair_bytes sep child) pg (omega arith) (omega arith) (omega arith)
      ∙ rw length-pair (omega arith)

  pub entered-before : (b n : ℕ) → b + n ≤ 16 + 8 * i → part b n (entered i sep child pg) ≡ part b n pg
  unfolding entered
  entered-before = spliced-before (16 + 8 * i) (16 + 8 * i) (16 + 8 * cell_count pg) (pair_bytes sep child) pg (omega arith) (omega arith) (omega arith)

  pub entered-pair : (k : ℕ) → k ≡ 16 + 8 * i → part k 8 (entered i sep child pg) ≡ pair_bytes sep child
  unfolding entered
  entered-pair k e =
      spliced-new (16 + 8 * i) (16 + 8 * i) (16 + 8 * cell_count pg) (pair_bytes sep child) pg (omega arith) (omega arith) (omega arith) k 8 e (length-pair sep child)

  -- what stood at j stands at k
  pub entered-after : (j k n : ℕ) → k ≡ j + 8 → 16 + 8 * i ≤ j → j + n ≤ 16 + 8 * cell_count pg → part k n (entered i sep child pg) ≡ part j n pg
  unfolding entered
  entered-after j k n e h l =
      spliced-after (16 + 8 * i) (16 + 8 * i) (16 + 8 * cell_count pg) (pair_bytes sep child) pg (omega arith) (omega arith) (omega arith) j k n h l
      (omega (arith, length-pair sep child))

-- ---- stores

pub pair-done : (s : List ℕ) (a sep child : ℕ) → a + 8 ≤ length s → put_at 4 (put_at 4 s a (flip sep)) (a + 4) child ≡ put a (pair_bytes sep child) s
pair-done s a sep child h =
    let l : a + 4 ≡ a + length (key_bytes sep) = rw length-bytes_le in
    rw (put_at-put 4 a (flip sep) s (omega arith), put-field 4 a (a + 4) child (key_bytes sep) s l (omega arith))

pub open_done : (s : List ℕ) {s₁ s₂ : List ℕ} (a e sep child : ℕ) → a ≤ e → e + 8 ≤ length s
    → s₁ ≡ put (a + 8) (part a (e - a) s) s → s₂ ≡ put a (pair_bytes sep child) s₁ → s₂ ≡ put a (pair_bytes sep child ++ part a (e - a) s) s
open_done s a e sep child h l p q =
    let f : a + 8 ≡ a + length (pair_bytes sep child) = rw length-pair in
    q ∙ rw (p, f) (put-before a (pair_bytes sep child) (part a (e - a) s) s (rw length-pair (omega arith)))

pub finish-done : (s : List ℕ) {s₁ s₂ : List ℕ} (end count : ℕ) → length s ≡ 4096 → end ≤ 4096 → s₁ ≡ put end (zeros (4096 - end)) s → s₂ ≡ with_count count s₁
    → s₂ ≡ with_count count (pad 4096 (part 0 end s))
finish-done s end count len h p q = q ∙ rw (p, put-zeros 4096 end s len h)

pub enter-done : (s : List ℕ) {s₁ s₂ : List ℕ} (i n sep child : ℕ) → length s ≡ 4096 → n ≡ cell_count s → i ≤ n → n < 510
    → s₁ ≡ put (16 + 8 * i) (pair_bytes sep child ++ part (16 + 8 * i) (16 + 8 * n - (16 + 8 * i)) s) s
    → s₂ ≡ with_count (n + 1) (pad 4096 (part 0 (16 + 8 * n + 8) s₁)) → s₂ ≡ with_entry i sep child s
unfolding with_entry entered spliced
enter-done s i n sep child len count h few p q =
    let a = 16 + 8 * i in
    let T = part a (16 + 8 * n - a) s in
    let l : length T ≡ 16 + 8 * n - a = length_part a (16 + 8 * n - a) s (omega arith) in
    let e : 16 + 8 * n + 8 ≡ a + length (pair_bytes sep child ++ T) = rw (length-append, length-pair, l) (omega arith) in
    q ∙ rw (p, part_thru a (pair_bytes sep child ++ T) s (omega arith) (16 + 8 * n + 8) e, ← count)

-- ---- parent links: a turn of the loop, and its end

-- c is child k, and t the pool with its parent set
module _ (n m k p q : ℕ) (s : List ℕ) {pg : List ℕ} {c : ℕ} (more : n ≡ suc m) (of : pg ≡ page s p) (child : c ≡ child_at pg k) where
  pub adopt-here : AdoptSafe n k p q s → c * 4096 + 4096 ≤ length s
  unfolding AdoptSafe
  adopt-here h = rw (child, of) (rw more at h).0

  pub adopt_safe : {t : List ℕ} → t ≡ set_page c (with_parent q (page s c)) s → AdoptSafe n k p q s → AdoptSafe m (k + 1) p q t
  unfolding AdoptSafe
  adopt_safe e h = rw (e, child, of) (rw more at h).1

  pub adopt-turn : {t : List ℕ} → t ≡ set_page c (with_parent q (page s c)) s → adopted m (k + 1) p q t ≡ adopted n k p q s
  unfolding adopted
  adopt-turn e = rw (more, e, child, of)

pub adopt-end : (n k p q : ℕ) (s : List ℕ) → n ≡ 0 → s ≡ adopted n k p q s
unfolding adopted
adopt-end n k p q s e = rw e
