-- The theorems of specs/Facts.antt: what the edits make, read as lists of keys and children, is what section 5 says.
-- Assumes nothing.
use mathlib.Core.Path.{◌≡◌, refl, sym, ap, ◌∙◌}
use mathlib.Core.List.{List, [], ◌++◌, append-nil}
use Prim.Native.Nat.{ℕ, ◌+◌, ◌-◌, ◌*◌, ◌≤◌, ◌<◌}
use native.Mathlib.Nat.{zero-add}
use native.Mathlib.Omega.{arith}
use borrow.Author.Tests.{le-leb, le-ltb}
use lib.ListN.{length, take, drop, get_or, length-append, length-replicate}
use Rattle.store.specs.Le.{le_at, bytes_le, put_at}
use Rattle.store.specs.Part.{part, pad, zeros}
use Rattle.page.specs.Header.{cell_count, with_count, with_is_root}
use Rattle.page.specs.Key.{flip, key_bytes}
use Rattle.inner.specs.Inner.{key_at, child_at, keys_from, keys_of, children_from, children_of}
use Rattle.inner.specs.Route.{first_where}
use Rattle.inner_edit.specs.Edit.{entered, with_entry, left_half, middle_key, right_half, top_page}
use Rattle.inner_edit.specs.Facts.{insert_at, EntryEnters, HalvesDivide, TopHasTwo, EqualParts}
use Rattle.store.proofs.LeLaws.{length-bytes_le, length-put_at, le_at-put_at, le_at-put_at-below, le_at-put_at_above}
use Rattle.store.proofs.PartLaws.{length_part, le_at-part, le_at-same, le_at-first, part_peel}
use Rattle.store.proofs.SeamLaws.{part_right, length-pad, part-pad}
use Rattle.page.proofs.KeyLaws.{flip-flip, flip_less}
use Rattle.inner_edit.proofs.Editing.{length-entered, entered-before, entered-pair, entered-after}
use Rattle.inner_edit.proofs.Dividing.{length-left, length-right}
use Rattle.inner_edit.proofs.Lists.{keys_read, children_read, read_ext, read_take, read_drop, read_at, read_insert}

-- ---- a page whose bytes are x, then zeros

module _ (count : ℕ) (x : List ℕ) (fits : length x ≤ 4096) where
  made_count : count < 65536 → cell_count (with_count count (pad 4096 x)) ≡ count
  made_count h = le_at-put_at 2 (pad 4096 x) 6 count (omega (arith, length-pad 4096 x fits)) h

  made_field : (a : ℕ) → 8 ≤ a → a + 4 ≤ length x → le_at 4 (with_count count (pad 4096 x)) a ≡ le_at 4 x a
  made_field a h l = le_at-put_at_above 4 2 (pad 4096 x) 6 count a h ∙ le_at-same 4 a a (pad 4096 x) x (part-pad 4096 a 4 x l)

-- it has the keys and children of v from the j-th on, if its fields from 12 on are those of v
module _ (count j : ℕ) (x v : List ℕ) (whole : length x ≡ 16 + 8 * count) (fits : length x ≤ 4096)
    (same : (b : ℕ) → 12 ≤ b → b + 4 ≤ length x → le_at 4 x b ≡ le_at 4 v (b + 8 * j)) where
  made_keys : keys_of (with_count count (pad 4096 x)) ≡ keys_from v j count
  unfolding key_at
  made_keys =
      rw (made_count count x fits (omega arith), keys_read count 0 (with_count count (pad 4096 x)), keys_read count j v)
      (read_ext (key_at (with_count count (pad 4096 x))) (key_at v) count 0 j (λ k l.
      let e : 16 + 8 * (0 + k) + 8 * j ≡ 16 + 8 * (j + k) = omega arith in
      ap flip (made_field count x fits (16 + 8 * (0 + k)) (omega arith) (omega arith) ∙ same (16 + 8 * (0 + k)) (omega arith) (omega arith) ∙ ap (le_at 4 v) e)))

  made_children : children_of (with_count count (pad 4096 x)) ≡ children_from v j (count + 1)
  unfolding child_at
  made_children =
      rw (made_count count x fits (omega arith), children_read (count + 1) 0 (with_count count (pad 4096 x)), children_read (count + 1) j v)
      (read_ext (child_at (with_count count (pad 4096 x))) (child_at v) (count + 1) 0 j (λ k l.
      let e : 12 + 8 * (0 + k) + 8 * j ≡ 12 + 8 * (j + k) = omega arith in
      made_field count x fits (12 + 8 * (0 + k)) (omega arith) (omega arith) ∙ same (12 + 8 * (0 + k)) (omega arith) (omega arith) ∙ ap (le_at 4 v) e))

-- ---- the page with a pair entered, as lists

module _ (i sep child : ℕ) (pg : List ℕ) (len : length pg ≡ 4096) (few : cell_count pg ≤ 510) (in₀ : i ≤ cell_count pg) where
  pub entered_keys : sep < 4294967296 → keys_from (entered i sep child pg) 0 (cell_count pg + 1) ≡ insert_at i sep (keys_of pg)
  unfolding key_at
  entered_keys fits =
      let v = entered i sep child pg in
      rw (keys_read (cell_count pg + 1) 0 v, keys_read (cell_count pg) 0 pg)
      (read_insert (key_at pg) (key_at v) (cell_count pg) i sep in₀
      (λ k l. ap flip (le_at-same 4 (16 + 8 * k) (16 + 8 * k) v pg (entered-before i sep child pg len few in₀ (16 + 8 * k) 4 (omega arith))))
      (ap flip (le_at-first 4 (16 + 8 * i) 8 (flip sep) (bytes_le 4 child) v (omega arith) (flip_less sep) (entered-pair i sep child pg len few in₀ (16 + 8 * i) refl)) ∙ flip-flip sep fits)
      (λ k l m. ap flip (le_at-same 4 (16 + 8 * (k + 1)) (16 + 8 * k) v pg (entered-after i sep child pg len few in₀ (16 + 8 * k) (16 + 8 * (k + 1)) 4 (omega arith) (omega arith) (omega arith)))))

  pub entered-children : child < 4294967296 → children_from (entered i sep child pg) 0 (cell_count pg + 1 + 1) ≡ insert_at (i + 1) child (children_of pg)
  unfolding child_at
  entered-children fits =
      let v = entered i sep child pg in
      let e : 12 + 8 * (i + 1) ≡ 16 + 8 * i + 4 = omega arith in
      let here : part (16 + 8 * i + 4) 4 v ≡ bytes_le 4 child =
      part_peel (16 + 8 * i) 4 4 (key_bytes sep) (bytes_le 4 child) v (length-bytes_le 4 (flip sep)) (entered-pair i sep child pg len few in₀ (16 + 8 * i) refl) in
      rw (children_read (cell_count pg + 1 + 1) 0 v, children_read (cell_count pg + 1) 0 pg)
      (read_insert (child_at pg) (child_at v) (cell_count pg + 1) (i + 1) child (omega arith)
      (λ k l. le_at-same 4 (12 + 8 * k) (12 + 8 * k) v pg (entered-before i sep child pg len few in₀ (12 + 8 * k) 4 (omega arith)))
      (rw e (le_at-first 4 (16 + 8 * i + 4) 4 child [] v (omega arith) fits (here ∙ sym (append-nil (bytes_le 4 child)))))
      (λ k l m. le_at-same 4 (12 + 8 * (k + 1)) (12 + 8 * k) v pg (entered-after i sep child pg len few in₀ (12 + 8 * k) (12 + 8 * (k + 1)) 4 (omega arith) (omega arith) (omega arith))))

pub entry_enters : EntryEnters
unfolding with_entry
entry_enters pg i sep child is s c h few =
    let v = entered i sep child pg in
    let len : length v ≡ 24 + 8 * cell_count pg = length-entered i sep child pg is.1 (omega arith) h in
    let same : (b : ℕ) → 12 ≤ b → b + 4 ≤ length v → le_at 4 v b ≡ le_at 4 v (b + 8 * 0) = λ b l m. let e : b ≡ b + 8 * 0 = omega arith in ap (le_at 4 v) e in (
      made_keys (cell_count pg + 1) 0 v v (omega arith) (omega arith) same ∙ entered_keys i sep child pg is.1 (omega arith) h s,
      made_children (cell_count pg + 1) 0 v v (omega arith) (omega arith) same ∙ entered-children i sep child pg is.1 (omega arith) h c,
      made_field (cell_count pg + 1) v (omega arith) 8 (omega arith) (omega arith) ∙ le_at-same 4 8 8 v pg (entered-before i sep child pg is.1 (omega arith) h 8 4 (omega arith)),
    )

-- ---- the halves

module _ (i sep child : ℕ) (pg fresh : List ℕ) (len : length pg ≡ 4096) (full : cell_count pg ≡ 510) (in₀ : i ≤ 510) (new : length fresh ≡ 4096) where
  -- the bytes of the two halves
  abbrev left-bytes : List ℕ
  left-bytes = part 0 2056 (entered i sep child pg)

  abbrev right-bytes : List ℕ
  right-bytes = part 0 12 fresh ++ part 2060 2044 (entered i sep child pg)

  in_left : length left-bytes ≡ 2056
  in_left = length-left i sep child pg len full in₀

  in_head : length (part 0 12 fresh) ≡ 12
  in_head = length_part 0 12 fresh (omega arith)

  in_right : length right-bytes ≡ 2056
  in_right = rw (length-append, in_head, length-right i sep child pg len full in₀)

  -- the fields of the left half are those of the 511 keys, and those of the right half stand 2048 bytes further on
  left-field : (b : ℕ) → 12 ≤ b → b + 4 ≤ length left-bytes → le_at 4 left-bytes b ≡ le_at 4 (entered i sep child pg) (b + 8 * 0)
  left-field b h l =
      let e : 0 + b ≡ b + 8 * 0 = omega arith in
      le_at-part 4 0 2056 (entered i sep child pg) b (omega (arith, in_left)) ∙ ap (le_at 4 (entered i sep child pg)) e

  right-field : (b : ℕ) → 12 ≤ b → b + 4 ≤ length right-bytes → le_at 4 right-bytes b ≡ le_at 4 (entered i sep child pg) (b + 8 * 256)
  right-field b h l =
      let v = entered i sep child pg in
      let e : 2060 + (b - 12) ≡ b + 8 * 256 = omega arith in
      le_at-same 4 b (b - 12) right-bytes (part 2060 2044 v) (part_right (b - 12) 4 b (part 0 12 fresh) (part 2060 2044 v) (omega (arith, in_head)))
      ∙ le_at-part 4 2060 2044 v (b - 12) (omega (arith, in_right))
      ∙ ap (le_at 4 v) e

  left_keys : keys_of (left_half i sep child pg) ≡ keys_from (entered i sep child pg) 0 255
  unfolding left_half
  left_keys = made_keys 255 0 left-bytes (entered i sep child pg) in_left (omega (arith, in_left)) left-field

  left-children : children_of (left_half i sep child pg) ≡ children_from (entered i sep child pg) 0 256
  unfolding left_half
  left-children = made_children 255 0 left-bytes (entered i sep child pg) in_left (omega (arith, in_left)) left-field

  right_keys : keys_of (right_half i sep child pg fresh) ≡ keys_from (entered i sep child pg) 256 255
  unfolding right_half
  right_keys = made_keys 255 256 right-bytes (entered i sep child pg) in_right (omega (arith, in_right)) right-field

  right-children : children_of (right_half i sep child pg fresh) ≡ children_from (entered i sep child pg) 256 256
  unfolding right_half
  right-children = made_children 255 256 right-bytes (entered i sep child pg) in_right (omega (arith, in_right)) right-field

-- the lists of a page, taken apart
module _ (n m r : ℕ) (v : List ℕ) (split : n ≡ m + r) where
  keys_take : keys_from v 0 m ≡ take m (keys_from v 0 n)
  keys_take = rw (keys_read n 0 v, keys_read m 0 v) (sym (read_take (key_at v) n m r 0 split))

  keys_drop : keys_from v m r ≡ drop m (keys_from v 0 n)
  keys_drop = rw (keys_read n 0 v, keys_read r m v) (sym (rw zero-add at (read_drop (key_at v) n m r 0 split)))

  children-take : children_from v 0 m ≡ take m (children_from v 0 n)
  children-take = rw (children_read n 0 v, children_read m 0 v) (sym (read_take (child_at v) n m r 0 split))

  children-drop : children_from v m r ≡ drop m (children_from v 0 n)
  children-drop = rw (children_read n 0 v, children_read r m v) (sym (rw zero-add at (read_drop (child_at v) n m r 0 split)))

middle_at : (n i sep child : ℕ) (pg : List ℕ) → 255 < n → middle_key i sep child pg ≡ get_or (keys_from (entered i sep child pg) 0 n) 255 0
unfolding middle_key key_at
middle_at n i sep child pg h = rw (keys_read n 0 (entered i sep child pg)) (sym (read_at (key_at (entered i sep child pg)) n 255 0 h))

pub halves_divide : HalvesDivide
halves_divide pg i sep child is s c h full =
    let v = entered i sep child pg in
    let n = cell_count pg + 1 in
    let new : length (zeros 4096) ≡ 4096 = length-replicate {A = ℕ} 4096 0 in
    let keys = entered_keys i sep child pg is.1 (omega arith) (omega arith) s in
    let children = entered-children i sep child pg is.1 (omega arith) (omega arith) c in (
      left_keys i sep child pg (zeros 4096) is.1 full h new ∙ keys_take n 255 256 v (omega arith) ∙ ap (take 255) keys,
      middle_at n i sep child pg (omega arith) ∙ ap (λ (l : List ℕ). get_or l 255 0) keys,
      right_keys i sep child pg (zeros 4096) is.1 full h new ∙ keys_drop n 256 255 v (omega arith) ∙ ap (drop 256) keys,
      left-children i sep child pg (zeros 4096) is.1 full h new ∙ children-take (n + 1) 256 256 v (omega arith) ∙ ap (take 256) children,
      right-children i sep child pg (zeros 4096) is.1 full h new ∙ children-drop (n + 1) 256 256 v (omega arith) ∙ ap (drop 256) children,
    )

-- ---- the new top

module _ (left sep right : ℕ) (z : List ℕ) (len : length z ≡ 4096) where
  abbrev with_count_lem : List ℕ
  with_count_lem = with_count 1 (with_is_root 1 z)

  abbrev with_left : List ℕ
  with_left = put_at 4 with_count_lem 12 left

  abbrev with_sep : List ℕ
  with_sep = put_at 4 with_left 16 (flip sep)

  length_sep : length with_sep ≡ 4096
  length_sep = rw (length-put_at, length-put_at, length-put_at, length-put_at) len

  top_count : cell_count (top_page left sep right z) ≡ 1
  unfolding top_page
  top_count =
      le_at-put_at-below 2 4 with_sep 20 right 6 (omega arith)
      ∙ le_at-put_at-below 2 4 with_left 16 (flip sep) 6 (omega arith)
      ∙ le_at-put_at-below 2 4 with_count_lem 12 left 6 (omega arith)
      ∙ le_at-put_at 2 (with_is_root 1 z) 6 1 (rw length-put_at (omega arith)) (omega arith)

  top_key : sep < 4294967296 → key_at (top_page left sep right z) 0 ≡ sep
  unfolding top_page key_at
  top_key s =
      ap flip (le_at-put_at-below 4 4 with_sep 20 right 16 (omega arith) ∙ le_at-put_at 4 with_left 16 (flip sep) (rw (length-put_at, length-put_at, length-put_at) (omega arith)) (flip_less sep))
      ∙ flip-flip sep s

  top_left : left < 4294967296 → child_at (top_page left sep right z) 0 ≡ left
  unfolding top_page child_at
  top_left l =
      le_at-put_at-below 4 4 with_sep 20 right 12 (omega arith)
      ∙ le_at-put_at-below 4 4 with_left 16 (flip sep) 12 (omega arith)
      ∙ le_at-put_at 4 with_count_lem 12 left (rw (length-put_at, length-put_at) (omega arith)) l

  top_right : right < 4294967296 → child_at (top_page left sep right z) 1 ≡ right
  unfolding top_page child_at
  top_right r = le_at-put_at 4 with_sep 20 right (omega (arith, length_sep)) r

pub top_has_two : TopHasTwo
unfolding keys_from children_from
top_has_two left sep right l s r =
    let z = zeros 4096 in
    let len : length (zeros 4096) ≡ 4096 = length-replicate {A = ℕ} 4096 0 in
    (rw (top_count left sep right z len, top_key left sep right z len s), rw (top_count left sep right z len, top_left left sep right z len l, top_right left sep right z len r))

-- ---- routes

pub equal_parts : EqualParts
unfolding first_where
equal_parts key ks = (rw (le-leb key key (omega arith)), rw (le-ltb key key (omega arith)) (omega arith))
