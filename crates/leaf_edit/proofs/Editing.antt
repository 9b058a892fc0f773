-- The stores of the edits of a leaf page, which together are the page with some bytes of its cells replaced.
-- Assumes nothing.
use Rattle.std.proofs.Common.{Option, Some, None, Ok}
use mathlib.Core.Path.{◌≡◌, refl, sym, ap, ◌∙◌}
use mathlib.Core.List.{List, [], ◌∷◌, ◌++◌, append_assoc}
use Prim.Native.Nat.{ℕ, ◌+◌, ◌-◌, ◌≤◌}
use native.Mathlib.Omega.{arith}
use lib.ListN.{length, length-append, length-replicate}
use borrow.Rule.Slice.PartMut.{mid_of, put_mid}
use Rattle.store.specs.Le.{AreBytes, bytes_le, put_at}
use Rattle.store.specs.Part.{part, put, zeros, pad, spliced}
use Rattle.page.specs.Key.{flip, key_bytes}
use Rattle.row.specs.Read.{cell_at}
use Rattle.row.specs.Write.{stamp_len, pointer_len, stamp_bytes, pointer_bytes, cell_size, head_bytes, cell_bytes}
use Rattle.row.specs.declared.Pointer.{Pointer}
use Rattle.row.specs.declared.Cell.{Cell}
use Rattle.leaf_edit.specs.Steps.Edit.{gapped}
use Rattle.leaf_edit.specs.Edit.{with_stamp}
use Rattle.store.proofs.LeLaws.{length-bytes_le, one_byte}
use Rattle.store.proofs.PartLaws.{length_part, part_add, part-first, part_peel}
use Rattle.store.proofs.PutLaws.{put-part, put_nil, length-put, put_at-put, put-field, put-before, put-after_at, put-end, part-put-below, part-put_above, tail_back, splice-done}
use Rattle.row.proofs.Writing.{length-head, length-stamp}
use Rattle.row.proofs.Exact.{read_is-written, cell_placed}

-- ---- a gap

put-before_at : (a n : ℕ) (x y s : List ℕ) → n ≤ length s → n ≡ a + length x → put a x (put n y s) ≡ put a (x ++ y) s
put-before_at a n x y s h e = rw e (put-before a x y s (omega arith))

-- a body with the bytes from a up to b replaced by x
pub spliced-is : (a b e : ℕ) (x s : List ℕ) → spliced a b e x s ≡ part 0 a s ++ (x ++ part b (e - b) s)
unfolding spliced
spliced-is a b e x s = refl

pub length-gapped : (a b e m : ℕ) (pg : List ℕ) → length pg ≡ 4096 → a ≤ b → b ≤ e → e ≤ 4096 → a + m + (e - b) ≤ 4096 → length (gapped a b e m pg) ≡ 4096
unfolding gapped
length-gapped a b e m pg len h₀ h₁ h₂ h₃ =
    let l : length (part b (e - b) pg) ≡ e - b = length_part b (e - b) pg (omega arith) in
    let t : length (put (a + m) (part b (e - b) pg) pg) ≡ 4096 = length-put (a + m) (part b (e - b) pg) pg (omega arith) ∙ len in
    length-put (a + m + (e - b)) (zeros (4096 - (a + m + (e - b)))) (put (a + m) (part b (e - b) pg) pg) (rw length-replicate (omega arith)) ∙ t

-- what stands before a gap stays
part-gapped : (a b e m : ℕ) (pg : List ℕ) (k n : ℕ) → length pg ≡ 4096 → a ≤ b → b ≤ e → e ≤ 4096 → a + m + (e - b) ≤ 4096 → k + n ≤ a → part k n (gapped a b e m pg) ≡ part k n pg
unfolding gapped
part-gapped a b e m pg k n len h₀ h₁ h₂ h₃ h =
    let t : length (put (a + m) (part b (e - b) pg) pg) ≡ 4096
    = length-put (a + m) (part b (e - b) pg) pg (rw (length_part b (e - b) pg (omega arith)) (omega arith)) ∙ len in
    part-put-below (a + m + (e - b)) (zeros (4096 - (a + m + (e - b)))) (put (a + m) (part b (e - b) pg) pg) (omega arith) k n (omega arith)
    ∙ part-put-below (a + m) (part b (e - b) pg) pg (omega arith) k n (omega arith)

-- a gap that is filled, from before it or from its start
pub gap_filled : (a k b e m : ℕ) (x pg : List ℕ) → length pg ≡ 4096 → a ≤ k → k ≤ b → b ≤ e → e ≤ 4096 → k + m + (e - b) ≤ 4096 → a + length x ≡ k + m
    → put a x (gapped k b e m pg) ≡ pad 4096 (spliced a b e x pg)
unfolding gapped spliced pad
gap_filled a k b e m x pg len h₀ h₁ h₂ h₃ h₄ fits =
    let T = part b (e - b) pg in
    let Z = zeros (4096 - (k + m + (e - b))) in
    let l : length T ≡ e - b = length_part b (e - b) pg (omega arith) in
    let i : k + m + (e - b) ≡ k + m + length T = omega arith in
    let j : length (part 0 a pg ++ (x ++ T)) ≡ k + m + (e - b) = rw (length-append, length-append, length_part 0 a pg (omega arith), l) (omega arith) in
    let z : a + length (x ++ (T ++ Z)) ≡ length pg = rw (length-append, length-append, length-replicate, l) (omega arith) in
    rw (put-after_at (k + m) (k + m + (e - b)) T Z pg (omega arith) i, put-before_at a (k + m) x (T ++ Z) pg (omega arith) (omega arith), put-end a (x ++ (T ++ Z)) pg (omega arith) z, j)
    (simp append_assoc)

-- a gap of nothing: the bytes are out
pub gap_closed : (a b e : ℕ) (pg : List ℕ) → length pg ≡ 4096 → a ≤ b → b ≤ e → e ≤ 4096 → gapped a b e 0 pg ≡ pad 4096 (spliced a b e [] pg)
gap_closed a b e pg len h₀ h₁ h₂ =
    sym (put_nil a (gapped a b e 0 pg)) ∙ gap_filled a a b e 0 [] pg len (omega arith) h₀ h₁ h₂ (omega arith) (omega arith)

-- a cell written into its gap
pub cell_in : (at e m : ℕ) (x pg : List ℕ) {g y : List ℕ} → length pg ≡ 4096 → at ≤ e → e + m ≤ 4096 → length x ≡ m → g ≡ gapped at at e m pg
    → length y ≡ length (mid_of at (length g - at) g) → y ≡ put 0 x (mid_of at (length g - at) g) → put_mid at (length g - at) g y ≡ pad 4096 (spliced at at e x pg)
cell_in at e m x pg {g} {y} len h₀ h₁ lx p l q =
    let lg : length g ≡ 4096 = ap length p ∙ length-gapped at at e m pg len (omega arith) (omega arith) (omega arith) (omega arith) in
    tail_back g y at x (omega arith) l q ∙ rw p (gap_filled at at at e m x pg len (omega arith) (omega arith) h₀ (omega arith) (omega arith) (omega arith))

-- ---- a stamp

-- a store with what stands before it
put-inside : (a k : ℕ) (y s : List ℕ) → a + k + length y ≤ length s → put (a + k) y s ≡ put a (part a k s ++ y) s
put-inside a k y s h =
    let l : length (part a k s) ≡ k = length_part a k s (omega arith) in
    let w : part a k (put (a + k) y s) ≡ part a k s = part-put-below (a + k) y s (omega arith) a k (omega arith) in
    let u : put a (part a k s) (put (a + k) y s) ≡ put (a + k) y s = rw (← w) (put-part a k (put (a + k) y s) (omega (arith, length-put (a + k) y s h))) in
    sym u ∙ put-before_at a (a + k) (part a k s) y s (omega arith) (omega arith)

-- the stores over the head of a live cell that is stamped by d, and with the gap that they fill
abbrev pub head_stored : (at n d : ℕ) → List ℕ → List ℕ
head_stored at n d s = put_at 8 (put_at 1 (put_at 4 s (at + 4) n) (at + 17) 1) (at + 18) d

abbrev pub grown : (at e n d : ℕ) → List ℕ → List ℕ
grown at e n d pg = head_stored at n d (gapped (at + 18) (at + 18) e 8 pg)

module _ (at key creator n₀ : ℕ) (s : List ℕ) where
  head-key : part at 18 s ≡ head_bytes key n₀ creator ++ (0 ∷ []) → part at 4 s ≡ key_bytes key
  unfolding head_bytes
  head-key e =
      let e₁ = part-first at 17 1 (head_bytes key n₀ creator) (0 ∷ []) s (length-head key n₀ creator) e in
      part-first at 4 13 (key_bytes key) (bytes_le 4 n₀ ++ (129 ∷ bytes_le 8 creator)) s (length-bytes_le 4 (flip key)) e₁

  head-creator : part at 18 s ≡ head_bytes key n₀ creator ++ (0 ∷ []) → part (at + 8) 9 s ≡ 129 ∷ bytes_le 8 creator
  unfolding head_bytes
  head-creator e =
      let e₁ = part-first at 17 1 (head_bytes key n₀ creator) (0 ∷ []) s (length-head key n₀ creator) e in
      let e₂ = part_peel at 4 13 (key_bytes key) (bytes_le 4 n₀ ++ (129 ∷ bytes_le 8 creator)) s (length-bytes_le 4 (flip key)) e₁ in
      let e₃ = part_peel (at + 4) 4 9 (bytes_le 4 n₀) (129 ∷ bytes_le 8 creator) s (length-bytes_le 4 n₀) e₂ in
      let i : at + 4 + 4 ≡ at + 8 = omega arith in
      rw i at e₃

  head-stamped : (n d : ℕ) → at + 26 ≤ length s → part at 18 s ≡ head_bytes key n₀ creator ++ (0 ∷ [])
      → head_stored at n d s ≡ put at (head_bytes key n creator ++ stamp_bytes (Some d)) s
  unfolding head_bytes
  head-stamped n d h e =
      let mid : List ℕ = 129 ∷ bytes_le 8 creator in
      let x₁ = key_bytes key ++ bytes_le 4 n in
      let l₁ : length x₁ ≡ 8 = simp (length-append, length-bytes_le) in
      let s₁ = put at x₁ s in
      let ls : length s₁ ≡ length s = length-put at x₁ s (omega arith) in
      let i : at + 17 ≡ at + 8 + 9 = omega arith in
      let x₂ = x₁ ++ (mid ++ bytes_le 1 1) in
      let l₂ : at + 18 ≡ at + length x₂ = simp (length-append, length-bytes_le) in
      let p₁ : put_at 4 s (at + 4) n ≡ s₁
      = put_at-put 4 (at + 4) n s (omega arith) ∙ put-inside at 4 (bytes_le 4 n) s (rw length-bytes_le (omega arith)) ∙ rw (head-key e) in
      let v : part (at + 8) 9 s₁ ≡ mid = part-put_above at x₁ s (omega arith) (at + 8) 9 (omega arith) ∙ head-creator e in
      let p₂ : put_at 1 s₁ (at + 17) 1 ≡ put at x₂ s
      = put_at-put 1 (at + 17) 1 s₁ (omega arith) ∙ rw (i, put-inside (at + 8) 9 (bytes_le 1 1) s₁ (rw length-bytes_le (omega arith)), v) (put-after_at at (at + 8) x₁ (mid ++ bytes_le 1 1) s (omega arith) (omega arith)) in
      rw (p₁, p₂, put-field 8 at (at + 18) d x₂ s l₂ (omega arith), one_byte 1 (omega arith))
      (simp append_assoc (ap (λ (z : List ℕ). put at (key_bytes key ++ (bytes_le 4 n ++ (129 ∷ z))) s) (append_assoc (bytes_le 8 creator) (1 ∷ []) (bytes_le 8 d))))

-- the bytes of a cell, head and stamp, then pointer and data
cell_split : (at key creator : ℕ) (st : Option ℕ) (pt : Option Pointer) (body s : List ℕ) → part at (cell_size st pt (length body)) s ≡ cell_bytes key creator st pt body
    → (part at (17 + stamp_len st) s ≡ head_bytes key (9 + stamp_len st + pointer_len pt + length body) creator ++ stamp_bytes st)
    × (part (at + (17 + stamp_len st)) (pointer_len pt + length body) s ≡ pointer_bytes pt ++ body)
unfolding cell_bytes
cell_split at key creator st pt body s e =
    let n = pointer_len pt + length body in
    let size : 17 + stamp_len st + pointer_len pt + length body ≡ 17 + stamp_len st + n = omega arith in
    let x = head_bytes key (9 + stamp_len st + pointer_len pt + length body) creator ++ stamp_bytes st in
    let l : length x ≡ 17 + stamp_len st = rw (length-append, length-head, length-stamp) in
    let f : part at (17 + stamp_len st + n) s ≡ x ++ (pointer_bytes pt ++ body) = (rw size at e) ∙ simp append_assoc in
    (part-first at (17 + stamp_len st) n x (pointer_bytes pt ++ body) s l f, part_peel at (17 + stamp_len st) n x (pointer_bytes pt ++ body) s l f)

-- bytes that stay as they are, counted to what is replaced
spliced_more : (a b c e : ℕ) (x y s : List ℕ) → b ≤ c → c ≤ e → part b (c - b) s ≡ y → spliced a b e x s ≡ spliced a c e (x ++ y) s
unfolding spliced
spliced_more a b c e x y s h k p =
    let i : e - b ≡ (c - b) + (e - c) = omega arith in
    let j : b + (c - b) ≡ c = omega arith in
    rw (i, part_add b (c - b) (e - c) s, j, p) (simp append_assoc)

module _ (at e key creator d : ℕ) (pt : Option Pointer) (body pg : List ℕ) (len : length pg ≡ 4096) where
  -- head and stamp replaced, of a cell with the stamp st
  whole-cell : (st : Option ℕ) → at + cell_size st pt (length body) ≤ e → part at (cell_size st pt (length body)) pg ≡ cell_bytes key creator st pt body
      → spliced at (at + (17 + stamp_len st)) e (head_bytes key (18 + pointer_len pt + length body) creator ++ stamp_bytes (Some d)) pg
      ≡ spliced at (at + cell_size st pt (length body)) e (cell_bytes key creator (Some d) pt body) pg
  unfolding cell_bytes
  whole-cell st h q =
      let i : at + cell_size st pt (length body) - (at + (17 + stamp_len st)) ≡ pointer_len pt + length body = omega arith in
      let x = head_bytes key (18 + pointer_len pt + length body) creator ++ stamp_bytes (Some d) in
      spliced_more at (at + (17 + stamp_len st)) (at + cell_size st pt (length body)) e x (pointer_bytes pt ++ body) pg (omega arith) h
      (rw i (cell_split at key creator st pt body pg q).1)
      ∙ ap (λ (z : List ℕ). spliced at (at + cell_size st pt (length body)) e z pg) (append_assoc (head_bytes key (18 + pointer_len pt + length body) creator) (stamp_bytes (Some d)) (pointer_bytes pt ++ body))

  -- a live cell grows
  pub stamp-grown : (n : ℕ) → at + cell_size None pt (length body) ≤ e → e + 8 ≤ 4096 → n ≡ 18 + pointer_len pt + length body
      → part at (cell_size None pt (length body)) pg ≡ cell_bytes key creator None pt body
      → grown at e n d pg ≡ pad 4096 (spliced at (at + cell_size None pt (length body)) e (cell_bytes key creator (Some d) pt body) pg)
  stamp-grown n h k i q =
      let g = gapped (at + 18) (at + 18) e 8 pg in
      let lg : length g ≡ 4096 = length-gapped (at + 18) (at + 18) e 8 pg len (omega arith) (omega arith) (omega arith) (omega arith) in
      let x = head_bytes key n creator ++ stamp_bytes (Some d) in
      let lx : length x ≡ 26 = rw (length-append, length-head, length-stamp (Some d)) in
      let same : part at 18 g ≡ part at 18 pg = part-gapped (at + 18) (at + 18) e 8 pg at 18 len (omega arith) (omega arith) (omega arith) (omega arith) (omega arith) in
      head-stamped at key creator (10 + pointer_len pt + length body) g n d (omega arith) (same ∙ (cell_split at key creator None pt body pg q).0)
      ∙ gap_filled at (at + 18) (at + 18) e 8 x pg len (omega arith) (omega arith) (omega arith) (omega arith) (omega arith) (omega arith)
      ∙ rw i (ap (pad 4096) (whole-cell None h q))

  -- a stamp over a stamp
  stamp_kept : (t : ℕ) → at + cell_size (Some t) pt (length body) ≤ e → e ≤ 4096
      → part at (cell_size (Some t) pt (length body)) pg ≡ cell_bytes key creator (Some t) pt body
      → put e (zeros (4096 - e)) (put_at 8 pg (at + 18) d)
      ≡ pad 4096 (spliced at (at + cell_size (Some t) pt (length body)) e (cell_bytes key creator (Some d) pt body) pg)
  stamp_kept t h k q =
      let hd = head_bytes key (18 + pointer_len pt + length body) creator in
      let x = hd ++ stamp_bytes (Some d) in
      let lx : length x ≡ 26 = rw (length-append, length-head, length-stamp (Some d)) in
      let lh : length (hd ++ (1 ∷ [])) ≡ 18 = rw (length-append, length-head) in
      let f : part at (18 + 8) pg ≡ (hd ++ (1 ∷ [])) ++ bytes_le 8 t = (cell_split at key creator (Some t) pt body pg q).0 ∙ simp append_assoc in
      let first : part at 18 pg ≡ hd ++ (1 ∷ []) = part-first at 18 8 (hd ++ (1 ∷ [])) (bytes_le 8 t) pg lh f in
      let stored : put_at 8 pg (at + 18) d ≡ put at x pg
      = put_at-put 8 (at + 18) d pg (omega arith) ∙ put-inside at 18 (bytes_le 8 d) pg (rw length-bytes_le (omega arith)) ∙ rw first (simp append_assoc) in
      let j : at + 26 + (e - (at + 26)) ≡ e = omega arith in
      let still : pg ≡ put (at + length x) (part (at + 26) (e - (at + 26)) pg) pg = sym (rw lx (put-part (at + 26) (e - (at + 26)) pg (omega arith))) in
      let z : put e (zeros (4096 - e)) (put at x pg) ≡ put (at + length x + (e - (at + 26))) (zeros (length pg - (at + length x + (e - (at + 26))))) (put at x pg) = rw (lx, len, j) in
      let done : put e (zeros (4096 - e)) (put at x pg) ≡ pad 4096 (spliced at (at + 26) e x pg)
      = rw len at (z ∙ splice-done pg at (at + 26) e x (omega arith) (omega arith) (omega arith) (omega arith) still refl refl) in
      rw stored (done ∙ ap (pad 4096) (whole-cell (Some t) h q))

-- a cell that is read in the page: where it ends, and its bytes
abbrev pub body_of : Cell → List ℕ → List ℕ
body_of c pg = part c.version.start c.version.len pg

module _ (c : Cell) (pg : List ℕ) (B : AreBytes pg) (got : cell_at pg c.at ≡ Ok c) where
  pub cell-ends : {st : Option ℕ} → c.version.stamp ≡ st → c.next ≡ c.at + cell_size st c.version.pointer (length (body_of c pg))
  cell-ends e =
      let p = cell_placed pg c.at c got in
      rw (← e, length_part c.version.start c.version.len pg (omega arith)) (ap (λ (x : Cell). x.next) (read_is-written pg c.at c B got).place)

  pub cell-bytes : {st : Option ℕ} → c.version.stamp ≡ st
      → part c.at (cell_size st c.version.pointer (length (body_of c pg))) pg ≡ cell_bytes c.key c.version.creator st c.version.pointer (body_of c pg)
  cell-bytes e =
      let p = cell_placed pg c.at c got in
      rw (← e, length_part c.version.start c.version.len pg (omega arith)) (read_is-written pg c.at c B got).bytes

  pub with_stamp-grown : (e d n : ℕ) → length pg ≡ 4096 → c.version.stamp ≡ None → c.next ≤ e → e + 8 ≤ 4096 → n ≡ c.next - c.at
      → grown c.at e n d pg ≡ with_stamp d e c pg
  unfolding with_stamp
  with_stamp-grown e d n len st h k i =
      let u = cell-ends st in
      rw u (stamp-grown c.at e c.key c.version.creator d c.version.pointer (body_of c pg) pg len n (omega arith) k (omega arith) (cell-bytes st))

  pub with_stamp_kept : (e d : ℕ) {t : ℕ} → length pg ≡ 4096 → c.version.stamp ≡ Some t → c.next ≤ e → e ≤ 4096
      → put e (zeros (4096 - e)) (put_at 8 pg (c.at + 18) d) ≡ with_stamp d e c pg
  unfolding with_stamp
  with_stamp_kept e d {t} len st h k =
      let u = cell-ends st in
      rw u (stamp_kept c.at e c.key c.version.creator d c.version.pointer (body_of c pg) pg len t (omega arith) k (cell-bytes st))
