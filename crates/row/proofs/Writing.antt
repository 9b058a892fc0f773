-- The sizes of what is written, and the stores of the writer, which together are the cell's bytes. Assumes nothing.
use Rattle.std.proofs.Common.{Option, Some, None}
use mathlib.Core.Path.{◌≡◌, refl, ap, ◌∙◌}
use mathlib.Core.List.{List, [], ◌∷◌, ◌++◌, append_assoc}
use Prim.Native.Nat.{ℕ, ◌+◌, ◌-◌, ◌≤◌}
use native.Mathlib.Omega.{arith}
use lib.ListN.{length, length-append}
use Rattle.store.specs.Le.{bytes_le, put_at}
use Rattle.store.specs.Part.{put}
use Rattle.page.specs.Key.{flip, key_bytes}
use Rattle.row.specs.Write.{stamp_bytes, pointer_bytes, stamp_len, pointer_len, cell_size, head_bytes, cell_bytes, record_bytes}
use Rattle.row.specs.Row.{Row, row_size, row_bytes}
use Rattle.row.specs.declared.Pointer.{Pointer}
use Rattle.store.proofs.LeLaws.{length-bytes_le, one_byte}
use Rattle.store.proofs.PutLaws.{put_at-put, put-field, put-after_at}

-- ---- sizes

pub stamp_len_lem : (st : Option ℕ) → (1 ≤ stamp_len st) × (stamp_len st ≤ 9)
stamp_len_lem None = (omega arith, omega arith)
stamp_len_lem (Some t) = (omega arith, omega arith)

pub pointer_len_lem : (pt : Option Pointer) → (1 ≤ pointer_len pt) × (pointer_len pt ≤ 7)
pointer_len_lem None = (omega arith, omega arith)
pointer_len_lem (Some p) = (omega arith, omega arith)

pub length-stamp : (st : Option ℕ) → length (stamp_bytes st) ≡ stamp_len st
length-stamp None = refl
length-stamp (Some t) = rw length-bytes_le

pub length-pointer : (pt : Option Pointer) → length (pointer_bytes pt) ≡ pointer_len pt
length-pointer None = refl
length-pointer (Some p) = simp (length-append, length-bytes_le)

pub length-head : (key n creator : ℕ) → length (head_bytes key n creator) ≡ 17
unfolding head_bytes
length-head key n creator = simp (length-append, length-bytes_le)

pub length-cell : (key creator : ℕ) (st : Option ℕ) (pt : Option Pointer) (body : List ℕ) → length (cell_bytes key creator st pt body) ≡ cell_size st pt (length body)
unfolding cell_bytes
length-cell key creator st pt body = rw (length-append, length-append, length-append, length-head, length-stamp, length-pointer) (omega arith)

pub length-row : (r : Row) → length (row_bytes r) ≡ row_size r
length-row r = length-cell r.key r.creator r.stamp r.pointer r.body

-- ---- stores

pub head_done : (s : List ℕ) (key n creator : ℕ) → 17 ≤ length s
    → put_at 8 (put_at 1 (put_at 4 (put_at 4 s 0 (flip key)) 4 n) 8 129) 9 creator ≡ put 0 (head_bytes key n creator) s
unfolding head_bytes
head_done s key n creator h =
    let x₁ = key_bytes key in
    let x₂ = x₁ ++ bytes_le 4 n in
    let x₃ = x₂ ++ bytes_le 1 129 in
    let l₁ : 4 ≡ 0 + length x₁ = rw length-bytes_le in
    let l₂ : 8 ≡ 0 + length x₂ = simp (length-append, length-bytes_le) in
    let l₃ : 9 ≡ 0 + length x₃ = simp (length-append, length-bytes_le) in
    rw (
      put_at-put 4 0 (flip key) s (omega arith),
      put-field 4 0 4 n x₁ s l₁ (omega arith),
      put-field 1 0 8 129 x₂ s l₂ (omega arith),
      put-field 8 0 9 creator x₃ s l₃ (omega arith),
      one_byte 129 (omega arith),
    )
    (simp append_assoc)

module _ (s : List ℕ) (i : ℕ) where
  pub stamp-none-done : {st : Option ℕ} → st ≡ None → i + 1 ≤ length s → put_at 1 s i 0 ≡ put i (stamp_bytes st) s
  stamp-none-done e h = rw (e, put_at-put 1 i 0 s h, one_byte 0 (omega arith))

  pub pointer-none-done : {pt : Option Pointer} → pt ≡ None → i + 1 ≤ length s → put_at 1 s i 0 ≡ put i (pointer_bytes pt) s
  pointer-none-done e h = rw (e, put_at-put 1 i 0 s h, one_byte 0 (omega arith))

  pub stamp_by_done : {st : Option ℕ} {t : ℕ} → st ≡ Some t → i + 9 ≤ length s → put_at 8 (put_at 1 s i 1) (i + 1) t ≡ put i (stamp_bytes st) s
  stamp_by_done {st} {t} e h =
      let l : i + 1 ≡ i + length {A = ℕ} (1 ∷ []) = refl in
      rw (e, put_at-put 1 i 1 s (omega arith), one_byte 1 (omega arith), put-field 8 i (i + 1) t (1 ∷ []) s l (omega arith))

  pub pointer_at_done : {pt : Option Pointer} {p t : ℕ} → pt ≡ Some (record { page = p; slot = t }) → i + 7 ≤ length s
      → put_at 2 (put_at 4 (put_at 1 s i 1) (i + 1) p) (i + 5) t ≡ put i (pointer_bytes pt) s
  pointer_at_done {pt} {p} {t} e h =
      let l : i + 1 ≡ i + length {A = ℕ} (1 ∷ []) = refl in
      let k : i + 5 ≡ i + length {A = ℕ} ((1 ∷ []) ++ bytes_le 4 p) = rw length-bytes_le in
      rw (
        e,
        put_at-put 1 i 1 s (omega arith),
        one_byte 1 (omega arith),
        put-field 4 i (i + 1) p (1 ∷ []) s l (omega arith),
        put-field 2 i (i + 5) t ((1 ∷ []) ++ bytes_le 4 p) s k (omega arith),
      )

pub stamp-absent : {st : Option ℕ} → st ≡ None → stamp_len st ≡ 1
stamp-absent e = ap stamp_len e

pub stamp_present : {st : Option ℕ} {t : ℕ} → st ≡ Some t → stamp_len st ≡ 9
stamp_present e = ap stamp_len e

pub pointer-absent : {pt : Option Pointer} → pt ≡ None → pointer_len pt ≡ 1
pointer-absent e = ap pointer_len e

pub pointer_present : {pt : Option Pointer} {p t : ℕ} → pt ≡ Some (record { page = p; slot = t }) → pointer_len pt ≡ 7
pointer_present e = ap pointer_len e

pub cell-done : (s : List ℕ) {s₁ s₂ s₃ s₄ : List ℕ} (key creator : ℕ) (st : Option ℕ) (pt : Option Pointer) (body : List ℕ) {a b : ℕ} → cell_size st pt (length body) ≤ length s
    → a ≡ 17 + stamp_len st → b ≡ a + pointer_len pt → s₁ ≡ put 0 (head_bytes key (b + length body - 8) creator) s → s₂ ≡ put 17 (stamp_bytes st) s₁
    → s₃ ≡ put a (pointer_bytes pt) s₂ → s₄ ≡ put b body s₃ → s₄ ≡ put 0 (cell_bytes key creator st pt body) s
unfolding cell_bytes
cell-done s key creator st pt body {a} {b} h ha hb p₁ p₂ p₃ p₄ =
    let n : b + length body - 8 ≡ 9 + stamp_len st + pointer_len pt + length body = omega arith in
    let x₁ = head_bytes key (9 + stamp_len st + pointer_len pt + length body) creator in
    let x₂ = x₁ ++ stamp_bytes st in
    let x₃ = x₂ ++ pointer_bytes pt in
    let l₁ : 17 ≡ 0 + length x₁ = rw length-head in
    let l₂ : a ≡ 0 + length x₂ = rw (length-append, length-head, length-stamp) (omega arith) in
    let l₃ : b ≡ 0 + length x₃ = rw (length-append, length-append, length-head, length-stamp, length-pointer) (omega arith) in
    p₄
    ∙ rw (p₃, p₂, p₁, n, put-after_at 0 17 x₁ (stamp_bytes st) s (omega arith) l₁, put-after_at 0 a x₂ (pointer_bytes pt) s (omega arith) l₂, put-after_at 0 b x₃ body s (omega arith) l₃)
    (simp append_assoc)

pub length-record : (kind : ℕ) (x : List ℕ) → length (record_bytes kind x) ≡ 6 + length x
unfolding record_bytes
length-record kind x = rw (length-append, length-append, length-bytes_le 4 (2 + length x), length-bytes_le 2 kind) (omega arith)
