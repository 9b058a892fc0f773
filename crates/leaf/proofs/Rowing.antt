-- Rows and bytes of a leaf, both ways: rows that are written are read back, and the bytes of cells that are read are the
-- rows'; and the judgement said over rows. Assumes nothing.
use Rattle.row.specs.declared.CellFault.{CellFault}
use Rattle.std.proofs.Common.{Result, Ok, Err}
use mathlib.Core.Path.{◌≡◌, refl, ap, ◌∙◌}
use mathlib.Core.List.{List, [], ◌∷◌, ◌++◌, map, append_assoc}
use Prim.Native.Nat.{ℕ, zero, suc, ◌+◌, ◌-◌, ◌≤◌}
use native.Mathlib.Omega.{arith}
use lib.ListN.{length, length-append}
use Rattle.store.specs.Le.{AreBytes}
use Rattle.store.specs.Part.{part}
use Rattle.row.specs.Read.{cell_at}
use Rattle.row.specs.Write.{stamp_len, pointer_len, stamp_bytes, pointer_bytes, head_bytes, cell_size, cell_bytes}
use Rattle.row.specs.declared.Cell.{Cell}
use Rattle.leaf.specs.Cells.{on_cell, cells_of}
use Rattle.leaf.specs.Rows.{Row, AllFit, row_of, rows_of, row_size, row_bytes, rows_bytes}
use Rattle.store.proofs.PartLaws.{part_add, part_peel, part-first}
use Rattle.store.proofs.PutLaws.{part_none}
use Rattle.row.proofs.Writing.{length-head, length-stamp, length-pointer, length-cell, length-row}
use Rattle.row.proofs.Exact.{written-is_read, read_is-written, cell_placed}

-- ---- written, then read

-- the data of a cell that stands at `at`
body-there : (s : List ℕ) (at : ℕ) (r : Row) → part at (row_size r) s ≡ row_bytes r → part (at + (17 + stamp_len r.stamp + pointer_len r.pointer)) (length r.body) s ≡ r.body
unfolding cell_bytes
body-there s at r e =
    let n = length r.body in
    let sl = stamp_len r.stamp in
    let pl = pointer_len r.pointer in
    let size : 17 + sl + pl + n ≡ 17 + (sl + (pl + n)) = omega arith in
    let head = head_bytes r.key (9 + sl + pl + n) r.creator in
    let e₁ = part_peel at 17 (sl + (pl + n)) head (stamp_bytes r.stamp ++ (pointer_bytes r.pointer ++ r.body)) s (length-head r.key (9 + sl + pl + n) r.creator) (rw size at e) in
    let e₂ = part_peel (at + 17) sl (pl + n) (stamp_bytes r.stamp) (pointer_bytes r.pointer ++ r.body) s (length-stamp r.stamp) e₁ in
    let e₃ = part_peel (at + 17 + sl) pl n (pointer_bytes r.pointer) r.body s (length-pointer r.pointer) e₂ in
    let i : at + 17 + sl + pl ≡ at + (17 + sl + pl) = omega arith in
    rw i at e₃

cells-first : (s : List ℕ) (at n : ℕ) (c : Cell) → cell_at s at ≡ Ok c → cells_of s (suc n) at ≡ c ∷ cells_of s n c.next
unfolding cells_of
cells-first s at n c e = rw e

pub rows_cons : (r : Row) (rs : List Row) → rows_bytes (r ∷ rs) ≡ row_bytes r ++ rows_bytes rs
unfolding rows_bytes
rows_cons r rs = refl

pub length-rows : (r : Row) (rs : List Row) → length (rows_bytes (r ∷ rs)) ≡ row_size r + length (rows_bytes rs)
length-rows r rs = rw (rows_cons, length-append, length-cell)

pub rows_append : (xs ys : List Row) → rows_bytes (xs ++ ys) ≡ rows_bytes xs ++ rows_bytes ys
unfolding rows_bytes
rows_append [] ys = refl
rows_append (x ∷ xs) ys = rw (rows_append xs ys) (simp append_assoc)

pub rows_read : (s : List ℕ) (rs : List Row) (at : ℕ) → AllFit rs → at + length (rows_bytes rs) ≤ length s → part at (length (rows_bytes rs)) s ≡ rows_bytes rs
    → rows_of s (length rs) at ≡ rs
unfolding cells_of
rows_read s [] at f h e = refl
rows_read s (r ∷ rs) at f h e =
    let l = length-rows r rs in
    let q : part at (row_size r + length (rows_bytes rs)) s ≡ row_bytes r ++ rows_bytes rs = rw l at (e ∙ rows_cons r rs) in
    let lb = length-row r in
    let q₁ = part-first at (row_size r) (length (rows_bytes rs)) (row_bytes r) (rows_bytes rs) s lb q in
    let q₂ = part_peel at (row_size r) (length (rows_bytes rs)) (row_bytes r) (rows_bytes rs) s lb q in
    let g = written-is_read s at r.key r.creator r.stamp r.pointer r.body f.0.key f.0.creator f.0.stamp f.0.pointer f.0.body (omega arith) q₁ in
    rw (cells-first s at (length rs) _ g, body-there s at r q₁, rows_read s rs (at + row_size r) f.1 (omega arith) q₂)

-- ---- read, then written

-- past the last cell
unfoldable pub end_of : ℕ → List Cell → ℕ
end_of at [] = at
end_of at (c ∷ cs) = end_of c.next cs

end-bound : (s : List ℕ) (n at : ℕ) → at ≤ end_of at (cells_of s n at)
unfolding end_of cells_of
end-bound s zero at = omega arith
end-bound s (suc n) at = by_read (cell_at s at) refl (λ c. end-bound s n c.next)
  where
    by_read : (r : Result Cell CellFault) → cell_at s at ≡ r → ((c : Cell) → c.next ≤ end_of c.next (cells_of s n c.next))
        → at ≤ end_of at (on_cell (λ c. c ∷ cells_of s n c.next) (λ kind. []) r)
    by_read (Err kind) e ih = omega arith
    by_read (Ok c) e ih = let p = cell_placed s at c e in omega (arith, ih c, p.past_head, p.whole)

-- the bytes of the cells that are read are the rows'
pub rows-bytes : (s : List ℕ) → AreBytes s → (n at : ℕ) → part at (end_of at (cells_of s n at) - at) s ≡ rows_bytes (rows_of s n at)
unfolding cells_of end_of rows_bytes
rows-bytes s B zero at = part_none at (at - at) s (omega arith)
rows-bytes s B (suc n) at = by_read (cell_at s at) refl (λ c. rows-bytes s B n c.next)
  where
    by_read : (r : Result Cell CellFault) → cell_at s at ≡ r
        → ((c : Cell) → part c.next (end_of c.next (cells_of s n c.next) - c.next) s ≡ rows_bytes (rows_of s n c.next))
        → part at (end_of at (on_cell (λ c. c ∷ cells_of s n c.next) (λ kind. []) r) - at) s ≡ rows_bytes (map (row_of s) (on_cell (λ c. c ∷ cells_of s n c.next) (λ kind. []) r))
    by_read (Err kind) e ih = part_none at (at - at) s (omega arith)
    by_read (Ok c) e ih =
        let p = cell_placed s at c e in
        let w = read_is-written s at c B e in
        let size = cell_size c.version.stamp c.version.pointer c.version.len in
        let next-is : c.next ≡ at + size = ap (λ (x : Cell). x.next) w.place in
        let b = end-bound s n c.next in
        let split : end_of c.next (cells_of s n c.next) - at ≡ size + (end_of c.next (cells_of s n c.next) - c.next) = omega arith in
        rw (split, part_add at size (end_of c.next (cells_of s n c.next) - c.next) s, w.bytes, ← next-is, ih c)
