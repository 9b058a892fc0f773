-- Records and the cells that they hold: the records of cells that stand one after another are as long as the cells and six
-- bytes more for each. Assumes nothing.
use Rattle.row.specs.declared.CellFault.{CellFault}
use Rattle.std.proofs.Common.{Result, Ok, Err}
use mathlib.Core.Path.{◌≡◌, refl, sym, ap, ◌∙◌}
use mathlib.Core.List.{List, [], ◌∷◌, ◌++◌, map, append_assoc}
use Prim.Native.Nat.{ℕ, zero, suc, ◌+◌, ◌-◌, ◌*◌, ◌≤◌}
use native.Mathlib.Omega.{arith}
use lib.ListN.{length, length-append}
use Rattle.store.specs.Le.{AreBytes, le_at, bytes_le}
use Rattle.store.specs.Part.{part, put}
use Rattle.page.specs.Key.{flip, key_bytes}
use Rattle.row.specs.Read.{cell_at}
use Rattle.row.specs.Write.{stamp_len, pointer_len, stamp_bytes, pointer_bytes, cell_size, record_bytes}
use Rattle.row.specs.declared.Cell.{Cell}
use Rattle.leaf.specs.Cells.{on_cell, cells_of}
use Rattle.leaf.specs.Rows.{Row, row_of, rows_of, row_bytes}
use Rattle.list_records.specs.Records.{records}
use Rattle.store.proofs.LeLaws.{length-bytes_le}
use Rattle.store.proofs.PartLaws.{length_part, part_peel, le_at-first}
use Rattle.store.proofs.PutLaws.{put-after_at}
use Rattle.row.proofs.Writing.{stamp_len_lem, pointer_len_lem, length-record}
use Rattle.row.proofs.Exact.{cell_flat, read_is-written, cell_placed}
use Rattle.leaf.proofs.Rowing.{end_of}
use Rattle.leaf.proofs.Chain.{Chain}

pub records-append : (xs ys : List Row) → records (xs ++ ys) ≡ records xs ++ records ys
unfolding records
records-append [] ys = refl
records-append (x ∷ xs) ys = rw (records-append xs ys) (simp append_assoc)

-- ---- one cell

-- a cell that was read at `at`: its length field says where it ends, and its bytes are its row's
pub record CellRecord (s : List ℕ) (at : ℕ) (c : Cell) : Type 0 where
  pub next : c.next ≡ at + 8 + le_at 4 s (at + 4)
  pub bytes : part at (c.next - at) s ≡ row_bytes (row_of s c)
  pub low : at + 19 ≤ c.next
  pub inside : c.next ≤ length s

pub cell-record : (s : List ℕ) (at : ℕ) (c : Cell) → AreBytes s → cell_at s at ≡ Ok c → CellRecord s at c
cell-record s at c B e =
    let w = read_is-written s at c B e in
    let p = cell_placed s at c e in
    let st = c.version.stamp in
    let pt = c.version.pointer in
    let n = c.version.len in
    let body = part c.version.start n s in
    let lb : length body ≡ n = length_part c.version.start n s (omega arith) in
    let a₁ = stamp_len_lem st in
    let a₂ = pointer_len_lem pt in
    let next-is : c.next ≡ at + cell_size st pt n = ap (λ (x : Cell). x.next) w.place in
    let size : c.next - at ≡ cell_size st pt n = omega arith in
    let four : cell_size st pt n ≡ 4 + (13 + stamp_len st + pointer_len pt + n) = omega arith in
    let len = 9 + stamp_len st + pointer_len pt + length body in
    let r₂ = bytes_le 1 129 ++ (bytes_le 8 c.version.creator ++ (stamp_bytes st ++ (pointer_bytes pt ++ body))) in
    let e₀ : part at (4 + (13 + stamp_len st + pointer_len pt + n)) s ≡ key_bytes c.key ++ (bytes_le 4 len ++ r₂) = rw four at (w.bytes ∙ cell_flat c.key c.version.creator st pt body) in
    let e₁ = part_peel at 4 (13 + stamp_len st + pointer_len pt + n) (key_bytes c.key) (bytes_le 4 len ++ r₂) s (length-bytes_le 4 (flip c.key)) e₀ in
    let there : le_at 4 s (at + 4) ≡ len = le_at-first 4 (at + 4) _ len r₂ s (omega arith) (omega (arith, w.few)) e₁ in
    record { next = omega arith; bytes = rw size w.bytes; low = omega arith; inside = p.inside }

-- ---- cells one after another

module _ (s : List ℕ) (B : AreBytes s) where
  pub chain-records : (at : ℕ) (cs : List Cell) → Chain s at cs → length (records (map (row_of s) cs)) + at ≡ end_of at cs + 6 * length cs
  unfolding records end_of
  chain-records at [] h = omega arith
  chain-records at (c ∷ cs) h =
      let r = cell-record s at c B h.0 in
      let l : length (row_bytes (row_of s c)) ≡ c.next - at = sym (ap length r.bytes) ∙ length_part at (c.next - at) s (omega (arith, r.low, r.inside)) in
      omega (arith, chain-records c.next cs h.1, length-append (record_bytes 1 (row_bytes (row_of s c))) (records (map (row_of s) cs)), length-record 1 (row_bytes (row_of s c)), r.low)

-- ---- n cells that are all there, one by one

pub record FirstCell (s : List ℕ) (n m at next : ℕ) : Type 0 where
  pub low : at + 19 ≤ next
  pub inside : next ≤ length s
  pub count : length (cells_of s m next) ≡ m
  pub rest : records (rows_of s n at) ≡ record_bytes 1 (part at (next - at) s) ++ records (rows_of s m next)
  pub width : length (part at (next - at) s) ≡ next - at
  pub size : length (record_bytes 1 (part at (next - at) s)) ≡ 6 + (next - at)
  pub long : length (records (rows_of s n at)) ≡ 6 + (next - at) + length (records (rows_of s m next))

pub first_cell : (s : List ℕ) → AreBytes s → (n m at : ℕ) {k : ℕ} → n ≡ suc m → length (cells_of s n at) ≡ n → k ≡ le_at 4 s (at + 4) → FirstCell s n m at (at + 8 + k)
unfolding cells_of records
first_cell s B n m at z h q = rw (q, z) (by_read (cell_at s at) refl (rw z at h))
  where
    by_read : (r : Result Cell CellFault) → cell_at s at ≡ r → length (on_cell (λ c. c ∷ cells_of s m c.next) (λ kind. []) r) ≡ suc m → FirstCell s (suc m) m at (at + 8 + le_at 4 s (at + 4))
    by_read (Err kind) e l = absurd (omega arith)
    by_read (Ok c) e l =
        let r = cell-record s at c B e in
        let width = length_part at (c.next - at) s (omega (arith, r.low, r.inside)) in
        let rest : records (rows_of s (suc m) at) ≡ record_bytes 1 (part at (c.next - at) s) ++ records (rows_of s m c.next) = rw (e, r.bytes) in
        let size : length (record_bytes 1 (part at (c.next - at) s)) ≡ 6 + (c.next - at) = length-record 1 (part at (c.next - at) s) ∙ rw width in
        rw (← r.next)
        (record {
          low = r.low;
          inside = r.inside;
          count = omega arith;
          rest = rest;
          width = width;
          size = size;
          long = ap length rest ∙ (length-append (record_bytes 1 (part at (c.next - at) s)) (records (rows_of s m c.next)) ∙ rw size);
        })

pub no_cells : (s : List ℕ) (n at : ℕ) → n ≤ 0 → records (rows_of s n at) ≡ []
unfolding cells_of records
no_cells s zero at h = refl
no_cells s (suc n) at h = absurd (omega arith)

-- one record more is stored
pub record_more : (to to' : ℕ) (x y out : List ℕ) {out' all : List ℕ} → to ≤ length out → to' ≡ to + length x → out' ≡ put to x out → all ≡ x ++ y → put to' y out' ≡ put to all out
record_more to to' x y out h l e q = rw (e, q) (put-after_at to to' x y out h l)
