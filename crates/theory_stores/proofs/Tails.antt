-- Two lists that are the same from some byte on hold the same cells, rows, keys and children there: why a store to a page's
-- header changes no more of it. Assumes nothing.
use Rattle.row.specs.declared.CellFault.{CellFault}
use Rattle.std.proofs.Common.{Result, Ok, Err}
use mathlib.Core.Path.{◌≡◌, refl, ap₂}
use mathlib.Core.Bool.{Bool, true, false}
use mathlib.Core.List.{List, [], ◌∷◌, map}
use Prim.Native.Nat.{ℕ, zero, suc, ◌+◌, ◌*◌, ◌≤◌}
use native.Mathlib.Omega.{arith}
use lib.ListN.{length, get_or}
use Rattle.store.specs.Le.{le_at, put_at}
use Rattle.page.specs.Header.{cell_count}
use Rattle.row.specs.Read.{stamp_in, pointer_in, pointer_place, data_place, flag_bad, head_fault, data_fault, cell_in, payload_at, cell_at}
use Rattle.row.specs.declared.Cell.{Cell}
use Rattle.leaf.specs.Cells.{on_cell, cells_of}
use Rattle.leaf.specs.Rows.{Row, row_of, rows_of, rows}
use Rattle.inner.specs.Inner.{key_at, child_at}
use Rattle.theory_tree.specs.View.{entries_from, entries_of}
use Rattle.store.proofs.LeLaws.{le_at_ext, length-put_at, get_d-put_at_above}
use Rattle.store.proofs.PartLaws.{part_ext}
use Rattle.row.proofs.Reading.{places}
use Rattle.row.proofs.Exact.{cell_placed}

-- x and y have the same bytes from a on
pub record Tail (a : ℕ) (x y : List ℕ) : Type 0 where
  pub long : length x ≡ length y
  pub each : (k : ℕ) → a ≤ k → get_or x k 0 ≡ get_or y k 0

-- a field of the header
pub tail_field : (w : ℕ) (s : List ℕ) (b v : ℕ) → b + w ≤ 12 → Tail 12 (put_at w s b v) s
tail_field w s b v h = record { long = length-put_at w s b v; each = λ k l. get_d-put_at_above w s b v k (omega arith) }

module _ (a : ℕ) (x y : List ℕ) (same : Tail a x y) where
  tail_number : (w b : ℕ) → a ≤ b → le_at w x b ≡ le_at w y b
  tail_number w b h = le_at_ext w x y b b (λ k l. same.each (b + k) (omega arith))

  -- ---- a cell

  tail_pointer-place : (i : ℕ) → a ≤ i → pointer_place x i ≡ pointer_place y i
  unfolding pointer_place
  tail_pointer-place i h = rw (tail_number 1 (i + 9) (omega arith))

  tail_data_place : (i : ℕ) → a ≤ i → data_place x i ≡ data_place y i
  unfolding data_place
  tail_data_place i h = rw (tail_pointer-place i h, tail_number 1 (pointer_place y i) (omega (arith, (places y i).0)))

  tail_flag : (k m : ℕ) → a ≤ k → flag_bad x k m ≡ flag_bad y k m
  unfolding flag_bad
  tail_flag k m h = rw (tail_number 1 k h)

  tail_head : (i m : ℕ) → a ≤ i → head_fault x i m ≡ head_fault y i m
  unfolding head_fault
  tail_head i m h =
      rw (
        tail_number 1 i h,
        tail_flag (i + 9) m (omega arith),
        tail_pointer-place i h,
        tail_flag (pointer_place y i) m (omega (arith, (places y i).0)),
        tail_data_place i h,
      )

  tail_data : (i m : ℕ) (past : Bool) → a ≤ i → data_fault x i m past ≡ data_fault y i m past
  unfolding data_fault
  tail_data i m past h = rw (tail_data_place i h)

  tail_stamp : (i : ℕ) → a ≤ i → stamp_in x i ≡ stamp_in y i
  unfolding stamp_in
  tail_stamp i h = rw (tail_number 1 i h, tail_number 8 (i + 1) (omega arith))

  tail_pointer : (i : ℕ) → a ≤ i → pointer_in x i ≡ pointer_in y i
  unfolding pointer_in
  tail_pointer i h = rw (tail_number 1 i h, tail_number 4 (i + 1) (omega arith), tail_number 2 (i + 5) (omega arith))

  tail_cell_in : (at m : ℕ) → a ≤ at → cell_in x at m ≡ cell_in y at m
  unfolding cell_in
  tail_cell_in at m h =
      rw (
        tail_number 4 at h,
        tail_number 8 (at + 8 + 1) (omega arith),
        tail_stamp (at + 8 + 9) (omega arith),
        tail_pointer-place (at + 8) (omega arith),
        tail_pointer (pointer_place y (at + 8)) (omega (arith, (places y (at + 8)).0)),
        tail_data_place (at + 8) (omega arith),
      )

  tail_payload : (at m : ℕ) (past : Bool) → a ≤ at → payload_at x at m past ≡ payload_at y at m past
  unfolding payload_at
  tail_payload at m past h = rw (tail_head (at + 8) m (omega arith), tail_data (at + 8) m past (omega arith), tail_cell_in at m h)

  tail_cell : (at : ℕ) → a ≤ at → cell_at x at ≡ cell_at y at
  unfolding cell_at
  tail_cell at h =
      rw (
        same.long,
        tail_number 4 (at + 4) (omega arith),
        tail_payload at (at + 8 + le_at 4 y (at + 4)) false h,
        tail_payload at (length y) true h,
      )

  -- ---- rows

  tail_row : (c : Cell) → a ≤ c.version.start → row_of x c ≡ row_of y c
  tail_row c h = rw (part_ext c.version.start c.version.len x y same.long (λ i l. same.each (c.version.start + i) (omega arith)))

  tail_rows_of : (n at : ℕ) → a ≤ at → rows_of x n at ≡ rows_of y n at
  unfolding cells_of
  tail_rows_of zero at h = refl
  tail_rows_of (suc n) at h = rw (tail_cell at h) (by_read (cell_at y at) refl (λ c l. tail_rows_of n c.next l))
    where
      by_read : (r : Result Cell CellFault) → cell_at y at ≡ r → ((c : Cell) → a ≤ c.next → rows_of x n c.next ≡ rows_of y n c.next)
          → map (row_of x) (on_cell (λ c. c ∷ cells_of x n c.next) (λ kind. []) r) ≡ map (row_of y) (on_cell (λ c. c ∷ cells_of y n c.next) (λ kind. []) r)
      by_read (Err kind) e ih = refl
      by_read (Ok c) e ih =
          let p = cell_placed y at c e in
          ap₂ (λ (r : Row) (l : List Row). r ∷ l) (tail_row c (omega arith)) (ih c (omega arith))

-- ---- a page: its cells, keys and children start at 12

module _ (x y : List ℕ) (same : Tail 12 x y) where
  pub tail_rows : cell_count x ≡ cell_count y → rows x ≡ rows y
  tail_rows e = rw e (tail_rows_of 12 x y same (cell_count y) 12 (omega arith))

  pub tail_child : (i : ℕ) → child_at x i ≡ child_at y i
  unfolding child_at
  tail_child i = tail_number 12 x y same 4 (12 + 8 * i) (omega arith)

  tail_key : (i : ℕ) → key_at x i ≡ key_at y i
  unfolding key_at
  tail_key i = rw (tail_number 12 x y same 4 (16 + 8 * i) (omega arith))

  tail_entries_from : (n i : ℕ) → entries_from x i n ≡ entries_from y i n
  unfolding entries_from
  tail_entries_from zero i = refl
  tail_entries_from (suc n) i = rw (tail_key i, tail_child (i + 1), tail_entries_from n (i + 1))

  pub tail_entries : cell_count x ≡ cell_count y → entries_of x ≡ entries_of y
  tail_entries e = rw e (tail_entries_from (cell_count y) 0)
