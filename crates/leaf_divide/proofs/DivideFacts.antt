-- A leaf divided said over rows: proof of the statement of specs/DivideFacts. Assumes nothing.
use mathlib.Core.Path.{◌≡◌, refl}
use mathlib.Core.List.{List, [], ◌++◌}
use Prim.Native.Nat.{ℕ, ◌+◌, ◌-◌}
use native.Mathlib.Omega.{arith}
use lib.ListN.{length, length-append}
use Rattle.store.specs.Part.{part, zeros}
use Rattle.page.specs.Header.{with_node_type, with_next_leaf}
use Rattle.leaf.specs.Rows.{Row, rows_bytes, write_rows}
use Rattle.leaf.specs.declared.place.Cut.{Cut}
use Rattle.leaf_divide.specs.Divide.{left_leaf, right_leaf}
use Rattle.leaf_divide.specs.DivideFacts.{DivideDivides}
use Rattle.store.proofs.PartLaws.{part_add}
use Rattle.store.proofs.SeamLaws.{part_left, part_right, part-whole}
use Rattle.leaf.proofs.Rowing.{rows_append}
use Rattle.leaf.proofs.RowFacts.{head-length}

-- both sides, of a leaf that begins as pg
module _ (pg : List ℕ) (left right : List Row) (len : length pg ≡ 4096) where
  abbrev all : List ℕ
  all = part 0 12 pg ++ rows_bytes (left ++ right)

  l12 : length (part 0 12 pg) ≡ 12
  l12 = head-length pg [] len

  left-bytes : part 0 (12 + length (rows_bytes left)) all ≡ part 0 12 pg ++ rows_bytes left
  left-bytes =
      let z : 0 + 12 ≡ 12 = omega arith in
      rw (
        part_add 0 12 (length (rows_bytes left)) all,
        z,
        part_left 0 12 (part 0 12 pg) (rows_bytes (left ++ right)) (omega (arith, l12)),
        part-whole 12 (part 0 12 pg) l12,
        part_right 0 (length (rows_bytes left)) 12 (part 0 12 pg) (rows_bytes (left ++ right)) (omega (arith, l12)),
        rows_append left right,
        part_left 0 (length (rows_bytes left)) (rows_bytes left) (rows_bytes right) (omega arith),
        part-whole (length (rows_bytes left)) (rows_bytes left) refl,
      )

  right-bytes : part (12 + length (rows_bytes left)) (length all - (12 + length (rows_bytes left))) all ≡ rows_bytes right
  right-bytes =
      let n : length all - (12 + length (rows_bytes left)) ≡ length (rows_bytes right) = rw (length-append, rows_append left right, length-append) (omega (arith, l12)) in
      rw (
        n,
        part_right (length (rows_bytes left)) (length (rows_bytes right)) (12 + length (rows_bytes left)) (part 0 12 pg) (rows_bytes (left ++ right)) (omega (arith, l12)),
        rows_append left right,
        part_right 0 (length (rows_bytes right)) (length (rows_bytes left)) (rows_bytes left) (rows_bytes right) (omega arith),
        part-whole (length (rows_bytes right)) (rows_bytes right) refl,
      )

  abbrev cut : Cut
  cut = record { cells = length left; bytes = length (rows_bytes left) }

  left-rows : (q : ℕ) → left_leaf q cut all ≡ with_next_leaf q (write_rows left pg)
  unfolding left_leaf write_rows
  left-rows q = rw left-bytes

  right-rows : (next : ℕ) (fresh : List ℕ) → right_leaf next (length (left ++ right)) cut all fresh ≡ with_next_leaf next (write_rows right (with_node_type 1 fresh))
  unfolding right_leaf write_rows
  right-rows next fresh =
      let n : length (left ++ right) - length left ≡ length right = rw length-append (omega arith) in
      rw (right-bytes, n)

pub divide_divides : DivideDivides
divide_divides pg left right q next len few-left few-right = (left-rows pg left right len q, right-rows pg left right len next (zeros 4096))
