-- The facts of specs/RowFacts: the rows of a leaf that is written, and of one that was judged. Assumes nothing.
use mathlib.Core.Path.{◌≡◌, refl, sym, ap, ◌∙◌}
use mathlib.Core.List.{List, [], ◌∷◌, ◌++◌, append-nil}
use Prim.Native.Nat.{ℕ, ◌+◌, ◌≤◌}
use native.Mathlib.Omega.{arith}
use lib.ListN.{length, length-append, length-map}
use Rattle.store.specs.Le.{AreBytes, bytes_le}
use Rattle.store.specs.Part.{part, pad}
use Rattle.page.specs.Header.{cell_count, with_count}
use Rattle.leaf.specs.Cells.{cells}
use Rattle.leaf.specs.Rows.{Row, row_of, rows, rows_bytes, write_rows}
use Rattle.leaf.specs.RowFacts.{RowsAreRead, RowsFill}
use Rattle.store.proofs.PartLaws.{length_part, le_at-same, part-part, part_bytes}
use Rattle.store.proofs.PutLaws.{put_at-put, put-part, part-put_above}
use Rattle.store.proofs.LeLaws.{length-bytes_le, length-put_at, le_at-put_at, le_at-put_at-below, le_at-put_at_above}
use Rattle.store.proofs.SeamLaws.{part_left, part_right, part-whole, length-pad, part-pad}
use Rattle.leaf.proofs.Rowing.{length-rows, rows_read}
use Rattle.leaf.proofs.Chain.{chain-cells, chain_fits, judged-leaf, split_at}

pub rows_few : (rs : List Row) → length rs ≤ length (rows_bytes rs)
unfolding rows_bytes
rows_few [] = omega arith
rows_few (r ∷ rs) = omega (arith, length-rows r rs, rows_few rs)

module _ (pg x : List ℕ) (len : length pg ≡ 4096) where
  pub head-length : length (part 0 12 pg) ≡ 12
  head-length = length_part 0 12 pg (omega arith)

  -- the header's bytes are the page's
  head_kept : (k n : ℕ) → k + n ≤ 12 → part k n (pad 4096 (part 0 12 pg ++ x)) ≡ part k n pg
  head_kept k n h =
      let z : 0 + k ≡ k = omega arith in
      part-pad 4096 k n (part 0 12 pg ++ x) (rw length-append (omega (arith, head-length)))
      ∙ (part_left k n (part 0 12 pg) x (omega (arith, head-length)) ∙ rw z at (part-part 0 12 k n pg h))

  body-there : part 12 (length x) (pad 4096 (part 0 12 pg ++ x)) ≡ x
  body-there =
      part-pad 4096 12 (length x) (part 0 12 pg ++ x) (rw length-append (omega (arith, head-length)))
      ∙ (part_right 0 (length x) 12 (part 0 12 pg) x (omega (arith, head-length)) ∙ part-whole (length x) x refl)

  body-long : 12 ≤ length (pad 4096 (part 0 12 pg ++ x))
  unfolding pad
  body-long = rw (length-append, length-append, head-length) (omega arith)

  -- the count that was there already
  pub count_kept : (n : ℕ) → AreBytes pg → cell_count pg ≡ n → with_count n (pad 4096 (part 0 12 pg ++ x)) ≡ pad 4096 (part 0 12 pg ++ x)
  count_kept n B e =
      let y = pad 4096 (part 0 12 pg ++ x) in
      rw (put_at-put 2 6 n y (omega (arith, body-long)), ← e, ← part_bytes 2 6 pg B (omega arith), ← head_kept 6 2 (omega arith)) (put-part 6 2 y (omega (arith, body-long)))

pub rows_are_read : RowsAreRead
unfolding write_rows
rows_are_read rs pg len fit h =
    let x = rows_bytes rs in
    let y = pad 4096 (part 0 12 pg ++ x) in
    let ly : length y ≡ 4096 = length-pad 4096 (part 0 12 pg ++ x) (rw length-append (omega (arith, head-length pg x len))) in
    let w = with_count (length rs) y in
    let lw : length w ≡ 4096 = length-put_at 2 y 6 (length rs) ∙ ly in
    let count : cell_count w ≡ length rs = le_at-put_at 2 y 6 (length rs) (omega arith) (omega (arith, rows_few rs)) in
    let there : part 12 (length x) w ≡ x
    = rw (put_at-put 2 6 (length rs) y (omega arith), part-put_above 6 (bytes_le 2 (length rs)) y (omega arith) 12 (length x) (rw length-bytes_le (omega arith))) (body-there pg x len) in (
      rw count (rows_read w rs 12 fit (omega arith) there),
      le_at-put_at-below 1 2 y 6 (length rs) 0 (omega arith) ∙ le_at-same 1 0 0 y pg (head_kept pg x len 0 1 (omega arith)),
      le_at-put_at_above 4 2 y 6 (length rs) 8 (omega arith) ∙ le_at-same 4 8 8 y pg (head_kept pg x len 8 4 (omega arith)),
    )

pub rows_fill : RowsFill
rows_fill pg e sound =
    let there = judged-leaf 0 pg e sound.judged in
    let s = split_at pg e (cells pg) [] sound (sym (append-nil (cells pg))) in
    let n : length (part 0 12 pg ++ rows_bytes (rows pg)) ≡ e = sym (ap length s.front) ∙ (rw there.end (length_part 0 e pg (omega (arith, s.within, sound.whole)))) in (
      omega (arith, simp length-append at n, head-length pg [] sound.whole),
      length-map (cells pg) (row_of pg) ∙ there.count,
      chain_fits pg sound.bytes 12 (cells pg) (chain-cells pg (cell_count pg) 12),
    )
