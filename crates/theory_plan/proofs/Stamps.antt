-- A row of a judged leaf stamped: which rows the leaf then holds, and their bytes, where they fit and where they are cut in two.
-- Assumes nothing.
use mathlib.Core.Path.{◌≡◌, refl, sym, ap, ◌∙◌, subst}
use mathlib.Core.Bool.{true, false}
use mathlib.Core.List.{List, [], ◌∷◌, ◌++◌, map, map-append}
use Prim.Native.Nat.{ℕ, ◌+◌, ◌-◌, ◌*◌, ◌≤◌, ◌<◌}
use native.Mathlib.Omega.{arith}
use lib.Dec.{ltb}
use lib.ListN.{length, length-append, length-map}
use borrow.Author.Tests.{ltb-true, ltb-false}
use Rattle.store.specs.Le.{AreBytes}
use Rattle.store.specs.Part.{part}
use Rattle.page.specs.Page.{page}
use Rattle.page.specs.Header.{cell_count}
use Rattle.row.specs.Read.{cell_at}
use Rattle.row.specs.declared.Cell.{Cell}
use Rattle.leaf.specs.Cells.{cells}
use Rattle.leaf.specs.Rows.{Row, RowFits, AllFit, row_of, rows, row_size, rows_bytes, write_rows}
use Rattle.leaf.specs.RowFacts.{Sound}
use Rattle.leaf.specs.CutFacts.{sum}
use Rattle.leaf.specs.Place.{cut_of, cut_leaf, cut_fits}
use Rattle.leaf_edit.specs.Edit.{with_stamp}
use Rattle.leaf_edit.specs.EditFacts.{stamp_row}
use Rattle.tree_stamp.specs.Target.{target_of}
use Rattle.tree_stamp.specs.Steps.Target.{CellMet}
use Rattle.tree_stamp.specs.Stamp.{longer, bytes_stamped, cut_stamped, spliced_stamp}
use Rattle.tree_stamp.specs.declared.Target.{Target}
use Rattle.theory_tree.specs.Shape.{KeysIn, NotAfter, Sorted}
use Rattle.page.proofs.PageLaws.{length-page}
use Rattle.row.proofs.Writing.{stamp_len_lem}
use Rattle.row.proofs.Exact.{cell_placed}
use Rattle.leaf.proofs.Bytes.{bytes-page}
use Rattle.leaf.proofs.Rowing.{end_of, length-rows, rows_append}
use Rattle.leaf.proofs.Chain.{Chain, chain-cells, chain_back, chain-right, split_at}
use Rattle.leaf.proofs.RowFacts.{rows_fill}
use Rattle.leaf.proofs.CutFacts.{stamp_divides}
use Rattle.leaf.proofs.Choosing.{any_page}
use Rattle.leaf_edit.proofs.Editing.{cell-ends}
use Rattle.leaf_edit.proofs.EditFacts.{stamp-spliced, stamp-stamps}
use Rattle.tree_stamp.proofs.Meeting.{chain_front, beside_is}
use Rattle.theory_tree.proofs.Lists.{all_app, all_left, all_right}
use Rattle.theory_plan.proofs.Sides.{row_sizes, sizes_bytes, sizes_between, cell_sizes, fit_left, fit_right, fit_append, RowsCut, rows_cut}

-- the leaf of what a lookup found is sound
pub met_sound : (used p : ℕ) (c : Cell) (s : List ℕ) → AreBytes s → used * 4096 ≤ length s → (m : CellMet used p c s) → Sound (page s p) m.end
met_sound used p c s B room m =
    let low = m.in_use in
    record { bytes = bytes-page p s B; whole = length-page p s (omega arith); judged = any_page p 0 m.end (page s p) m.judged }

-- the rows of the leaf pg, where the cell c, with others before and after it, is stamped by d
abbrev pub stamped_rows : (d : ℕ) → (before : List Cell) → Cell → (after : List Cell) → (pg : List ℕ) → List Row
stamped_rows d before c after pg = map (row_of pg) before ++ (stamp_row d (row_of pg c) ∷ map (row_of pg) after)

-- a stamp moves no row
pub stamp_keys : (lo hi d : ℕ) (xs : List Row) (y : Row) (ys : List Row) → KeysIn lo hi (xs ++ (y ∷ ys)) → KeysIn lo hi (xs ++ (stamp_row d y ∷ ys))
stamp_keys lo hi d [] y ys h = h
stamp_keys lo hi d (x ∷ xs) y ys h = (h.0, stamp_keys x.key hi d xs y ys h.1)

pub stamp_sorted : (d : ℕ) (xs : List Row) (y : Row) (ys : List Row) → Sorted (xs ++ (y ∷ ys)) → Sorted (xs ++ (stamp_row d y ∷ ys))
stamp_sorted d [] y ys h = h
stamp_sorted d (x ∷ xs) y ys h =
    let back = all_right (NotAfter x) xs (y ∷ ys) h.0 in
    (all_app (NotAfter x) xs (stamp_row d y ∷ ys) (all_left (NotAfter x) xs (y ∷ ys) h.0) (back.0, back.1), stamp_sorted d xs y ys h.1)

-- one row in the place of another
other_row : (xs : List Row) (y z : Row) (ys : List Row)
    → length (rows_bytes (xs ++ (z ∷ ys))) + row_size y ≡ length (rows_bytes (xs ++ (y ∷ ys))) + row_size z
other_row xs y z ys =
    rw (rows_append xs (z ∷ ys), rows_append xs (y ∷ ys))
    (omega (arith, length-append (rows_bytes xs) (rows_bytes (z ∷ ys)), length-append (rows_bytes xs) (rows_bytes (y ∷ ys)), length-rows y ys, length-rows z ys))

module _ (pg : List ℕ) (e p d : ℕ) (before after : List Cell) (c : Cell) (sound : Sound pg e) (among : cells pg ≡ before ++ (c ∷ after))
    (fits : d < 18446744073709551616) where
  abbrev target : Target
  target = target_of pg p c

  abbrev stamped : List Row
  stamped = stamped_rows d before c after pg

  pub old_rows : rows pg ≡ map (row_of pg) before ++ (row_of pg c ∷ map (row_of pg) after)
  old_rows = ap (map (row_of pg)) among ∙ map-append (row_of pg) before (c ∷ after)

  pub stamp_beside : target.beside ≡ record { before = length before; end = e }
  stamp_beside = beside_is pg (omega (arith, sound.whole)) 0 e sound.judged before c after among

  pub stamp-count : cell_count pg ≡ length stamped
  stamp-count =
      let front = map (row_of pg) before in
      let back = map (row_of pg) after in
      let n : cell_count pg ≡ length (front ++ (row_of pg c ∷ back)) = sym (rows_fill pg e sound).1 ∙ ap length old_rows in
      n ∙ rw (length-append front (row_of pg c ∷ back), length-append front (stamp_row d (row_of pg c) ∷ back))

  pub stamp_all_fit : AllFit stamped
  stamp_all_fit =
      let all : AllFit (map (row_of pg) before ++ (row_of pg c ∷ map (row_of pg) after)) = rw old_rows at (rows_fill pg e sound).2 in
      let back = fit_right (map (row_of pg) before) (row_of pg c ∷ map (row_of pg) after) all in
      let this : RowFits (row_of pg c) = back.0 in
      fit_append (map (row_of pg) before) (stamp_row d (row_of pg c) ∷ map (row_of pg) after) (fit_left (map (row_of pg) before) (row_of pg c ∷ map (row_of pg) after) all)
      (record { key = this.key; creator = this.creator; stamp = fits; pointer = this.pointer; body = this.body }, back.1)

  pub stamp-size : bytes_stamped target ≡ length (rows_bytes stamped)
  stamp-size =
      let n : 12 + length (rows_bytes (map (row_of pg) before ++ (row_of pg c ∷ map (row_of pg) after))) ≡ e = rw old_rows at (rows_fill pg e sound).0 in
      rw stamp_beside
      (omega (arith, other_row (map (row_of pg) before) (row_of pg c) (stamp_row d (row_of pg c)) (map (row_of pg) after), stamp_len_lem c.version.stamp))

  pub stamp-spliced-is : spliced_stamp d target pg ≡ part 0 12 pg ++ rows_bytes stamped
  stamp-spliced-is = rw stamp_beside (stamp-spliced pg e d before after c sound among)

  -- it is not overfull
  pub stamp-fits-bytes : ltb 4084 (bytes_stamped target) ≡ false → (with_stamp d target.beside.end c pg ≡ write_rows stamped pg) × (length (rows_bytes stamped) ≤ 4084)
  stamp-fits-bytes o =
      let few : bytes_stamped target ≤ 4084 = ltb-false 4084 (bytes_stamped target) o in
      let few' : e - 12 + longer c ≤ 4084 = rw stamp_beside at few in (
        rw stamp_beside (stamp-stamps pg e d before after c sound among (omega (arith, stamp_len_lem c.version.stamp))),
        omega (arith, stamp-size),
      )

  -- ---- it is, and is cut

  all_chain : Chain pg 12 (before ++ (c ∷ after))
  all_chain = subst (Chain pg 12) among (chain-cells pg (cell_count pg) 12)

  first-chain : Chain pg 12 before
  first-chain = chain_front pg 12 before (c ∷ after) all_chain

  rest-chain : Chain pg (end_of 12 before) (c ∷ after)
  rest-chain = chain-right pg 12 before (c ∷ after) all_chain

  this_size : c.next - c.at + longer c ≡ row_size (stamp_row d (row_of pg c))
  this_size =
      let here = (cell_placed pg (end_of 12 before) c rest-chain.0).here in
      let ends = cell-ends c pg sound.bytes (ap (cell_at pg) here ∙ rest-chain.0) {st = c.version.stamp} refl in
      omega (arith, stamp_len_lem c.version.stamp)

  after-count : cell_count pg - (length before + 1) ≡ length after
  after-count =
      let n = length-append (map (row_of pg) before) (stamp_row d (row_of pg c) ∷ map (row_of pg) after) in
      omega (arith, stamp-count, length-map before (row_of pg), length-map after (row_of pg))

  cut_is : cut_stamped pg target ≡ cut_of (bytes_stamped target) (row_sizes stamped)
  unfolding cut_leaf
  cut_is =
      let first-sizes = cell_sizes pg sound.bytes 12 before first-chain in
      let rest-sizes = cell_sizes pg sound.bytes c.next after rest-chain.1 in
      rw (stamp_beside, after-count, chain_back pg 12 before first-chain, chain_back pg c.next after rest-chain.1, this_size, map-append, first-sizes, rest-sizes)

  -- a stamp is never Undividable
  pub stamp_cuts : ltb 4084 (bytes_stamped target) ≡ true → cut_fits (bytes_stamped target) (cut_stamped pg target) ≡ true
  stamp_cuts o =
      let over = ltb-true 4084 (bytes_stamped target) o in
      let sizes : bytes_stamped target ≡ sum (row_sizes stamped) = stamp-size ∙ sym (sizes_bytes stamped) in
      let within : e ≤ 4096 = (split_at pg e before (c ∷ after) sound among).within in
      let few : bytes_stamped target ≤ 4092 = rw stamp_beside (omega (arith, stamp_len_lem c.version.stamp)) in
      rw (cut_is, sizes) (stamp_divides (row_sizes stamped) (sizes_between stamped stamp_all_fit) (omega arith) (omega arith))

  pub stamp_cut : ltb 4084 (bytes_stamped target) ≡ true → RowsCut stamped (cut_stamped pg target)
  stamp_cut o = rows_cut stamped (bytes_stamped target) (cut_stamped pg target) stamp_all_fit stamp-size (ltb-true 4084 (bytes_stamped target) o) cut_is (stamp_cuts o)
