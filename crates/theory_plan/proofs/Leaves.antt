-- A new row put into a judged leaf: which rows it then holds, and their bytes, where they fit and where they are cut in two.
-- Assumes nothing.
use mathlib.Core.Path.{◌≡◌, refl, sym, ap, ◌∙◌}
use mathlib.Core.Bool.{Bool, true, false}
use mathlib.Core.List.{List, [], ◌∷◌, ◌++◌, map, map-append}
use mathlib.Core.Logic.{⊎_elim}
use Prim.Native.Nat.{ℕ, zero, suc, ◌+◌, ◌≤◌, ◌<◌}
use native.Mathlib.Omega.{arith}
use lib.Dec.{ltb}
use lib.ListN.{length, length-map}
use lib.Seq.{take_at, drop_at}
use borrow.Author.Tests.{lt-ltb, le-ltb, le-leb, lt-leb, eq-eqb, ne_eqb, ltb-true, ltb-false}
use Rattle.store.specs.Part.{part}
use Rattle.page.specs.Page.{page}
use Rattle.page.specs.Header.{cell_count}
use Rattle.row.specs.declared.Cell.{Cell}
use Rattle.leaf.specs.Cells.{cells, fold_cells, in_order}
use Rattle.leaf.specs.Rows.{Row, RowFits, AllFit, row_of, rows, row_size, row_bytes, rows_bytes, write_rows}
use Rattle.leaf.specs.Place.{place_step, place_of, cut_of, cut_leaf, cut_fits}
use Rattle.leaf.specs.declared.place.Place.{Place}
use Rattle.leaf_edit.specs.Edit.{with_cell}
use Rattle.leaf_edit.specs.EditFacts.{insert_row}
use Rattle.tree_insert.specs.Insert.{bytes_with, cut_with, spliced_at}
use Rattle.tree_insert.specs.declared.Spot.{Spot}
use Rattle.theory_tree.specs.View.{view}
use Rattle.theory_tree.specs.Shape.{leaf, All, KeysIn, NotAfter, Sorted, WellFormed}
use Rattle.store.proofs.PartLaws.{le_or_lt}
use Rattle.leaf.proofs.Rowing.{length-rows}
use Rattle.leaf.proofs.RowFacts.{rows_fill}
use Rattle.leaf_edit.proofs.EditFacts.{insert-spliced, insert-inserts, length-insert}
use Rattle.tree_insert.proofs.Spotting.{SpotIs}
use Rattle.tree_insert.proofs.Cutting.{Sides, sides}
use Rattle.theory_tree.proofs.Workers.{after}
use Rattle.theory_tree.proofs.Contexts.{top_key, Ctx, plug, lo_c, hi_c, par_c, nxt_c, place}
use Rattle.theory_tree.proofs.Says.{LeafSays, leaf_says}
use Rattle.theory_tree.proofs.Lists.{all_map}
use Rattle.theory_tree.proofs.Zip.{unplug_bnd, unplug_rep}
use Rattle.theory_tree.proofs.Place.{Past, after_true, after_false, past_on}
use Rattle.theory_plan.proofs.Sides.{row_sizes, cell_sizes, RowsCut, rows_cut}

-- ---- the leaf of a well-formed tree

pub leaf_held : (s : List ℕ) (root used : ℕ) (c : Ctx) (p : ℕ) (rs : List Row) → WellFormed (view s) root used (plug c (leaf p rs))
    → LeafSays (page s p) (par_c 0 c) (nxt_c 0 c) rs × KeysIn (lo_c 0 c) (hi_c top_key c) rs × Sorted rs
unfolding view
leaf_held s root used c p rs f =
    let b = (unplug_bnd 0 top_key c (leaf p rs) f.bounds).1 in
    (leaf_says (page s p) (unplug_rep (view s) 0 0 c (leaf p rs) f.rep).1, b.0, b.1)

-- ---- the place among the rows

-- the order of the cells is that of the rows
not_before : (r y : Row) → NotAfter y r → in_order y.key y.creator r.key r.creator ≡ true
unfolding in_order
not_before r y h =
    ⊎_elim
    (λ (g : r.key ≤ y.key).
    let k : y.key ≡ r.key = omega (arith, h.0) in
    rw (le-ltb y.key r.key g, eq-eqb y.key r.key k, le-leb y.creator r.creator (h.1 k)))
    (λ (g : y.key < r.key). rw (lt-ltb y.key r.key g))
    (le_or_lt r.key y.key)

before_it : (r y : Row) → Past r y → in_order y.key y.creator r.key r.creator ≡ false
unfolding in_order
before_it r y h =
    ⊎_elim
    (λ (g : y.key ≤ r.key).
    let k : y.key ≡ r.key = omega (arith, h.0.0) in
    let other : (y.creator ≡ r.creator → ⊥) =
    λ e. let same : true ≡ false = sym (rw (eq-eqb y.key r.key k, eq-eqb y.creator r.creator e)) ∙ h.1 in
    absurd (let z : ◌≡◌ {A = ℕ} 0 1 = cc in omega arith) in
    ⊎_elim
    (λ (l : y.creator ≤ r.creator). absurd (other (omega (arith, h.0.1 (sym k)))))
    (λ (l : r.creator < y.creator). rw (le-ltb y.key r.key (omega arith), eq-eqb y.key r.key k, lt-leb y.creator r.creator l))
    (le_or_lt y.creator r.creator))
    (λ (g : r.key < y.key). rw (le-ltb y.key r.key (omega arith), ne_eqb y.key r.key (λ e. omega arith)))
    (le_or_lt y.key r.key)

module _ (pg : List ℕ) (r : Row) where
  -- past the last row that is not after r, the place stays
  stays : (here : Place) (cs : List Cell) → All (Past r) (map (row_of pg) cs) → fold_cells (place_step r.key r.creator) here cs ≡ here
  unfolding fold_cells
  stays here [] h = refl
  stays here (c ∷ cs) h = rw (before_it r (row_of pg c) h.0) (stays here cs h.1)

  -- so many cells further it puts r where `place` does
  record PlacedBy (j : ℕ) (x : Place) (rs : List Row) : Type 0 where
    count : ℕ
    there : x.before ≡ j + count
    puts : insert_row count r rs ≡ place r rs

  placed_by : (at j : ℕ) (cs : List Cell) → Sorted (map (row_of pg) cs)
      → PlacedBy j (fold_cells (place_step r.key r.creator) (record { at = at; before = j }) cs) (map (row_of pg) cs)
  unfolding fold_cells
  placed_by at j [] h = record { count = 0; there = omega arith; puts = refl }
  placed_by at j (c ∷ cs) h = by_order (after r (row_of pg c)) refl (placed_by c.next (j + 1) cs h.1)
    where
      y : Row
      y = row_of pg c

      by_order : (b : Bool) → after r y ≡ b
          → PlacedBy (j + 1) (fold_cells (place_step r.key r.creator) (record { at = c.next; before = j + 1 }) cs) (map (row_of pg) cs)
          → PlacedBy j (fold_cells (place_step r.key r.creator) (place_step r.key r.creator (record { at = at; before = j }) c) cs) (map (row_of pg) (c ∷ cs))
      by_order true e p =
          let past = after_true r y e in
          let all : All (Past r) (map (row_of pg) cs) = all_map (NotAfter y) (Past r) (λ z. past_on r y z past) (map (row_of pg) cs) h.0 in
          let same = stays (record { at = at; before = j }) cs all in
          record { count = 0; there = rw (before_it r y past, same) (omega arith); puts = rw e }
      by_order false e p =
          record {
            count = suc p.count;
            there = rw (not_before r y (after_false r y e)) (omega (arith, p.there));
            puts = rw e (ap (λ (l : List Row). y ∷ l) p.puts);
          }

  pub insert-rows : Sorted (rows pg) → insert_row (place_of r.key r.creator (cells pg)).before r (rows pg) ≡ place r (rows pg)
  unfolding place_of
  insert-rows h =
      let p = placed_by 12 0 (cells pg) h in
      let n : (fold_cells (place_step r.key r.creator) (record { at = 12; before = 0 }) (cells pg)).before ≡ p.count = omega (arith, p.there) in
      rw n p.puts

-- ---- what the leaf then holds

bytes-insert : (i : ℕ) (r : Row) (rs : List Row) → length (rows_bytes (insert_row i r rs)) ≡ row_size r + length (rows_bytes rs)
bytes-insert zero r rs = length-rows r rs
bytes-insert (suc i) r [] = length-rows r []
bytes-insert (suc i) r (y ∷ rs) = omega (arith, length-rows y rs, length-rows y (insert_row i r rs), bytes-insert i r rs)

fit_insert : (i : ℕ) (r : Row) (rs : List Row) → RowFits r → AllFit rs → AllFit (insert_row i r rs)
fit_insert zero r rs f g = (f, g)
fit_insert (suc i) r [] f g = (f, tt)
fit_insert (suc i) r (y ∷ rs) f g = (g.0, fit_insert i r rs f g.1)

-- r goes to the spot x, in a page that holds rs
module _ (used : ℕ) (s : List ℕ) (x : Spot) (r : Row) (rs : List Row) (is : SpotIs used r.key r.creator s x) (holds : rows (page s x.leaf) ≡ rs)
    (sorted : Sorted rs) (fit : RowFits r) where
  abbrev pg : List ℕ
  pg = page s x.leaf

  spot_place : x.place ≡ place_of r.key r.creator (cells pg)
  spot_place = is.place ∙ sym is.split.here

  pub insert-place : insert_row x.place.before r rs ≡ place r rs
  insert-place = rw (spot_place, ← holds) (insert-rows pg r (rw holds sorted))

  pub insert-count : cell_count pg + 1 ≡ length (place r rs)
  insert-count =
      let n : length rs ≡ cell_count pg = ap length (sym holds) ∙ (rows_fill pg x.end is.sound).1 in
      rw (← insert-place) (omega (arith, length-insert x.place.before r rs))

  pub insert_all_fit : AllFit (place r rs)
  insert_all_fit = rw (← insert-place) (fit_insert x.place.before r rs fit (rw holds at (rows_fill pg x.end is.sound).2))

  pub insert-size : bytes_with x (row_size r) ≡ length (rows_bytes (place r rs))
  insert-size =
      let e : 12 + length (rows_bytes rs) ≡ x.end = rw holds at (rows_fill pg x.end is.sound).0 in
      rw (← insert-place) (omega (arith, bytes-insert x.place.before r rs))

  pub insert-spliced-is : spliced_at x (row_bytes r) pg ≡ part 0 12 pg ++ rows_bytes (place r rs)
  insert-spliced-is = rw (spot_place, ← holds) (insert-spliced pg x.end r is.sound ∙ rw (insert-rows pg r (rw holds sorted)))

  -- it is not overfull
  pub insert-fits-bytes : ltb 4084 (bytes_with x (row_size r)) ≡ false
      → (with_cell x.place.at x.end (cell_count pg) (row_bytes r) pg ≡ write_rows (place r rs) pg) × (length (rows_bytes (place r rs)) ≤ 4084)
  insert-fits-bytes o =
      let few : bytes_with x (row_size r) ≤ 4084 = ltb-false 4084 (bytes_with x (row_size r)) o in (
        rw (spot_place, ← holds)
            (insert-inserts pg x.end r is.sound fit (omega (arith, is.low, is.inside)) ∙ rw (insert-rows pg r (rw holds sorted))),
        omega (arith, insert-size),
      )

  -- ---- it is, and is cut

  abbrev beside : Sides x pg
  beside = sides used r.key r.creator s x is

  around : place r rs ≡ map (row_of pg) beside.first ++ (r ∷ map (row_of pg) beside.rest)
  around =
      let front = map (row_of pg) beside.first in
      let back = map (row_of pg) beside.rest in
      let whole : rs ≡ front ++ back = sym holds ∙ (ap (map (row_of pg)) beside.whole ∙ map-append (row_of pg) beside.first beside.rest) in
      let n : length front ≡ x.place.before = length-map beside.first (row_of pg) ∙ beside.before in
      sym insert-place ∙ rw (whole, take_at front back x.place.before n, drop_at front back x.place.before n)

  cut_is : cut_with pg x (row_size r) ≡ cut_of (bytes_with x (row_size r)) (row_sizes (place r rs))
  unfolding cut_leaf
  cut_is =
      let first-sizes = cell_sizes pg is.sound.bytes 12 beside.first beside.chain in
      let rest-sizes = cell_sizes pg is.sound.bytes x.place.at beside.rest beside.chain_on in
      rw (around, beside.front, beside.back, first-sizes, rest-sizes, map-append)

  pub insert_cut : ltb 4084 (bytes_with x (row_size r)) ≡ true → cut_fits (bytes_with x (row_size r)) (cut_with pg x (row_size r)) ≡ true
      → RowsCut (place r rs) (cut_with pg x (row_size r))
  insert_cut o cuts =
      rows_cut (place r rs) (bytes_with x (row_size r)) (cut_with pg x (row_size r)) insert_all_fit insert-size (ltb-true 4084 (bytes_with x (row_size r)) o) cut_is cuts
