-- Rows that are more than a leaf holds, cut in two: the cut is between two rows, and both sides fit a page. Assumes nothing.
use mathlib.Core.Path.{◌≡◌, refl, sym, ap, ◌∙◌, subst}
use mathlib.Core.Bool.{true}
use mathlib.Core.List.{List, [], ◌∷◌, ◌++◌, map}
use Prim.Native.Nat.{ℕ, zero, suc, ◌+◌, ◌-◌, ◌≤◌, ◌<◌}
use native.Mathlib.Omega.{arith}
use lib.ListN.{length, take, drop, length-append, length-map, length-drop, take-append-drop}
use lib.Seq.{length-take-le}
use Rattle.store.specs.Le.{AreBytes}
use Rattle.row.specs.Read.{cell_at}
use Rattle.row.specs.declared.Cell.{Cell}
use Rattle.leaf.specs.Rows.{Row, AllFit, row_of, row_size, rows_bytes}
use Rattle.leaf.specs.Place.{cut_of, sizes_of, cut_fits}
use Rattle.leaf.specs.CutFacts.{sum, Between, BestCut}
use Rattle.leaf.specs.declared.place.Cut.{Cut}
use Rattle.row.proofs.Exact.{cell_placed}
use Rattle.leaf.proofs.Rowing.{length-rows, rows_append}
use Rattle.leaf.proofs.Chain.{Chain}
use Rattle.leaf.proofs.CutFacts.{cut_is-best, fits-is}
use Rattle.leaf_edit.proofs.Editing.{cell-ends}
use Rattle.tree_insert.proofs.Storing.{cell-size}

-- ---- sizes

abbrev pub row_sizes : List Row → List ℕ
row_sizes rs = map (λ (r : Row). row_size r) rs

pub sizes_bytes : (rs : List Row) → sum (row_sizes rs) ≡ length (rows_bytes rs)
unfolding rows_bytes
sizes_bytes [] = refl
sizes_bytes (r ∷ rs) = omega (arith, length-rows r rs, sizes_bytes rs)

pub sizes_between : (rs : List Row) → AllFit rs → Between 19 4084 (row_sizes rs)
sizes_between [] f = tt
sizes_between (r ∷ rs) f =
    let b = cell-size r.stamp r.pointer (length r.body) f.0.body in
    (b.0, b.1, sizes_between rs f.1)

-- cells that stand one after another are as long as their rows
pub cell_sizes : (pg : List ℕ) → AreBytes pg → (at : ℕ) (cs : List Cell) → Chain pg at cs → sizes_of cs ≡ row_sizes (map (row_of pg) cs)
cell_sizes pg B at [] h = refl
cell_sizes pg B at (c ∷ cs) h =
    let here = (cell_placed pg at c h.0).here in
    let ends = cell-ends c pg B (ap (cell_at pg) here ∙ h.0) {st = c.version.stamp} refl in
    let size : c.next - c.at ≡ row_size (row_of pg c) = omega arith in
    rw (size, cell_sizes pg B c.next cs h.1)

sizes_take : (i : ℕ) (rs : List Row) → take i (row_sizes rs) ≡ row_sizes (take i rs)
sizes_take zero rs = refl
sizes_take (suc i) [] = refl
sizes_take (suc i) (r ∷ rs) = ap (λ (l : List ℕ). row_size r ∷ l) (sizes_take i rs)

some_each : (xs : List ℕ) → Between 19 4084 xs → Between 1 4084 xs
some_each [] b = tt
some_each (x ∷ xs) b = (omega arith, b.1, some_each xs b.2)

-- one row alone is never too much
two-rows : (xs : List ℕ) → Between 19 4084 xs → 4084 < sum xs → 2 ≤ length xs
two-rows [] b h = absurd (omega arith)
two-rows (x ∷ []) b h = absurd (omega arith)
two-rows (x ∷ (y ∷ xs)) b h = omega arith

-- ---- rows that fit, in two parts

pub fit_left : (xs ys : List Row) → AllFit (xs ++ ys) → AllFit xs
fit_left [] ys f = tt
fit_left (x ∷ xs) ys f = (f.0, fit_left xs ys f.1)

pub fit_right : (xs ys : List Row) → AllFit (xs ++ ys) → AllFit ys
fit_right [] ys f = f
fit_right (x ∷ xs) ys f = fit_right xs ys f.1

pub fit_append : (xs ys : List Row) → AllFit xs → AllFit ys → AllFit (xs ++ ys)
fit_append [] ys f g = g
fit_append (x ∷ xs) ys f g = (f.0, fit_append xs ys f.1 g)

-- ---- the cut

pub record RowsCut (rs : List Row) (cut : Cut) : Type 0 where
  pub left : List Row
  pub middle : Row
  pub right : List Row
  pub whole : left ++ (middle ∷ right) ≡ rs
  pub place : cut ≡ record { cells = length left; bytes = length (rows_bytes left) }
  pub left-few : length (rows_bytes left) ≤ 4084
  pub right-few : length (rows_bytes (middle ∷ right)) ≤ 4084
  pub left-fits : AllFit left
  pub right-fits : AllFit (middle ∷ right)

pub rows_cut : (rs : List Row) (t : ℕ) (cut : Cut) → AllFit rs → t ≡ length (rows_bytes rs) → 4084 < t → cut ≡ cut_of t (row_sizes rs) → cut_fits t cut ≡ true
    → RowsCut rs cut
rows_cut rs t cut fit size over is fits = by_rest (drop i rs) refl
  where
    i : ℕ
    i = cut.cells

    all_is : t ≡ sum (row_sizes rs)
    all_is = size ∙ sym (sizes_bytes rs)

    chosen : BestCut (row_sizes rs) cut
    chosen =
        let b = sizes_between rs fit in
        subst (BestCut (row_sizes rs)) (sym (is ∙ ap (λ (n : ℕ). cut_of n (row_sizes rs)) all_is))
        (cut_is-best (row_sizes rs) 4084 (two-rows (row_sizes rs) b (omega (arith, all_is))) (some_each (row_sizes rs) b))

    inside : i < length rs
    inside = omega (arith, chosen.right, length-map rs (λ (r : Row). row_size r))

    bytes : cut.bytes ≡ length (rows_bytes (take i rs))
    bytes = ap (λ (c : Cut). c.bytes) chosen.place ∙ ap sum (sizes_take i rs) ∙ sizes_bytes (take i rs)

    by_rest : (l : List Row) → drop i rs ≡ l → RowsCut rs cut
    by_rest [] e = absurd (omega (arith, inside, length-drop i rs, ap length e))
    by_rest (z ∷ right) e =
        let whole : take i rs ++ (z ∷ right) ≡ rs = ap (λ (l : List Row). take i rs ++ l) (sym e) ∙ take-append-drop i rs in
        let split : length (rows_bytes rs) ≡ length (rows_bytes (take i rs)) + length (rows_bytes (z ∷ right)) =
        ap (λ (l : List Row). length (rows_bytes l)) (sym whole)
        ∙ (ap length (rows_append (take i rs) (z ∷ right)) ∙ length-append (rows_bytes (take i rs)) (rows_bytes (z ∷ right))) in
        let both : AllFit (take i rs ++ (z ∷ right)) = rw whole fit in
        let n : length (take i rs) ≡ i = length-take-le i rs (omega (arith, inside)) in
        let side = (fits-is t cut fits).1 in
        record {
          left = take i rs;
          middle = z;
          right = right;
          whole = whole;
          place = rw (n, ← bytes);
          left-few = omega (arith, bytes);
          right-few = omega (arith, bytes);
          left-fits = fit_left (take i rs) (z ∷ right) both;
          right-fits = fit_right (take i rs) (z ∷ right) both;
        }
