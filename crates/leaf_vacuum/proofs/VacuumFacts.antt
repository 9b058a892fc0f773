-- The facts of specs/Steps/VacuumFacts: what a sweep leaves of a page that holds rows, and so of a leaf that was judged.
-- Assumes nothing.
use Rattle.std.proofs.Common.{None}
use mathlib.Core.Path.{◌≡◌, refl, sym, ap, ◌∙◌}
use mathlib.Core.Bool.{Bool, true, false, ◌||◌}
use mathlib.Core.List.{List, [], ◌∷◌, ◌++◌, append_assoc}
use Prim.Native.Nat.{ℕ, zero, suc, ◌+◌, ◌-◌, ◌*◌, ◌/◌, ◌%◌, ◌≤◌}
use native.Mathlib.Omega.{arith}
use lib.ListN.{length, get_or, length-append}
use lib.Seq.{set-get_or}
use Rattle.store.specs.Pick.{pick}
use Rattle.store.specs.Le.{AreBytes, le_at, put_at}
use Rattle.store.specs.Part.{part, pad}
use Rattle.page.specs.Header.{cell_count, with_count}
use Rattle.row.specs.Read.{cell_at}
use Rattle.row.specs.Exact.{cell_of}
use Rattle.row.specs.declared.Cell.{Cell}
use Rattle.mvcc.specs.Vacuum.{fate}
use Rattle.mvcc.specs.declared.vacuum.Fate.{Fate}
use Rattle.leaf.specs.Rows.{Row, row_size, row_bytes, rows_bytes, rows, write_rows}
use Rattle.leaf_vacuum.specs.Vacuum.{cleared_row, on_fate, kept_rows, dropped_rows, changes_rows, Swept, vacuumed_leaf}
use Rattle.leaf_vacuum.specs.Steps.Vacuum.{sweep}
use Rattle.leaf_vacuum.specs.Steps.VacuumFacts.{VacuumSweeps}
use Rattle.store.proofs.LeLaws.{length-put_at}
use Rattle.store.proofs.PartLaws.{put_at-part}
use Rattle.row.proofs.Writing.{length-cell}
use Rattle.leaf.proofs.Rowing.{rows_cons, length-rows}
use Rattle.leaf_vacuum.proofs.Sweeping.{Holds, written, size_row, count-append, count-pad, count_twice, cell-first, same_holds, dropped-page, cleared-page, cleared-stamped, sound_stands, sweep-done, sweep-same, sweep-dropped, sweep-cleared}

module _ (st : ℕ → ℕ) (bound : ℕ) where
  -- the page with the kept rows, of k cells in all, after h
  abbrev kept_page : ℕ → List ℕ → List Row → List ℕ
  kept_page k h rs = with_count (k - dropped_rows st bound rs) (pad 4096 (h ++ rows_bytes (kept_rows st bound rs)))

  abbrev swept_to : ℕ → ℕ → Bool → List ℕ → List Row → List ℕ → Swept
  swept_to k d b h rs s =
      record {
        page = pick (b || changes_rows st bound rs) (kept_page k h rs) s;
        told = record { dropped = d + dropped_rows st bound rs; changed = b || changes_rows st bound rs };
      }

  -- what is proved of every page that holds rs after h: by the sweep so far the page is written anew, or as it was
  abbrev Sweeps : List Row → Type 0
  Sweeps rs =
      (h : List ℕ) (k d : ℕ) (b : Bool) (s : List ℕ) → Holds h rs s → length rs ≤ k → with_count k h ≡ h
      → (b ≡ true → s ≡ pad 4096 (h ++ rows_bytes rs)) → sweep st bound (length rs) (length h) (length h + length (rows_bytes rs)) k d b s ≡ swept_to k d b h rs s

  or_true : (b : Bool) → (b || true) ≡ true
  or_true true = refl
  or_true false = refl

  swept_none : Sweeps []
  unfolding kept_rows dropped_rows changes_rows rows_bytes
  swept_none h k d b s p few count form = sweep-done st bound (length h) (length h + 0) k d b s 0 (omega arith) ∙ by_change b form
    where
      by_change : (b : Bool) → (b ≡ true → s ≡ pad 4096 (h ++ [])) → record { page = s; told = record { dropped = d; changed = b } } ≡ swept_to k d b h [] s
      by_change true f =
          let u : k - 0 ≡ k = omega arith in
          let v : d + 0 ≡ d = omega arith in
          let w = p.header in
          rw (u, v, count-pad k h [] (omega arith), count, ← (f refl))
      by_change false f = let v : d + 0 ≡ d = omega arith in rw v

  same-sweep : {n n₁ at at₁ e e₁ : ℕ} (k d : ℕ) (b : Bool) (s : List ℕ) → n ≡ n₁ → at ≡ at₁ → e ≡ e₁ → sweep st bound n at e k d b s ≡ sweep st bound n₁ at₁ e₁ k d b s
  same-sweep k d b s p q r = rw (p, q, r)

  swept_row : (r : Row) (rs : List Row) → Sweeps rs → Sweeps (r ∷ rs)
  unfolding kept_rows dropped_rows changes_rows
  swept_row r rs ih h k d b s p few count form = by_fate (fate st bound r.creator r.stamp) refl
    where
      cell : Cell
      cell = cell_of (length h) r.key r.creator r.stamp r.pointer (length r.body)

      E : ℕ
      E = length h + length (rows_bytes (r ∷ rs))

      turn : suc (length rs) - 1 ≡ length rs
      turn = omega arith

      by_fate : (f : Fate) → fate st bound r.creator r.stamp ≡ f → sweep st bound (suc (length rs)) (length h) E k d b s ≡ swept_to k d b h (r ∷ rs) s
      by_fate Fate.Same e =
          let h₁ = h ++ row_bytes r in
          let size = length-rows r rs in
          let i : cell.next ≡ length h₁ = rw (length-append, size_row p) in
          let j : E ≡ length h₁ + length (rows_bytes rs) = omega arith in
          let c₁ : with_count k h₁ ≡ h₁ = count-append k h (row_bytes r) (omega (arith, p.header)) ∙ rw count in
          let f₁ : b ≡ true → s ≡ pad 4096 (h₁ ++ rows_bytes rs) = λ q. form q ∙ rw (rows_cons, append_assoc) in
          sym (sweep-same st bound (length h) E k d b s {r = cell_at s (length h)} {c = cell} refl (cell-first p) refl (suc (length rs)) (omega arith) e)
          ∙ (same-sweep k d b s turn i j ∙ (ih h₁ k d b s (same_holds p) (omega arith) c₁ f₁ ∙ rw (e, rows_cons r (kept_rows st bound rs), append_assoc)))
      by_fate Fate.Dropped e =
          let h₁ = with_count (k - 1) h in
          let size = length-rows r rs in
          let room = p.room in
          let header = p.header in
          let l : length h₁ ≡ length h = length-put_at 2 h 6 (k - 1) in
          let s₁ = pad 4096 (h₁ ++ rows_bytes rs) in
          let j : E - (cell.next - cell.at) ≡ length h₁ + length (rows_bytes rs) = omega arith in
          let n : k - 1 - dropped_rows st bound rs ≡ k - (dropped_rows st bound rs + 1) = omega arith in
          let m : d + 1 + dropped_rows st bound rs ≡ d + (dropped_rows st bound rs + 1) = omega arith in
          sym (sweep-dropped st bound (length h) E k d b s {r = cell_at s (length h)} {c = cell} refl (cell-first p) refl (suc (length rs)) (omega arith) e (sym (dropped-page p E k refl)))
          ∙ (same-sweep (k - 1) (d + 1) true s₁ turn (sym l) j
          ∙ (ih h₁ (k - 1) (d + 1) true s₁ (written h₁ rs (omega arith) p.fits.1 (omega arith)) (omega arith) (count_twice (k - 1) (k - 1) h) (λ q. refl)
          ∙ rw (e, or_true b, n, m, ← (count-pad (k - 1) h (rows_bytes (kept_rows st bound rs)) (omega arith)), count_twice)))
      by_fate Fate.Cleared e =
          let h₁ = h ++ row_bytes (cleared_row r) in
          let size = length-rows r rs in
          let room = p.room in
          let header = p.header in
          let nine = cleared-stamped st bound r.creator r.stamp {f = Fate.Cleared} (sym e) refl in
          let l : length h₁ ≡ length h + row_size (cleared_row r) = rw (length-append, length-cell r.key r.creator None r.pointer r.body) in
          let s₁ = pad 4096 (h₁ ++ rows_bytes rs) in
          let i : cell.next - 8 ≡ length h₁ = omega arith in
          let j : E - 8 ≡ length h₁ + length (rows_bytes rs) = omega arith in
          let c₁ : with_count k h₁ ≡ h₁ = count-append k h (row_bytes (cleared_row r)) (omega arith) ∙ rw count in
          sym (sweep-cleared st bound (length h) E k d b s {r = cell_at s (length h)} {c = cell} refl (cell-first p) refl (suc (length rs)) (omega arith) e (sym (cleared-page p E refl)))
          ∙ (same-sweep k d true s₁ turn i j
          ∙ (ih h₁ k d true s₁ (written h₁ rs (omega arith) p.fits.1 (omega arith)) (omega arith) c₁ (λ q. refl)
          ∙ rw (e, or_true b, rows_cons (cleared_row r) (kept_rows st bound rs), append_assoc)))

  swept : (rs : List Row) → Sweeps rs
  swept [] = swept_none
  swept (r ∷ rs) = swept_row r rs (swept rs)

  -- what is kept and what goes is all
  pub kept_count : (rs : List Row) → length (kept_rows st bound rs) + dropped_rows st bound rs ≡ length rs
  unfolding kept_rows dropped_rows
  kept_count [] = refl
  kept_count (r ∷ rs) = by_fate (fate st bound r.creator r.stamp) (kept_count rs)
    where
      by_fate : (f : Fate) → length (kept_rows st bound rs) + dropped_rows st bound rs ≡ length rs
          → length (on_fate (kept_rows st bound rs) (cleared_row r ∷ kept_rows st bound rs) (r ∷ kept_rows st bound rs) f)
          + on_fate (dropped_rows st bound rs + 1) (dropped_rows st bound rs) (dropped_rows st bound rs) f
          ≡ suc (length rs)
      by_fate Fate.Dropped e = omega arith
      by_fate Fate.Cleared e = omega arith
      by_fate Fate.Same e = omega arith

-- a field stored over itself
put_at-le_at : (w : ℕ) (s : List ℕ) (a : ℕ) → AreBytes s → put_at w s a (le_at w s a) ≡ s
unfolding le_at put_at
put_at-le_at zero s a B = refl
put_at-le_at (suc w) s a B =
    let lo : (get_or s a 0 + 256 * le_at w s (a + 1)) % 256 ≡ get_or s a 0 = omega (arith, B a) in
    let hi : (get_or s a 0 + 256 * le_at w s (a + 1)) / 256 ≡ le_at w s (a + 1) = omega (arith, B a) in
    rw (lo, hi, set-get_or s a 0) (put_at-le_at w s (a + 1) B)

header_count : (pg : List ℕ) → AreBytes pg → with_count (cell_count pg) (part 0 12 pg) ≡ part 0 12 pg
header_count pg B = put_at-part 2 0 12 pg 6 (cell_count pg) (omega arith) ∙ ap (part 0 12) (put_at-le_at 2 pg 6 B)

pub vacuum_sweeps : VacuumSweeps
unfolding write_rows vacuumed_leaf
vacuum_sweeps st bound e pg B len j =
    let n = cell_count pg in
    let rs = rows pg in
    let t = sound_stands pg e (record { bytes = B; whole = len; judged = j }) in
    let starts = t.starts in
    let ends = t.ends in
    let count = t.count in
    let all = kept_count st bound rs in
    let kept : n - dropped_rows st bound rs ≡ length (kept_rows st bound rs) = omega arith in
    let none : 0 + dropped_rows st bound rs ≡ dropped_rows st bound rs = omega arith in
    let end : e ≡ length (part 0 12 pg) + length (rows_bytes rs) = omega arith in
    same-sweep st bound n 0 false pg (sym count) (sym starts) end
    ∙ (swept st bound rs (part 0 12 pg) n 0 false pg t.holds (omega arith) (header_count pg B) (λ q. absurd (let z : ◌≡◌ {A = ℕ} 0 1 = cc in omega arith))
    ∙ rw (kept, none))
