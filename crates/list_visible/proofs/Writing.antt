-- The second pass over a judged leaf, which writes: the records that are left, put from the length so far on into the output
-- as it is now, give what all of them give. Assumes nothing.
use Rattle.std.proofs.Common.{Option, Some, None, Ok}
use mathlib.Core.Path.{◌≡◌, refl, sym, ap, ◌∙◌}
use mathlib.Core.Bool.{Bool, true, false}
use mathlib.Core.List.{List, [], ◌++◌}
use Prim.Native.Nat.{ℕ, zero, suc, ◌+◌, ◌*◌, ◌-◌, ◌≤◌, ◌<◌}
use native.Mathlib.Omega.{arith}
use lib.Dec.{ltb, eqb}
use lib.ListN.{length, length-append}
use Rattle.store.specs.Le.{le_at}
use Rattle.store.specs.Part.{put}
use Rattle.store.specs.Pick.{pick}
use Rattle.page.specs.Page.{page}
use Rattle.page.specs.Header.{cell_count}
use Rattle.page.specs.Key.{rank_at}
use Rattle.row.specs.Read.{stamp_in, cell_at}
use Rattle.row.specs.declared.Cell.{Cell}
use Rattle.mvcc.specs.Rules.{visible}
use Rattle.leaf.specs.Cells.{cells_of, cells, fold_cells}
use Rattle.call_answers.specs.Answer.{written, Written}
use Rattle.list_visible.specs.Steps.Fast.{chosen_of, record_size, waiting_for, step_from, scanned, scan_leaf, wait_bytes, pushed_by, pushed, pushed_all, pass_leaf, WasJudged, Waits}
use Rattle.list_visible.specs.declared.pass.Chosen.{Chosen}
use Rattle.list_visible.specs.declared.pass.Scan.{Scan}
use Rattle.mvcc.specs.Snapshot.{Snapshot}
use Rattle.store.proofs.PutLaws.{put_nil, length-put, put-after_at}
use Rattle.page.proofs.PageLaws.{page_short}
use Rattle.row.proofs.Exact.{cell_placed}
use Rattle.list_visible.proofs.Stepping.{length_wait, both}
use Rattle.list_visible.proofs.Going.{Going, going_start, Turn, turn-visible, turn_chosen}
use Rattle.list_visible.proofs.Measuring.{scanned_wait}

pub cells-none : (at : ℕ) (pg : List ℕ) (n : ℕ) → n ≤ 0 → cells_of pg n at ≡ []
unfolding cells_of
cells-none at pg zero h = refl
cells-none at pg (suc n) h = absurd (omega arith)

-- ---- what a cell does to what waits, and to the length

-- a cell of a page in use
pub cell-waits : (used p at : ℕ) (s : List ℕ) {x : Cell} → used * 4096 ≤ length s → p < used → cell_at (page s p) at ≡ Ok x → Waits (Some (chosen_of p x)) s
cell-waits used p at s {x} room h e =
    let a = cell_placed (page s p) at x e in
    let l = page_short p s in
    let low : x.at + 19 ≤ x.next = omega (arith, a.here, a.past_head, a.whole) in
    let high : x.next ≤ 4096 = omega (arith, a.inside) in
    (omega arith, omega arith, omega arith)

module _ (p : ℕ) (s : List ℕ) (sc : Scan) where
  step-size : (x : Chosen) (wait : Option Chosen) → Waits wait s → (step_from wait sc x).size ≡ sc.size + length (pushed_by wait x s)
  step-size x None w = omega arith
  step-size x (Some o) w = by_tests (eqb o.key x.key) (ltb o.creator x.creator)
    where
      by_tests : (a b : Bool)
          → (pick a (pick b (waiting_for x sc.size) sc) (waiting_for x (sc.size + record_size o))).size ≡ sc.size + length (pick a [] (wait_bytes (Some o) s))
      by_tests true true = omega arith
      by_tests true false = omega arith
      by_tests false b = rw (length_wait (Some o) s w)

  pub scanned-size : (sn : Snapshot) (st : ℕ → ℕ) (x : Cell) → Waits sc.wait s
      → (scanned sn st p sc x).size ≡ sc.size + length (pushed sn st p sc x s)
  unfolding scanned pushed
  scanned-size sn st x w = by_seen (visible sn st x.version.creator x.version.stamp)
    where
      by_seen : (b : Bool) → (pick b (step_from sc.wait sc (chosen_of p x)) sc).size ≡ sc.size + length (pick b (pushed_by sc.wait (chosen_of p x) s) [])
      by_seen true = step-size (chosen_of p x) sc.wait w
      by_seen false = omega arith

-- ---- the loop over the leaf

module _ (sn : Snapshot) (st : ℕ → ℕ) (p : ℕ) (s : List ℕ) where
  -- what the turn did
  module _ (sc : Scan) (out : List ℕ) {n at : ℕ} {pg : List ℕ} (t : Turn p n at pg) {b : Bool} (u : b ≡ visible sn st (le_at 8 pg (at + 8 + 1)) (stamp_in pg (at + 8 + 9))) where
    pub turn-pushed : {end : ℕ} {r : Chosen} {d f : Scan} {y z : List ℕ} → b ≡ true → end ≡ at + 8 + le_at 4 pg (at + 4)
        → r ≡ record { from = p * 4096 + at; to = p * 4096 + end; key = rank_at pg at; creator = le_at 8 pg (at + 8 + 1) }
        → written f z ≡ written (step_from sc.wait sc r) (put sc.size (pushed_by sc.wait r s) out) → y ≡ z → d ≡ f
        → written d y ≡ written (scanned sn st p sc t.cell) (put sc.size (pushed sn st p sc t.cell s) out)
    unfolding scanned pushed
    turn-pushed h e q w v₁ v₂ =
        both v₂ v₁
        ∙ (w
        ∙ (ap (λ (x : Chosen). written (step_from sc.wait sc x) (put sc.size (pushed_by sc.wait x s) out)) (turn_chosen t e q)
        ∙ rw (sym (turn-visible t sn st u) ∙ h)))

    pub turn-passed : {d : Scan} {y : List ℕ} → b ≡ false → y ≡ out → d ≡ sc
        → written d y ≡ written (scanned sn st p sc t.cell) (put sc.size (pushed sn st p sc t.cell s) out)
    unfolding scanned pushed
    turn-passed h v₁ v₂ = both v₂ (v₁ ∙ sym (put_nil sc.size out)) ∙ rw (sym (turn-visible t sn st u) ∙ h)

  -- with n cells left from `at` on, into an output of length l
  pub record Writing (l : ℕ) (goal : Written Scan) (pg : List ℕ) (n at : ℕ) (sc : Scan) (out : List ℕ) : Type 0 where
    pub going : Going p n at pg
    pub within : at ≤ 4096
    pub waits : Waits sc.wait s
    pub long : length out ≡ l
    pub room : sc.size + length (pushed_all sn st p sc (cells_of pg n at) s) ≤ l
    pub few : sc.size + length (pushed_all sn st p sc (cells_of pg n at) s) ≤ 9223372036854775807
    pub same : written (fold_cells (scanned sn st p) sc (cells_of pg n at)) (put sc.size (pushed_all sn st p sc (cells_of pg n at) s) out) ≡ goal

  pub writing_start : (sc : Scan) (out : List ℕ) {pg : List ℕ} {n : ℕ} → pg ≡ page s p → n ≡ cell_count pg → WasJudged p (page s p) → Waits sc.wait s
      → sc.size + length (pushed_all sn st p sc (cells (page s p)) s) ≤ length out
      → sc.size + length (pushed_all sn st p sc (cells (page s p)) s) ≤ 9223372036854775807
      → Writing (length out) (pass_leaf s p sn st sc out) pg n 12 sc out
  unfolding pass_leaf scan_leaf
  writing_start sc out here count d w r f =
      rw (count, here) (record { going = going_start p (page s p) d; within = omega arith; waits = w; long = refl; room = r; few = f; same = refl })

  module _ {l : ℕ} {goal : Written Scan} {pg : List ℕ} {n at : ℕ} {sc : Scan} {out : List ℕ} (w : Writing l goal pg n at sc out) where
    pub writing_end : n ≤ 0 → written sc out ≡ goal
    unfolding pushed_all fold_cells
    writing_end h = ap (λ (o : List ℕ). written sc o) (sym (put_nil sc.size out)) ∙ (rw (cells-none at pg n h) at w.same)

    module _ (t : Turn p n at pg) where
      abbrev pushes : List ℕ
      pushes = pushed sn st p sc t.cell s

      abbrev later : List ℕ
      later = pushed_all sn st p (scanned sn st p sc t.cell) (cells_of pg (n - 1) t.cell.next) s

      -- what is pushed now comes first
      split : pushed_all sn st p sc (cells_of pg n at) s ≡ pushes ++ later
      unfolding pushed_all
      split = rw t.more

      fits : sc.size + (length pushes + length later) ≤ l
      fits = let k = length-append pushes later in omega (arith, w.room, ap length split)

      pub writing_fits : {end : ℕ} {r : Chosen} {b : Bool} → b ≡ visible sn st (le_at 8 pg (at + 8 + 1)) (stamp_in pg (at + 8 + 9)) → b ≡ true
          → end ≡ at + 8 + le_at 4 pg (at + 4)
          → r ≡ record { from = p * 4096 + at; to = p * 4096 + end; key = rank_at pg at; creator = le_at 8 pg (at + 8 + 1) } → sc.size + length (pushed_by sc.wait r s) ≤ length out
      unfolding pushed
      writing_fits u h e q =
          let seen = sym (turn-visible t sn st u) ∙ h in
          let is : pushed sn st p sc t.cell s ≡ pushed_by sc.wait (chosen_of p t.cell) s = rw seen in
          let m = ap (λ (x : Chosen). length (pushed_by sc.wait x s)) (turn_chosen t e q) in
          omega (arith, fits, w.long, m, ap length is)

      pub writing_turn : (used : ℕ) {m end : ℕ} {d : Scan} {y : List ℕ} → m ≡ n - 1 → used * 4096 ≤ length s → p < used → pg ≡ page s p → length pg ≡ 4096 → end ≡ at + 8 + le_at 4 pg (at + 4)
          → written d y ≡ written (scanned sn st p sc t.cell) (put sc.size pushes out) → Writing l goal pg m end d y
      unfolding fold_cells
      writing_turn used {m} {end} {d} {y} left room h here long e u =
          let next : end ≡ t.cell.next = e ∙ sym t.next-is in
          let a : d ≡ scanned sn st p sc t.cell = ap (λ (z : Written Scan). z.answer) u in
          let b : y ≡ put sc.size pushes out = ap (λ (z : Written Scan). z.output) u in
          let f = scanned sn st p sc t.cell in
          let size : f.size ≡ sc.size + length pushes = scanned-size p s sc sn st t.cell w.waits in
          let k = length-append pushes later in
          let some : sc.size + length pushes ≤ length out = omega (arith, fits, w.long) in
          let all : written (fold_cells (scanned sn st p) f (cells_of pg (n - 1) t.cell.next)) (put sc.size (pushes ++ later) out) ≡ goal
          = rw (split, t.more) at w.same in
          rw (left, next, a, b)
          (record {
            going = t.going;
            within = omega (arith, t.inside);
            waits = scanned_wait sn st p sc t.cell (λ v. Waits v s) w.waits (cell-waits used p at s room h (rw here at t.read));
            long = length-put sc.size pushes out some ∙ w.long;
            room = omega (arith, fits, size);
            few = omega (arith, w.few, ap length split, size);
            same = ap (λ (o : List ℕ). written (fold_cells (scanned sn st p) f (cells_of pg (n - 1) t.cell.next)) o) (put-after_at sc.size f.size pushes later out (omega arith) size) ∙ all;
          })
