-- The second pass over a judged leaf, which measures: the cells that are left, from what waits now on, give what all of them
-- give. Assumes nothing.
use Rattle.std.proofs.Common.{Option, Some}
use mathlib.Core.Path.{◌≡◌, refl, sym, ap, ◌∙◌}
use mathlib.Core.Bool.{Bool, true, false}
use mathlib.Core.List.{List}
use Prim.Native.Nat.{ℕ, zero, suc, ◌+◌, ◌*◌, ◌-◌, ◌≤◌}
use native.Mathlib.Omega.{arith}
use lib.ListN.{length}
use Rattle.store.specs.Le.{le_at}
use Rattle.store.specs.Pick.{pick}
use Rattle.page.specs.Page.{page}
use Rattle.page.specs.Header.{cell_count}
use Rattle.page.specs.Key.{rank_at}
use Rattle.row.specs.Read.{stamp_in}
use Rattle.row.specs.declared.Cell.{Cell}
use Rattle.mvcc.specs.Rules.{visible}
use Rattle.leaf.specs.Cells.{cells_of, fold_cells}
use Rattle.list_visible.specs.Steps.Fast.{chosen_of, step_from, scanned, scan_leaf, WasJudged, Whole}
use Rattle.list_visible.specs.declared.pass.Chosen.{Chosen}
use Rattle.list_visible.specs.declared.pass.Scan.{Scan}
use Rattle.mvcc.specs.Snapshot.{Snapshot}
use Rattle.list_visible.proofs.Stepping.{step_wait, step_more}
use Rattle.list_visible.proofs.Going.{Going, going_start, Turn, turn-visible, turn_chosen}

module _ (sn : Snapshot) (st : ℕ → ℕ) (p : ℕ) where
  -- what the turn did
  module _ (sc : Scan) {n at : ℕ} {pg : List ℕ} (t : Turn p n at pg) {b : Bool} (u : b ≡ visible sn st (le_at 8 pg (at + 8 + 1)) (stamp_in pg (at + 8 + 9))) where
    pub turn-seen : {end : ℕ} {r : Chosen} {d y : Scan} → b ≡ true → end ≡ at + 8 + le_at 4 pg (at + 4)
        → r ≡ record { from = p * 4096 + at; to = p * 4096 + end; key = rank_at pg at; creator = le_at 8 pg (at + 8 + 1) } → y ≡ step_from sc.wait sc r → d ≡ y
        → d ≡ scanned sn st p sc t.cell
    unfolding scanned
    turn-seen h e q w v = v ∙ (w ∙ (ap (λ (x : Chosen). step_from sc.wait sc x) (turn_chosen t e q) ∙ rw (sym (turn-visible t sn st u) ∙ h)))

    pub turn_unseen : {d : Scan} → b ≡ false → d ≡ sc → d ≡ scanned sn st p sc t.cell
    unfolding scanned
    turn_unseen h v = v ∙ rw (sym (turn-visible t sn st u) ∙ h)

  -- how far the length grows
  pub scanned_more : (sc : Scan) (x : Cell) → Whole sc.wait → (scanned sn st p sc x).size ≤ sc.size + 4102
  unfolding scanned
  scanned_more sc x w = by_seen (visible sn st x.version.creator x.version.stamp)
    where
      by_seen : (b : Bool) → (pick b (step_from sc.wait sc (chosen_of p x)) sc).size ≤ sc.size + 4102
      by_seen true = step_more sc (chosen_of p x) sc.wait w
      by_seen false = omega arith

  -- what waits afterwards: what waited, or the cell
  pub scanned_wait : (sc : Scan) (x : Cell) (P : Option Chosen → Type 0) → P sc.wait → P (Some (chosen_of p x)) → P (scanned sn st p sc x).wait
  unfolding scanned
  scanned_wait sc x P old new = by_seen (visible sn st x.version.creator x.version.stamp)
    where
      by_seen : (b : Bool) → P (pick b (step_from sc.wait sc (chosen_of p x)) sc).wait
      by_seen true = step_wait sc (chosen_of p x) P sc.wait old new
      by_seen false = old

  -- with n cells left, from `at` on
  pub record Measuring (goal : Scan) (first : ℕ) (pg : List ℕ) (n at : ℕ) (sc : Scan) : Type 0 where
    pub going : Going p n at pg
    pub same : fold_cells (scanned sn st p) sc (cells_of pg n at) ≡ goal
    pub whole : Whole sc.wait
    pub small : sc.size ≤ first + at * 4102
    pub within : at ≤ 4096

  pub measuring_start : (s : List ℕ) (sc : Scan) {pg : List ℕ} {n : ℕ} → pg ≡ page s p → n ≡ cell_count pg → WasJudged p (page s p) → Whole sc.wait
      → Measuring (scan_leaf (page s p) p sn st sc) sc.size pg n 12 sc
  unfolding scan_leaf
  measuring_start s sc here count d w =
      rw (count, here) (record { going = going_start p (page s p) d; same = refl; whole = w; small = omega arith; within = omega arith })

  module _ {goal : Scan} {first : ℕ} {pg : List ℕ} {n at : ℕ} {sc : Scan} (w : Measuring goal first pg n at sc) where
    pub measuring_end : n ≤ 0 → sc ≡ goal
    unfolding cells_of fold_cells
    measuring_end h = over n h w.same
      where
        over : (k : ℕ) → k ≤ 0 → fold_cells (scanned sn st p) sc (cells_of pg k at) ≡ goal → sc ≡ goal
        over zero l e = e
        over (suc k) l e = absurd (omega arith)

    pub measuring_turn : (t : Turn p n at pg) {m end : ℕ} {d : Scan} → m ≡ n - 1 → length pg ≡ 4096 → end ≡ at + 8 + le_at 4 pg (at + 4) → d ≡ scanned sn st p sc t.cell
        → Measuring goal first pg m end d
    unfolding fold_cells
    measuring_turn t {m} {end} {d} left l e u =
        let next : end ≡ t.cell.next = e ∙ sym t.next-is in
        let x = t.cell in
        let small = scanned_more sc x w.whole in
        let waits : Whole (Some (chosen_of p x)) = (omega (arith, t.here, t.low), omega (arith, t.here, t.inside)) in
        rw (left, next, u)
        (record {
          going = t.going;
          same = rw t.more at w.same;
          whole = scanned_wait sc x Whole w.whole waits;
          small = omega (arith, w.small, t.low);
          within = omega (arith, t.inside);
        })
