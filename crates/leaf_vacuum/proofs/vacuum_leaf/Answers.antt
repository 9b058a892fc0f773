-- `leaf_vacuum::vacuum_leaf` meets its contract: the sweep that is left, of the page as it is now, comes to the vacuumed leaf;
-- and the rows that are left stand on the page. Assumes nothing.
use mathlib.Core.Path.{◌≡◌, refl, sym, ap, ◌∙◌}
use Prim.Native.Nat.{◌+◌, ◌-◌}
use native.Mathlib.Omega.{arith}
use Rattle.page.specs.Header.{cell_count}
use Rattle.leaf.specs.RowFacts.{Sound}
use Rattle.leaf_vacuum.specs.Vacuum.{Swept}
use Rattle.leaf_vacuum.proofs.Sweeping.{sound_stands, Next, left-next, cleared-stamped, sweep-done, sweep_bad, sweep-same, sweep-dropped, sweep-cleared}
use Rattle.leaf_vacuum.proofs.VacuumFacts.{vacuum_sweeps}
use Rattle.std.proofs.Common.{rules}
use Rattle.leaf_vacuum.proofs.vacuum_leaf.Goals as goal
use Rattle.leaf_vacuum.proofs.vacuum_leaf.Goals.{In-Ok, in-Same, in-Dropped, in-Cleared}

-- past the cell that was read
next : (c : In-Ok) → Next (c.args.n - c.loop.counter) c.loop.at c.loop.end c.loop.pg c.in-Ok.c
next c = left-next _ _ _ _ c.loop.invariant.0 (omega arith) c.read_cell.ensures c.in-Ok.is

pub returns-in_default : goal.returns-in_default
returns-in_default c =
    let w = sym (sweep_bad _ _ _ _ _ _ _ _ _ c.read_cell.ensures c.in_default.is) ∙ c.loop.invariant.1 in
    (ap (λ (x : Swept). x.told) w, ap (λ (x : Swept). x.page) w)

pub take_out-requires : goal.take_out-requires
take_out-requires c = let x = next (goal.at.take_out-requires c).In-Ok in search rules

pub overflow_sub-end : goal.overflow_sub-end
overflow_sub-end c = let x = next (goal.at.overflow_sub-end c).In-Ok in search rules

pub overflow_sub-end-in-Dropped : goal.overflow_sub-end-in-Dropped
overflow_sub-end-in-Dropped c = let x = next (goal.at.overflow_sub-end-in-Dropped c).In-Ok in search rules

pub unstamp_cell-requires : goal.unstamp_cell-requires
unstamp_cell-requires c =
    let x = next (goal.at.unstamp_cell-requires c).In-Ok in
    let nine = cleared-stamped _ _ _ _ c.fate_of.ensures c.in-Cleared.is in
    (omega arith, x.got, omega arith, omega arith, omega arith, nine)

pub overflow_sub-at : goal.overflow_sub-at
overflow_sub-at c = let x = next (goal.at.overflow_sub-at c).In-Ok in search rules

pub loop-init : goal.loop-init
loop-init c =
    let sound : Sound c.args.pg.now c.args.e = record { bytes = λ i. search rules; whole = omega arith; judged = c.requires.3 } in
    let all : c.args.n - 0 ≡ cell_count c.args.pg.now = omega arith in
    rw (all, c.requires.1)
    (record { head = _; rs = _; stands = sound_stands _ _ sound }, vacuum_sweeps _ _ _ _ sound.bytes sound.whole sound.judged, omega arith, omega arith, omega arith)

pub loop-preserved : goal.loop-preserved
loop-preserved c =
    let x = next (goal.at.loop-preserved c).In-Ok in
    let turn : c.args.n - (c.loop.counter + 1) ≡ c.args.n - c.loop.counter - 1 = omega arith in
    rw turn
    (elim c.match-fate_of.branch [
      | in-Same w ↦
          rw (w.pg-is, w.at-is, w.end-is, w.count-is, w.changed-is, w.dropped-is)
          (x.same, sweep-same _ _ _ _ _ _ _ _ c.read_cell.ensures c.in-Ok.is c.fate_of.ensures _ (omega arith) w.in-Same.is ∙ c.loop.invariant.1, omega arith, omega arith, omega arith)
      | in-Dropped w ↦
          rw (w.pg-is, w.at-is, w.end-is, w.count-is, w.changed-is, w.dropped-is, w.take_out.ensures)
          (x.dropped _, sweep-dropped _ _ _ _ _ _ _ _ c.read_cell.ensures c.in-Ok.is c.fate_of.ensures _ (omega arith) w.in-Dropped.is refl ∙ c.loop.invariant.1, omega arith, omega arith, omega arith)
      | in-Cleared w ↦
          let nine = cleared-stamped _ _ _ _ c.fate_of.ensures w.in-Cleared.is in
          rw (w.pg-is, w.at-is, w.end-is, w.count-is, w.changed-is, w.dropped-is, w.unstamp_cell.ensures)
          (x.cleared nine, sweep-cleared _ _ _ _ _ _ _ _ c.read_cell.ensures c.in-Ok.is c.fate_of.ensures _ (omega arith) w.in-Cleared.is refl ∙ c.loop.invariant.1, omega arith, omega arith, omega arith)
    ])

pub returns : goal.returns
returns c =
    let w = sym (sweep-done _ _ _ _ _ _ _ _ _ (omega arith)) ∙ c.loop.invariant.1 in
    (ap (λ (x : Swept). x.told) w, ap (λ (x : Swept). x.page) w)
