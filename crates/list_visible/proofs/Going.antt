-- A loop over a leaf that was judged before it: every cell that is left is there, and its fields stand at their places.
-- Assumes nothing.
use Rattle.std.proofs.Common.{Ok, Err}
use mathlib.Core.Path.{◌≡◌, refl, sym, ◌∙◌}
use mathlib.Core.Bool.{Bool, true, false}
use mathlib.Core.List.{List, ◌∷◌}
use Prim.Native.Nat.{ℕ, zero, suc, ◌+◌, ◌*◌, ◌-◌, ◌≤◌, ◌<◌}
use native.Mathlib.Omega.{arith}
use lib.Dec.{eqb}
use lib.ListN.{length}
use Rattle.store.specs.Le.{le_at}
use Rattle.store.specs.Pick.{pick}
use Rattle.page.specs.Header.{node_type, cell_count}
use Rattle.page.specs.Key.{rank_at}
use Rattle.row.specs.Read.{stamp_size, stamp_in, cell_at}
use Rattle.row.specs.declared.Cell.{Cell}
use Rattle.mvcc.specs.Rules.{visible}
use Rattle.leaf.specs.Cells.{Step, cells_of, step_of, on_step, judge_cells, judge_leaf}
use Rattle.row.specs.Fault.{structural}
use Rattle.list_visible.specs.Steps.Fast.{chosen_of, WasJudged}
use Rattle.list_visible.specs.declared.pass.Chosen.{Chosen}
use Rattle.mvcc.specs.Snapshot.{Snapshot}
use Rattle.row.proofs.Exact.{cell_placed, cell_fields}
use Rattle.leaf.proofs.Walking.{step-cell}

-- the n cells that are left, from `at` on, were judged after one of that key and creator
pub record Going (p n at : ℕ) (pg : List ℕ) : Type 0 where
  key : ℕ
  creator : ℕ
  end : ℕ
  judged : judge_cells pg p key creator n at ≡ Ok end

pub going_start : (p : ℕ) (pg : List ℕ) → WasJudged p pg → Going p (cell_count pg) 12 pg
unfolding judge_leaf
going_start p pg d = by_type (eqb (node_type pg) 1) d.judged
  where
    by_type : (b : Bool) → pick b (judge_cells pg p 0 0 (cell_count pg) 12) (Err (structural p)) ≡ Ok d.end → Going p (cell_count pg) 12 pg
    by_type true w = record { key = 0; creator = 0; end = d.end; judged = w }
    by_type false w = absurd (cc)

-- the cell that comes, where it stands, and those after it
pub record Turn (p n at : ℕ) (pg : List ℕ) : Type 0 where
  pub cell : Cell
  pub read : cell_at pg at ≡ Ok cell
  pub here : cell.at ≡ at
  pub next-is : cell.next ≡ at + 8 + le_at 4 pg (at + 4)
  pub low : at + 19 ≤ cell.next
  pub stamp_in_lem : at + 8 + 9 + stamp_size (le_at 1 pg (at + 8 + 9)) ≤ cell.next
  pub inside : cell.next ≤ length pg
  pub more : cells_of pg n at ≡ cell ∷ cells_of pg (n - 1) cell.next
  pub going : Going p (n - 1) cell.next pg

pub next-turn : (p n at : ℕ) (pg : List ℕ) → 0 < n → Going p n at pg → Turn p n at pg
unfolding judge_cells cells_of
next-turn p zero at pg h g = absurd (omega arith)
next-turn p (suc n) at pg h g = by_step (step_of pg p g.key g.creator at) refl g.judged
  where
    by_step : (r : Step) → step_of pg p g.key g.creator at ≡ r
        → on_step (λ x. judge_cells pg p x.key x.version.creator n x.next) (λ f. Err f) r ≡ Ok g.end → Turn p (suc n) at pg
    by_step (Step.Bad f) q w = absurd (cc)
    by_step (Step.Got x) q w =
        let t = (step-cell pg p g.key g.creator at (sym q) refl).0 in
        let a = cell_placed pg at x t in
        let f = cell_fields pg at x t in
        let m : suc n - 1 ≡ n = omega arith in
        record {
          cell = x;
          read = t;
          here = a.here;
          next-is = f.next-is;
          low = omega (arith, a.past_head, a.whole);
          stamp_in_lem = f.stamp_in_lem;
          inside = a.inside;
          more = rw (t, m);
          going = rw m (record { key = x.key; creator = x.version.creator; end = g.end; judged = w });
        }

-- what was read of the cell
module _ {p n at : ℕ} {pg : List ℕ} (t : Turn p n at pg) where
  pub turn-visible : (sn : Snapshot) (st : ℕ → ℕ) {b : Bool} → b ≡ visible sn st (le_at 8 pg (at + 8 + 1)) (stamp_in pg (at + 8 + 9))
      → b ≡ visible sn st t.cell.version.creator t.cell.version.stamp
  turn-visible sn st u = let f = cell_fields pg at t.cell t.read in u ∙ rw (f.creator-is, f.stamp-is)

  pub turn_chosen : {end : ℕ} {r : Chosen} → end ≡ at + 8 + le_at 4 pg (at + 4)
      → r ≡ record { from = p * 4096 + at; to = p * 4096 + end; key = rank_at pg at; creator = le_at 8 pg (at + 8 + 1) } → r ≡ chosen_of p t.cell
  turn_chosen e u = let f = cell_fields pg at t.cell t.read in u ∙ rw (t.here, t.next-is, f.key-is, f.creator-is, e)
