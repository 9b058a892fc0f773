-- The walk that counts the cells before one: each way out of a turn, one law each. Assumes nothing.
use Rattle.row.specs.declared.CellFault.{CellFault}
use Rattle.std.proofs.Common.{Option, Some, None, Result, Ok, Err}
use mathlib.Core.Path.{◌≡◌, refl, ap, ◌∙◌}
use mathlib.Core.List.{List, [], ◌∷◌}
use Prim.Native.Nat.{ℕ, zero, suc, ◌+◌, ◌≤◌, ◌<◌}
use native.Mathlib.Omega.{arith}
use borrow.Author.Tests.{lt-ltb, le-ltb}
use lib.Dec.{ltb}
use Rattle.store.specs.Pick.{pick}
use Rattle.page.specs.Header.{cell_count}
use Rattle.row.specs.Read.{cell_at}
use Rattle.row.specs.Steps.Read.{end_at}
use Rattle.row.specs.declared.Cell.{Cell}
use Rattle.leaf.specs.Cells.{on_cell, cells_of, cells, fold_cells}
use Rattle.tree_stamp.specs.Target.{beside_step, beside_of}
use Rattle.tree_stamp.specs.declared.Beside.{Beside}
use Rattle.leaf.proofs.Walking.{end_none, end_some}

pub count_start : (pg : List ℕ) (at : ℕ) {n : ℕ} → n ≡ cell_count pg → fold_cells (beside_step at) (record { before = 0; end = 12 }) (cells_of pg n 12) ≡ beside_of at (cells pg)
unfolding beside_of
count_start pg at e = rw e

module _ (pg : List ℕ) (at before from : ℕ) where
  abbrev here : Beside
  here = record { before = before; end = from }

  pub count-done : (n : ℕ) → n ≤ 0 → fold_cells (beside_step at) here (cells_of pg n from) ≡ here
  unfolding cells_of fold_cells
  count-done zero h = refl
  count-done (suc n) h = absurd (omega arith)

  module _ {r : Option ℕ} (is : r ≡ end_at pg from) where
    pub count_bad : (n : ℕ) → r ≡ None → fold_cells (beside_step at) here (cells_of pg n from) ≡ here
    unfolding cells_of fold_cells
    count_bad zero z = refl
    count_bad (suc n) z = by_read (cell_at pg from) refl
      where
        by_read : (x : Result Cell CellFault) → cell_at pg from ≡ x → fold_cells (beside_step at) here (on_cell (λ c. c ∷ cells_of pg n c.next) (λ kind. []) x) ≡ here
        by_read (Ok x) q = absurd (end_none pg from is z x q)
        by_read (Err kind) q = refl

    pub count_on : (n : ℕ) {m e k : ℕ} → n ≡ suc m → r ≡ Some e → k ≡ before + pick (ltb from at) 1 0
        → fold_cells (beside_step at) (record { before = k; end = e }) (cells_of pg m e) ≡ fold_cells (beside_step at) here (cells_of pg n from)
    unfolding cells_of fold_cells
    count_on zero h q w = absurd (omega arith)
    count_on (suc n) {m} h q w =
        let d = end_some pg from is q in
        let u : m ≡ n = omega arith in
        rw (d.read, u, w)
        (ap (λ (x : ℕ). fold_cells (beside_step at) (record { before = before + pick (ltb from at) 1 0; end = x }) (cells_of pg n x)) d.next-is)

-- one more before, or not
module _ (from at before : ℕ) {k : ℕ} where
  pub count-one : from < at → k ≡ before + 1 → k ≡ before + pick (ltb from at) 1 0
  count-one h e = e ∙ rw (lt-ltb from at h)

  pub count_none : at ≤ from → k ≡ before → k ≡ before + pick (ltb from at) 1 0
  count_none h e =
      let z : before ≡ before + 0 = omega arith in
      e ∙ rw (le-ltb from at h) z
