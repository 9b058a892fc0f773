-- The cells of a leaf as a list, and its judgement (document 01, section 3: "cells are readable and non-decreasing by
-- key, then creator"), which answers where the cells end, or the first fault in reading order (its kind by the
-- numbers of row/Fault, `kind_number`).
use Rattle.row.specs.declared.CellFault.{CellFault}
use Rattle.std.specs.Prelude.{Result, Ok, Err, Bool, ◌&&◌, ◌||◌, false, List, [], ◌∷◌, ℕ, zero, suc, leb, ltb, eqb}
use Rattle.store.specs.Pick.{pick}
use Rattle.page.specs.Header.{node_type, cell_count, header_size, node_leaf}
use Rattle.row.specs.Read.{cell_at}
use Rattle.row.specs.declared.Cell.{Cell}
use Rattle.row.specs.declared.Fault.{Fault}
use Rattle.row.specs.Fault.{cell_fault, structural}

-- go on with what was read
abbrev pub on_cell : {A : Type 0} → (Cell → A) → (CellFault → A) → Result Cell CellFault → A
on_cell good bad (Ok c) = good c
on_cell good bad (Err kind) = bad kind

-- n cells from `at` on, up to the first that is not readable
unfoldable pub cells_of : List ℕ → (n at : ℕ) → List Cell
cells_of s zero at = []
cells_of s (suc n) at = on_cell (λ c. c ∷ cells_of s n c.next) (λ kind. []) (cell_at s at)

-- the cells of a leaf page
abbrev pub cells : List ℕ → List Cell
cells pg = cells_of pg (cell_count pg) header_size

-- a fold over cells, the first one first
unfoldable pub fold_cells : {A : Type 0} → (A → Cell → A) → A → List Cell → A
fold_cells f a [] = a
fold_cells f a (c ∷ cs) = fold_cells f (f a c) cs

-- the key k with the creator c is not before k₀ with c₀
unfoldable pub in_order : (k₀ c₀ k c : ℕ) → Bool
in_order k₀ c₀ k c = ltb k₀ k || (eqb k₀ k && leb c₀ c)

-- the next cell of a walk, or the fault that ends it
pub data Step : Type 0 where
  Got : Cell → Step
  Bad : Fault → Step

-- the cell at `at`, after one of key k and creator c; or its fault
unfoldable pub step_of : List ℕ → (p k c at : ℕ) → Step
step_of s p k c at =
    on_cell (λ x. pick (in_order k c x.key x.version.creator) (Step.Got x) (Step.Bad (structural p))) (λ kind. Step.Bad (cell_fault p at kind)) (cell_at s at)

abbrev pub on_step : {A : Type 0} → (Cell → A) → (Fault → A) → Step → A
on_step good ill (Step.Got x) = good x
on_step good ill (Step.Bad f) = ill f

-- n cells from `at` on, after one of key k and creator c
unfoldable pub judge_cells : List ℕ → (p k c n at : ℕ) → Result ℕ Fault
judge_cells s p k c zero at = Ok at
judge_cells s p k c (suc n) at = on_step (λ x. judge_cells s p x.key x.version.creator n x.next) (λ f. Err f) (step_of s p k c at)

-- page p with the bytes pg; no rank and no creator is below 0
unfoldable pub judge_leaf : List ℕ → ℕ → Result ℕ Fault
judge_leaf pg p = pick (eqb (node_type pg) node_leaf) (judge_cells pg p 0 0 (cell_count pg) header_size) (Err (structural p))

abbrev pub on_judged : {A : Type 0} → (ℕ → A) → (Fault → A) → Result ℕ Fault → A
on_judged good bad (Ok e) = good e
on_judged good bad (Err f) = bad f

-- some cell has a larger key
unfoldable pub has_larger : ℕ → List Cell → Bool
has_larger key cs = fold_cells (λ b c. b || ltb key c.key) false cs
