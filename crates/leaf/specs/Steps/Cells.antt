-- One step of a walk over cells, as the code takes it: where the next cell ends, or why the walk cannot go on.
use Rattle.std.specs.Prelude.{List, ℕ, Result, Ok, Err}
use Rattle.row.specs.Read.{cell_at}
use Rattle.row.specs.declared.Fault.{Fault}
use Rattle.leaf.specs.Cells.{on_cell, step_of, on_step}
use Rattle.row.specs.Fault.{cell_fault, structural}

-- where that cell ends, or the fault of a cell after which a walk cannot go on
unfoldable pub step_end : List ℕ → (p k c at : ℕ) → Result ℕ Fault
step_end s p k c at = on_step (λ x. Ok x.next) (λ f. Err f) (step_of s p k c at)

unfoldable pub step_fault : List ℕ → (p at : ℕ) → Fault
step_fault s p at = on_cell (λ x. structural p) (λ kind. cell_fault p at kind) (cell_at s at)
