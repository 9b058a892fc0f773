-- What the reader's own steps answer: the head of a payload, and where a cell ends.
use Rattle.std.specs.Prelude.{List, ℕ, Option, Some, None, Result, Ok, Err}
use Rattle.row.specs.declared.Cell.{Cell}
use Rattle.row.specs.declared.CellFault.{CellFault}
use Rattle.row.specs.Read.{pointer_place, data_place, head_fault, or_fault, cell_at}

unfoldable pub head_at : List ℕ → (i m : ℕ) → Result (ℕ × ℕ) CellFault
head_at s i m = or_fault (head_fault s i m) (Ok (pointer_place s i, data_place s i))

-- where the cell at an offset ends, if there is one
abbrev pub end_of : Result Cell CellFault → Option ℕ
end_of (Ok c) = Some c.next
end_of (Err kind) = None

unfoldable pub end_at : List ℕ → ℕ → Option ℕ
end_at s at = end_of (cell_at s at)
