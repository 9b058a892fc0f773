-- What is told of a page that cannot be read on: its structure is wrong, or a cell of it is, with the cell's offset and the
-- kind of its fault (Read).
use Rattle.std.specs.Prelude.{ℕ}
use Rattle.row.specs.declared.Fault.{Fault}
use Rattle.row.specs.declared.CellFault.{CellFault}

-- of page p: of its structure, or of the cell at `at`
abbrev pub structural : ℕ → Fault
structural p = Fault.Structure p

abbrev pub cell_fault : (p at : ℕ) → CellFault → Fault
cell_fault p at kind = Fault.Cell p at kind

-- the number that document 01, section 2, gives to the kind
abbrev pub kind_number : CellFault → ℕ
kind_number CellFault.Format = 1
kind_number CellFault.Flag = 2
kind_number CellFault.Short = 3
kind_number CellFault.Long = 4

-- a fault by three numbers: kind 1 to 4 and the cell's offset; kind 0 and offset 0 where it is of the page's structure
abbrev pub fault_kind : Fault → ℕ
fault_kind (Fault.Structure _) = 0
fault_kind (Fault.Cell _ _ kind) = kind_number kind

abbrev pub fault_page : Fault → ℕ
fault_page (Fault.Structure p) = p
fault_page (Fault.Cell p _ _) = p

abbrev pub fault_offset : Fault → ℕ
fault_offset (Fault.Structure _) = 0
fault_offset (Fault.Cell _ at _) = at
