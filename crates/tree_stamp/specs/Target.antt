-- The version that is to be stamped (document 01, sections 4 and 5), with what its leaf has beside it: how many cells stand
-- before it, and where the leaf's cells end.
use Rattle.std.specs.Prelude.{List, ℕ, ◌+◌, ltb}
use Rattle.store.specs.Pick.{pick}
use Rattle.row.specs.declared.Cell.{Cell}
use Rattle.leaf.specs.Cells.{cells, fold_cells}
use Rattle.tree_stamp.specs.declared.Beside.{Beside}
use Rattle.tree_stamp.specs.declared.Target.{Target}
use Rattle.page.specs.Header.{header_size}

-- past one more cell, which starts where the one before it ends
abbrev pub beside_step : (at : ℕ) → Beside → Cell → Beside
beside_step at here x = record { before = here.before + pick (ltb here.end at) 1 0; end = x.next }

unfoldable pub beside_of : (at : ℕ) → List Cell → Beside
beside_of at cs = fold_cells (beside_step at) (record { before = 0; end = header_size }) cs

abbrev pub target_of : List ℕ → (p : ℕ) → Cell → Target
target_of pg p c = record { leaf = p; cell = c; beside = beside_of c.at (cells pg) }
