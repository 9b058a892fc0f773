-- A sound leaf is one that was judged, its cells ending at e; what is proved of the rows of a leaf that is written, and
-- of a sound one.
use Rattle.std.specs.Prelude.{Ok, ◌≡◌, List, ℕ, ◌+◌, ◌≤◌, length}
use Rattle.store.specs.Le.{AreBytes}
use Rattle.page.specs.Header.{node_type, cell_count, next_leaf, header_size, leaf_room}
use Rattle.leaf.specs.Cells.{judge_leaf}
use Rattle.leaf.specs.Rows.{Row, AllFit, rows, rows_bytes, write_rows}

pub record Sound (pg : List ℕ) (e : ℕ) : Type 0 where
  pub bytes : AreBytes pg
  pub whole : length pg ≡ 4096
  pub judged : judge_leaf pg 0 ≡ Ok e

-- rows that are written are read back, and the header's other fields stay
abbrev pub RowsAreRead : Type 0
RowsAreRead =
    (rs : List Row) (pg : List ℕ) → length pg ≡ 4096 → AllFit rs → length (rows_bytes rs) ≤ leaf_room
    → (rows (write_rows rs pg) ≡ rs) × (node_type (write_rows rs pg) ≡ node_type pg) × (next_leaf (write_rows rs pg) ≡ next_leaf pg)

-- the rows of a sound leaf fill its bytes up to the end of its cells, are as many as it counts, and fit cells
abbrev pub RowsFill : Type 0
RowsFill = (pg : List ℕ) (e : ℕ) → Sound pg e → (header_size + length (rows_bytes (rows pg)) ≡ e) × (length (rows pg) ≡ cell_count pg) × AllFit (rows pg)
