-- What is proved of a leaf that divides: it says again over rows what sections 2 and 5 say.
use Rattle.std.specs.Prelude.{◌≡◌, List, ◌++◌, ℕ, ◌≤◌, length}
use Rattle.store.specs.Part.{part, zeros}
use Rattle.page.specs.Header.{with_node_type, with_next_leaf, header_size, leaf_room, node_leaf}
use Rattle.leaf.specs.Rows.{Row, rows_bytes, write_rows}
use Rattle.leaf_divide.specs.Divide.{left_leaf, right_leaf}

-- a leaf divided at a cut between its rows: the left ones, and the right ones in the fresh page
abbrev pub DivideDivides : Type 0
DivideDivides =
    (pg : List ℕ) (left right : List Row) (q next : ℕ) → length pg ≡ 4096 → length (rows_bytes left) ≤ leaf_room → length (rows_bytes right) ≤ leaf_room
    → (left_leaf q (record { cells = length left; bytes = length (rows_bytes left) }) (part 0 header_size pg ++ rows_bytes (left ++ right)) ≡ with_next_leaf q (write_rows left pg))
    × (right_leaf next (length (left ++ right)) (record { cells = length left; bytes = length (rows_bytes left) }) (part 0 header_size pg ++ rows_bytes (left ++ right)) (zeros 4096)
    ≡ with_next_leaf next (write_rows right (with_node_type node_leaf (zeros 4096))))
