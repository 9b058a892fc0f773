-- What is proved of the edits of a leaf: each says again over rows what sections 2 and 5 say. A sound leaf is one that was
-- judged, its cells ending at e.
use Rattle.std.specs.Prelude.{◌≡◌, List, ◌∷◌, ◌++◌, map, ℕ, ◌+◌, ◌≤◌, length, take, drop, Some}
use Rattle.page.specs.Header.{cell_count, header_size}
use Rattle.row.specs.Write.{stamp_len}
use Rattle.row.specs.declared.Cell.{Cell}
use Rattle.leaf.specs.Cells.{cells}
use Rattle.leaf.specs.Rows.{Row, RowFits, row_of, rows, row_size, row_bytes, rows_bytes, write_rows}
use Rattle.leaf.specs.Place.{place_of}
use Rattle.leaf.specs.RowFacts.{Sound}
use Rattle.leaf_edit.specs.Edit.{with_cell, with_stamp, without}

-- x put in at place i
abbrev pub insert_row : ℕ → Row → List Row → List Row
insert_row i x xs = take i xs ++ (x ∷ drop i xs)

-- a cell that is put in at its place is a row more, at that place
abbrev pub InsertInserts : Type 0
InsertInserts =
    (pg : List ℕ) (e : ℕ) (r : Row) → Sound pg e → RowFits r → e + row_size r ≤ 4096
    → with_cell (place_of r.key r.creator (cells pg)).at e (cell_count pg) (row_bytes r) pg
    ≡ write_rows (insert_row (place_of r.key r.creator (cells pg)).before r (rows pg)) pg

-- a cell that is stamped is that row stamped
abbrev pub stamp_row : ℕ → Row → Row
stamp_row d r = record { key = r.key; creator = r.creator; stamp = Some d; pointer = r.pointer; body = r.body }

abbrev pub StampStamps : Type 0
StampStamps =
    (pg : List ℕ) (e d : ℕ) (before after : List Cell) (c : Cell) → Sound pg e → cells pg ≡ before ++ (c ∷ after) → e + 9 ≤ 4096 + stamp_len c.version.stamp
    → with_stamp d e c pg ≡ write_rows (map (row_of pg) before ++ (stamp_row d (row_of pg c) ∷ map (row_of pg) after)) pg

-- cells that are taken out are rows less
abbrev pub bytes_of : List ℕ → List Cell → ℕ
bytes_of pg cs = length (rows_bytes (map (row_of pg) cs))

abbrev pub OutIsOut : Type 0
OutIsOut =
    (pg : List ℕ) (e : ℕ) (before out after : List Cell) → Sound pg e → cells pg ≡ before ++ (out ++ after)
    → without (header_size + bytes_of pg before) (header_size + bytes_of pg before + bytes_of pg out) (length out) e (cell_count pg) pg
    ≡ write_rows (map (row_of pg) before ++ map (row_of pg) after) pg
