-- The rows of a leaf, which are its cells without their places (row/Row), their bytes, and what writing a leaf does
-- (document 01, section 2: "zeroes bytes 12 to 4095, stores the cells one after another and sets the count; bytes 8 to 11
-- stay").
use Rattle.std.specs.Prelude.{List, [], ◌∷◌, ◌++◌, map, Bool, ℕ, ◌≤◌, ◌<◌, length, eqb}
use Rattle.store.specs.Part.{part, pad}
use Rattle.store.specs.Pick.{pick}
use Rattle.page.specs.Header.{cell_count, with_count, header_size}
use Rattle.row.specs.Write.{max_data}
use Rattle.row.specs.Exact.{StampFits, PointerFits}
use Rattle.row.specs.declared.Cell.{Cell}
pub use Rattle.row.specs.Row.{Row, row_size, row_bytes}
use Rattle.leaf.specs.Cells.{cells_of}

-- a row's numbers and its data fit a cell
pub record RowFits (r : Row) : Type 0 where
  pub key : r.key < 4294967296
  pub creator : r.creator < 18446744073709551616
  pub stamp : StampFits r.stamp
  pub pointer : PointerFits r.pointer
  pub body : length r.body ≤ max_data

abbrev pub AllFit : List Row → Type 0
AllFit [] = Unit
AllFit (r ∷ rs) = RowFits r × AllFit rs

-- the row that a cell of s holds
abbrev pub row_of : List ℕ → Cell → Row
row_of s c =
    record {
      key = c.key;
      creator = c.version.creator;
      stamp = c.version.stamp;
      pointer = c.version.pointer;
      body = part c.version.start c.version.len s;
    }

abbrev pub rows_of : List ℕ → (n at : ℕ) → List Row
rows_of s n at = map (row_of s) (cells_of s n at)

-- the rows of a leaf page
abbrev pub rows : List ℕ → List Row
rows pg = rows_of pg (cell_count pg) header_size

unfoldable pub rows_bytes : List Row → List ℕ
rows_bytes [] = []
rows_bytes (r ∷ rs) = row_bytes r ++ rows_bytes rs

-- the leaf page with these rows
unfoldable pub write_rows : List Row → List ℕ → List ℕ
write_rows rs pg = with_count (length rs) (pad 4096 (part 0 header_size pg ++ rows_bytes rs))

-- the rows that a test keeps, in their order; and whether a row is of the key k
abbrev pub only : (Row → Bool) → List Row → List Row
only f [] = []
only f (x ∷ xs) = pick (f x) (x ∷ only f xs) (only f xs)

abbrev pub of_key : ℕ → Row → Bool
of_key k x = eqb x.key k
