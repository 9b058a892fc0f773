-- The records of a listing (document 01, section 2): "one record per version: u32 length of what follows, kind u16 = 1,
-- then the leaf cell".
use Rattle.std.specs.Prelude.{List, [], ◌∷◌, ◌++◌, ℕ}
use Rattle.row.specs.Write.{record_bytes}
use Rattle.leaf.specs.Rows.{Row, row_bytes}

unfoldable pub records : List Row → List ℕ
records [] = []
records (r ∷ rs) = record_bytes 1 (row_bytes r) ++ records rs
