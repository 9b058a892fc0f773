-- Edits of a leaf page, each by its bytes (document 01, sections 2 and 5); laws say each again over rows.
use Rattle.std.specs.Prelude.{List, [], ℕ, ◌+◌, ◌-◌, Some}
use Rattle.store.specs.Part.{part, pad, spliced}
use Rattle.page.specs.Header.{with_count}
use Rattle.row.specs.Write.{cell_bytes}
use Rattle.row.specs.declared.Cell.{Cell}

-- the page, whose n cells end at e, with a cell's bytes x put in at `at`
unfoldable pub with_cell : (at e n : ℕ) → List ℕ → List ℕ → List ℕ
with_cell at e n x pg = with_count (n + 1) (pad 4096 (spliced at at e x pg))

-- the page, whose cells end at e, with the cell c stamped by d
unfoldable pub with_stamp : (d e : ℕ) → Cell → List ℕ → List ℕ
with_stamp d e c pg =
    pad 4096
    (spliced c.at c.next e
    (cell_bytes c.key c.version.creator (Some d) c.version.pointer (part c.version.start c.version.len pg))
    pg)

-- the page, whose n cells end at e, without the k cells that stand from a to b
unfoldable pub without : (a b k e n : ℕ) → List ℕ → List ℕ
without a b k e n pg = with_count (n - k) (pad 4096 (spliced a b e [] pg))
