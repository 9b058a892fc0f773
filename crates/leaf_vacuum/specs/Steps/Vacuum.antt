-- How the code vacuums a leaf: cell by cell in place, each drop moving the tail.
use Rattle.std.specs.Prelude.{Bool, true, List, ℕ, zero, suc, ◌+◌, ◌-◌, None}
use Rattle.store.specs.Part.{part, pad, spliced}
use Rattle.row.specs.Read.{cell_at}
use Rattle.row.specs.Write.{cell_bytes}
use Rattle.row.specs.declared.Cell.{Cell}
use Rattle.mvcc.specs.Vacuum.{fate}
use Rattle.leaf.specs.Cells.{on_cell}
use Rattle.leaf_edit.specs.Edit.{without}
use Rattle.leaf_vacuum.specs.Vacuum.{on_fate, Swept}

-- the page, whose cells end at e, with the cell c's stamp cleared
unfoldable pub without_stamp : (e : ℕ) → Cell → List ℕ → List ℕ
without_stamp e c pg =
    pad 4096
    (spliced c.at c.next e
    (cell_bytes c.key c.version.creator None c.version.pointer (part c.version.start c.version.len pg))
    pg)

-- n cells from `at` on are left to look at, of k cells that end at e; so far d went
unfoldable pub sweep : (ℕ → ℕ) → (bound n at e k d : ℕ) → Bool → List ℕ → Swept
sweep st bound zero at e k d changed pg = record { page = pg; told = record { dropped = d; changed = changed } }
sweep st bound (suc n) at e k d changed pg =
    on_cell
    (λ c.
    on_fate
    (sweep st bound n at (e - (c.next - c.at)) (k - 1) (d + 1) true (without at c.next 1 e k pg))
    (sweep st bound n (c.next - 8) (e - 8) k d true (without_stamp e c pg))
    (sweep st bound n c.next e k d changed pg)
    (fate st bound c.version.creator c.version.stamp))
    (λ kind. record { page = pg; told = record { dropped = d; changed = changed } })
    (cell_at pg at)
