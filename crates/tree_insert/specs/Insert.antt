-- A new version put into its leaf (document 01, section 5): in place where it fits; otherwise the leaf divides, and what
-- follows above is said by `settled`.
use Rattle.std.specs.Prelude.{Result, List, ℕ, ◌+◌, ◌-◌, ltb}
use Rattle.store.specs.Pick.{pick}
use Rattle.store.specs.Part.{spliced}
use Rattle.page.specs.Page.{page, set_page}
use Rattle.page.specs.Header.{cell_count, header_size, leaf_room}
use Rattle.page.specs.declared.pool.State.{State}
use Rattle.leaf.specs.Place.{cut_leaf}
use Rattle.leaf.specs.declared.place.Cut.{Cut}
use Rattle.leaf_edit.specs.Edit.{with_cell}
use Rattle.page.specs.Pool.{Grown, grown}
use Rattle.tree_room.specs.Room.{leaf_plan}
use Rattle.tree_room.specs.Up.{divided_up}
use Rattle.tree_insert.specs.declared.Spot.{Spot}
use Rattle.tree_room.specs.declared.Planned.{Planned}
use Rattle.row.specs.declared.Fault.{Fault}

-- the bytes of all cells, with a new one of m bytes
abbrev pub bytes_with : Spot → (m : ℕ) → ℕ
bytes_with x m = x.end - header_size + m

-- where the leaf with that cell would be cut
abbrev pub cut_with : List ℕ → Spot → (m : ℕ) → Cut
cut_with pg x m = cut_leaf pg (bytes_with x m) x.place.before x.place.at (cell_count pg - x.place.before) m

-- "An overfull leaf (cells over 4084 bytes) is cut"
unfoldable pub insert_plan : List ℕ → State → Spot → (m : ℕ) → Result Planned Fault
insert_plan s st x m = leaf_plan s st x.leaf (ltb leaf_room (bytes_with x m)) (cut_with (page s x.leaf) x m)

-- the leaf's bytes with the cell's bytes b at its place; they may be more than a page holds
abbrev pub spliced_at : Spot → (b pg : List ℕ) → List ℕ
spliced_at x b pg = spliced x.place.at x.place.at x.end b pg

-- the cell of the bytes b at the spot
unfoldable pub inserted_at : Spot → Planned → (b : List ℕ) → Grown → Grown
inserted_at x plan b g =
    pick plan.over
    (divided_up plan x.leaf (cell_count pg + 1) (spliced_at x b pg) g)
    (grown (set_page x.leaf (with_cell x.place.at x.end (cell_count pg) b pg) g.pool) g.state)
  where
    pg : List ℕ
    pg = page g.pool x.leaf
