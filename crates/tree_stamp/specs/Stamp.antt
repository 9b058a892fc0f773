-- A version stamped in its leaf (document 01, section 5; btree.rs, mark_deleted_visible): over the stamp that it has, or by
-- 8 bytes longer; then the leaf may be overfull and divides "exactly as on insert".
use Rattle.std.specs.Prelude.{Some, Result, List, ℕ, ◌+◌, ◌-◌, ltb}
use Rattle.store.specs.Pick.{pick}
use Rattle.store.specs.Part.{part, spliced}
use Rattle.page.specs.Page.{page, set_page}
use Rattle.page.specs.Header.{cell_count, header_size, leaf_room}
use Rattle.page.specs.declared.pool.State.{State}
use Rattle.row.specs.Write.{stamp_len, cell_bytes}
use Rattle.row.specs.declared.Cell.{Cell}
use Rattle.row.specs.declared.Fault.{Fault}
use Rattle.leaf.specs.Place.{cut_leaf}
use Rattle.leaf.specs.declared.place.Cut.{Cut}
use Rattle.leaf_edit.specs.Edit.{with_stamp}
use Rattle.page.specs.Pool.{Grown, grown}
use Rattle.tree_room.specs.Room.{leaf_plan}
use Rattle.tree_room.specs.Up.{divided_up}
use Rattle.tree_room.specs.declared.Planned.{Planned}
use Rattle.tree_stamp.specs.declared.Target.{Target}

-- a stamp is 9 bytes long, and none 1
abbrev pub longer : Cell → ℕ
longer c = 9 - stamp_len c.version.stamp

-- the bytes of all cells, with that one stamped
abbrev pub bytes_stamped : Target → ℕ
bytes_stamped t = t.beside.end - header_size + longer t.cell

abbrev pub cut_stamped : List ℕ → Target → Cut
cut_stamped pg t =
    cut_leaf pg (bytes_stamped t) t.beside.before t.cell.next (cell_count pg - (t.beside.before + 1)) (t.cell.next - t.cell.at + longer t.cell)

unfoldable pub stamp_plan : List ℕ → State → Target → Result Planned Fault
stamp_plan s st t = leaf_plan s st t.leaf (ltb leaf_room (bytes_stamped t)) (cut_stamped (page s t.leaf) t)

-- the leaf's bytes with the cell stamped by d; they may be more than a page holds
abbrev pub spliced_stamp : (d : ℕ) → Target → List ℕ → List ℕ
spliced_stamp d t pg = spliced_cell t.cell
  where
    spliced_cell : Cell → List ℕ
    spliced_cell c =
        spliced c.at c.next t.beside.end
        (cell_bytes c.key c.version.creator (Some d) c.version.pointer (part c.version.start c.version.len pg)) pg

unfoldable pub stamped_at : (d : ℕ) → Target → Planned → Grown → Grown
stamped_at d t plan g =
    pick plan.over (divided_up plan t.leaf (cell_count pg) (spliced_stamp d t pg) g)
    (grown (set_page t.leaf (with_stamp d t.beside.end t.cell pg) g.pool) g.state)
  where
    pg : List ℕ
    pg = page g.pool t.leaf
