-- What a stamp's cut gives its stores.
use Rattle.std.specs.Prelude.{Ok, None, ◌≡◌, List, ℕ, ◌+◌, ◌≤◌, ◌<◌}
use Rattle.row.specs.Read.{cell_at}
use Rattle.leaf.specs.declared.place.Cut.{Cut}
use Rattle.tree_stamp.specs.declared.Target.{Target}
use Rattle.page.specs.Header.{header_size, leaf_room}

-- a cut of n cells, one of them live and to be stamped: it goes between two of them, and both sides fit a page
pub record StampCutStands (t : Target) (n : ℕ) (cut : Cut) (pg : List ℕ) : Type 0 where
  pub there : cell_at pg t.cell.at ≡ Ok t.cell
  pub live : t.cell.version.stamp ≡ None
  pub low : header_size ≤ t.cell.at
  pub inside : t.cell.next ≤ t.beside.end
  pub within : t.beside.end ≤ 4096
  pub few : n < 65536
  pub cells : cut.cells ≤ n
  pub left : cut.bytes ≤ leaf_room
  pub right : t.beside.end + 8 ≤ 4096 + cut.bytes
  pub whole : header_size + cut.bytes ≤ t.beside.end + 8
  pub before : cut.cells ≤ t.beside.before → header_size + cut.bytes ≤ t.cell.at
  pub after : t.beside.before < cut.cells → t.cell.next + 8 ≤ header_size + cut.bytes
