-- What an insertion's cut gives its stores.
use Rattle.std.specs.Prelude.{ℕ, ◌+◌, ◌≤◌, ◌<◌}
use Rattle.leaf.specs.declared.place.Cut.{Cut}
use Rattle.tree_insert.specs.declared.Spot.{Spot}
use Rattle.page.specs.Header.{header_size, leaf_room}

-- a cut of n cells and the new one of m bytes: it goes between two of them, and both sides fit a page
pub record InsertCutStands (x : Spot) (m n : ℕ) (cut : Cut) : Type 0 where
  pub low : header_size ≤ x.place.at
  pub inside : x.place.at ≤ x.end
  pub within : x.end ≤ 4096
  pub few : n < 16384
  pub cells : cut.cells ≤ n
  pub left : cut.bytes ≤ leaf_room
  pub right : x.end + m ≤ 4096 + cut.bytes
  pub whole : header_size + cut.bytes ≤ x.end + m
  pub before : cut.cells ≤ x.place.before → header_size + cut.bytes ≤ x.place.at
  pub after : x.place.before < cut.cells → x.place.at + m ≤ header_size + cut.bytes
