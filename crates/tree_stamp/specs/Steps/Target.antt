-- What a lookup gives the stamp that follows it.
use Rattle.std.specs.Prelude.{Ok, ◌≡◌, List, ◌∷◌, ◌++◌, ℕ, ◌<◌}
use Rattle.page.specs.Page.{page}
use Rattle.row.specs.declared.Cell.{Cell}
use Rattle.leaf.specs.Cells.{cells, judge_leaf}

-- what a lookup finds: a cell of a leaf that is in use and was judged
pub record CellMet (used p : ℕ) (c : Cell) (s : List ℕ) : Type 0 where
  pub in_use : p < used
  pub end : ℕ
  pub judged : judge_leaf (page s p) p ≡ Ok end
  pub before : List Cell
  pub after : List Cell
  pub among : cells (page s p) ≡ before ++ (c ∷ after)
