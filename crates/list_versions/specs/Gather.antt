-- The versions that a walk along the chain meets, in chain order (document 01, section 4: "Versions and all-versions list
-- chain order"): those of a key, until a leaf holds a larger one, or all to the chain's end.
use Rattle.row.specs.declared.Fault.{Fault}
use Rattle.std.specs.Prelude.{Bool, false, List, [], ◌++◌, ℕ, Result}
use Rattle.store.specs.Pick.{pick}
use Rattle.row.specs.declared.Cell.{Cell}
use Rattle.leaf.specs.Cells.{cells, judge_leaf, on_judged, has_larger}
use Rattle.leaf.specs.Rows.{Row, rows, only, of_key}
use Rattle.tree.specs.Chain.{Seen, stop, go, broken, along}
use Rattle.list_versions.specs.declared.Which.{Which}

abbrev pub wanted : Which → List Row → List Row
wanted Which.All rs = rs
wanted (Which.Key key) rs = only (of_key key) rs

-- a larger key ends the search for one
abbrev pub ends : Which → List Cell → Bool
ends Which.All cs = false
ends (Which.Key key) cs = has_larger key cs

-- what one leaf adds
abbrev pub look_rows : Which → List Row → ℕ → List ℕ → Seen (List Row)
look_rows w rs p pg =
    on_judged (λ e. pick (ends w (cells pg)) (stop (rs ++ wanted w (rows pg))) (go (rs ++ wanted w (rows pg)))) (λ f. broken f) (judge_leaf pg p)

-- the rows along the chain from page p on, or the first fault
unfoldable pub rows_along : List ℕ → (used p : ℕ) → Which → Result (List Row) Fault
rows_along s used p w = along s used p (look_rows w) used []
