-- The order of a leaf's rows as a test, for the laws of places.
use Rattle.std.specs.Prelude.{List, [], ◌∷◌, Bool, true, ◌&&◌, ℕ}
use Rattle.leaf.specs.Cells.{in_order}
use Rattle.leaf.specs.Rows.{Row}

-- none is before the one before it, by key, then creator; the first not before k with c
unfoldable pub ordered : (k c : ℕ) → List Row → Bool
ordered k c [] = true
ordered k c (r ∷ rs) = in_order k c r.key r.creator && ordered r.key r.creator rs
