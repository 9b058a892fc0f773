-- The tree that a pool holds, read off it.
-- Assumes nothing.
use mathlib.Core.List.{List, [], ◌∷◌}
use Prim.Native.Nat.{ℕ, zero, suc}
use Rattle.leaf.specs.Rows.{Row}
use Rattle.theory_tree.specs.Pages.{Page, leaf_page, inner_page, no_page, Pages}
use Rattle.theory_tree.specs.Shape.{Shape, leaf, node, pair}
use Rattle.theory_tree.proofs.Entries.{head_of, rest_of}

abbrev pub cells_of : Page → List Row
cells_of (leaf_page par nxt cs) = cs
cells_of (inner_page par j h r) = []
cells_of no_page = []

-- a run of children, each by f
abbrev pub run : (ℕ → Shape) → ℕ → List (ℕ × ℕ) → Shape
run f h [] = f h
run f h (x ∷ r) = pair (f h) x.0 (run f x.1 r)

-- the subtree of n levels at the page p
abbrev pub read : Pages → ℕ → ℕ → Shape
read w zero p = leaf p (cells_of (w p))
read w (suc n) p = node p (run (read w n) (head_of (w p)) (rest_of (w p)))
