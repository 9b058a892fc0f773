-- Functions on shapes and pages in which the proofs speak: parent links set one after another, the leaves, and those from
-- which a search walks. Assumes nothing.
use mathlib.Core.Bool.{Bool, false, ◌&&◌, ◌||◌}
use mathlib.Core.List.{List, [], ◌∷◌, ◌++◌}
use Prim.Native.Nat.{ℕ}
use lib.Dec.{leb, ltb, eqb}
use Rattle.store.specs.Pick.{pick}
use Rattle.leaf.specs.Rows.{Row}
use Rattle.theory_tree.specs.Pages.{Page, leaf_page, inner_page, no_page, Pages, with_page}
use Rattle.theory_tree.specs.Shape.{Shape, leaf, node, pair}

-- y is strictly behind x in the order by key, then creator
abbrev pub after : Row → Row → Bool
after x y = ltb x.key y.key || (eqb x.key y.key && ltb x.creator y.creator)

abbrev pub set_par : ℕ → Page → Page
set_par q (leaf_page par nxt cs) = leaf_page q nxt cs
set_par q (inner_page par j h r) = inner_page q j h r
set_par q no_page = no_page

-- the page numbers of the run itself
abbrev pub roots : Shape → List ℕ
roots (leaf p cs) = p ∷ []
roots (node p f) = p ∷ []
roots (pair a k b) = roots a ++ roots b

-- the children's parent links, one after another
abbrev pub reparent : ℕ → List ℕ → Pages → Pages
reparent q [] w = w
reparent q (p ∷ ps) w = reparent q ps (with_page w p (set_par q (w p)))

-- the leaves' cells from left to right, and their row
abbrev pub leaves : Shape → List (List Row)
leaves (leaf p cs) = cs ∷ []
leaves (node p f) = leaves f
leaves (pair a k b) = leaves a ++ leaves b

abbrev pub flat : List (List Row) → List Row
flat [] = []
flat (l ∷ ls) = l ++ flat ls

-- search: left on key ≤ separator; the leaves from there on
abbrev pub from : ℕ → Shape → List (List Row)
from k (leaf p cs) = cs ∷ []
from k (node p f) = from k f
from k (pair a s b) = pick (leb k s) (from k a ++ leaves b) (from k b)

abbrev pub larger : ℕ → List Row → Bool
larger k [] = false
larger k (x ∷ xs) = ltb k x.key || larger k xs
