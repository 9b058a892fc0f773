-- "No page twice" (document 01, section 3), of a list of page numbers.
use Rattle.std.specs.Prelude.{Bool, true, not, ◌&&◌, List, [], ◌∷◌, ℕ}
use Rattle.mvcc.specs.Lists.{mem}

unfoldable pub distinct : List ℕ → Bool
distinct [] = true
distinct (x ∷ xs) = not (mem x xs) && distinct xs
