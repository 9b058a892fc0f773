-- A part of a list, and a list with a part replaced: every store and every copy is said in these words.
use Rattle.std.specs.Prelude.{List, ◌++◌, ℕ, ◌-◌, length, take, drop, replicate}

-- the n elements from a on
unfoldable pub part : ℕ → ℕ → List ℕ → List ℕ
part a n s = take n (drop a s)

-- s with x in the place of the n elements from a on
unfoldable pub splice : ℕ → ℕ → List ℕ → List ℕ → List ℕ
splice a n x s = take a s ++ (x ++ drop n (drop a s))

-- s with x stored from a on
unfoldable pub put : ℕ → List ℕ → List ℕ → List ℕ
put a x s = splice a (length x) x s

abbrev pub zeros : ℕ → List ℕ
zeros n = replicate n 0

-- x, and zeros up to n elements
unfoldable pub pad : ℕ → List ℕ → List ℕ
pad n x = x ++ zeros (n - length x)

-- the first e elements of s, with new in the place of those from a up to b
unfoldable pub spliced : (a b e : ℕ) → List ℕ → List ℕ → List ℕ
spliced a b e new s = part 0 a s ++ (new ++ part b (e - b) s)
