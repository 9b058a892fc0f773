-- What is proved of the cut (document 01, sections 5 and 8): no other cut has a smaller larger side, none earlier is as
-- good, both sides are nonempty; the cases P4, P5 and P6; and a stamp is never Undividable.
use Rattle.std.specs.Prelude.{◌≡◌, true, false, List, [], ◌∷◌, ℕ, ◌+◌, ◌≤◌, ◌<◌, length, take, replicate}
use Rattle.leaf.specs.Place.{larger_side, cut_of, cut_fits}
use Rattle.leaf.specs.declared.place.Cut.{Cut}
use Rattle.page.specs.Header.{leaf_room}

abbrev pub sum : List ℕ → ℕ
sum [] = 0
sum (x ∷ xs) = x + sum xs

-- every size is at least m and at most n
abbrev pub Between : (m n : ℕ) → List ℕ → Type 0
Between m n [] = Unit
Between m n (x ∷ xs) = (m ≤ x) × (x ≤ n) × Between m n xs

-- the cut after the first i cells
abbrev pub cut_at : ℕ → List ℕ → Cut
cut_at i xs = record { cells = i; bytes = sum (take i xs) }

pub record BestCut (xs : List ℕ) (cut : Cut) : Type 0 where
  pub place : cut ≡ cut_at cut.cells xs
  pub left : 1 ≤ cut.cells
  pub right : cut.cells < length xs
  pub smallest : (i : ℕ) → 1 ≤ i → i < length xs → larger_side (sum xs) cut ≤ larger_side (sum xs) (cut_at i xs)
  pub earliest : (i : ℕ) → 1 ≤ i → i < cut.cells → larger_side (sum xs) cut < larger_side (sum xs) (cut_at i xs)

-- of two cells or more, none empty
abbrev pub CutIsBest : Type 0
CutIsBest = (xs : List ℕ) (n : ℕ) → 2 ≤ length xs → Between 1 n xs → BestCut xs (cut_of (sum xs) xs)

-- a leaf that was full to 4084 at most, one of its cells 8 bytes longer now: it divides
abbrev pub StampDivides : Type 0
StampDivides = (xs : List ℕ) → Between 19 leaf_room xs → leaf_room < sum xs → sum xs ≤ 4092 → cut_fits (sum xs) (cut_of (sum xs) xs) ≡ true

pub record CutCases : Type 0 where
  -- P4: with the 215th cell of empty data (4085 bytes) the cut is 107 and 108
  pub p4 : cut_of 4085 (replicate 215 19) ≡ record { cells = 107; bytes = 2033 }
  -- P5: 2000, 4070, 100 is Undividable
  pub p5 : cut_fits 6170 (cut_of 6170 (2000 ∷ 4070 ∷ 100 ∷ [])) ≡ false
  -- P6: two cells of 2042, the first stamped: 2050 and 2042
  pub p6 : cut_of 4092 (2050 ∷ 2042 ∷ []) ≡ record { cells = 1; bytes = 2050 }
