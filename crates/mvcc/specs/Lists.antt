-- Lists of transaction numbers (document 01, sections 4 and 6): strictly rising, membership, the state beside a
-- number, and which active lists are refused.
use Rattle.std.specs.Prelude.{Bool, true, false, ◌&&◌, ◌||◌, List, [], ◌∷◌, ℕ, length, leb, ltb, eqb}
use Rattle.store.specs.Pick.{pick}

-- x, then l, is strictly rising
unfoldable pub rising_from : ℕ → List ℕ → Bool
rising_from x [] = true
rising_from x (y ∷ ys) = ltb x y && rising_from y ys

unfoldable pub rising : List ℕ → Bool
rising [] = true
rising (x ∷ xs) = rising_from x xs

-- each is a state: 1 active, 2 committed, 3 aborted
unfoldable pub are_states : List ℕ → Bool
are_states [] = true
are_states (s ∷ ss) = (leb 1 s && leb s 3) && are_states ss

-- x stands in l
unfoldable pub mem : ℕ → List ℕ → Bool
mem x [] = false
mem x (y ∷ ys) = eqb y x || mem x ys

-- the state beside x, of numbers and the states beside them; 0 where x is absent
unfoldable pub state_at : (ids states : List ℕ) → ℕ → ℕ
state_at (i ∷ is) (s ∷ ss) x = pick (eqb i x) s (state_at is ss x)
state_at [] ss x = 0
state_at (i ∷ is) [] x = 0

abbrev pub max_active : ℕ
max_active = 4096

-- BadSnapshot is "active list over 4096 or not strictly rising"; this is the rest
unfoldable pub good_active : List ℕ → Bool
good_active l = leb (length l) max_active && rising l
