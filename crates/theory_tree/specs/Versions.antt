-- The versions of every key, "taken by creator number, then arrival" (demand 3; document 01, section 4: "Among versions of one
-- key and creator, arrival means chain order"), and the choice of lookup and stamp.
use Rattle.std.specs.Prelude.{◌≡◌, Bool, ◌&&◌, List, [], ◌∷◌, ℕ, ltb, eqb, Option, None, Some}
use Rattle.store.specs.Pick.{pick}
use Rattle.leaf.specs.Rows.{Row, only, of_key}

-- a row of the key k and the creator c
abbrev pub of_version : ℕ → ℕ → Row → Bool
of_version k c x = eqb x.key k && eqb x.creator c

-- those of the key k and the creator c, as they arrived
abbrev pub arrivals : ℕ → ℕ → List Row → List Row
arrivals k c l = only (of_version k c) l

abbrev pub SameVersions : List Row → List Row → Type 0
SameVersions l m = (k c : ℕ) → arrivals k c l ≡ arrivals k c m

-- ---- "the largest visible creator; on a tie the last in chain order"

-- the last that v accepts
abbrev pub or_else : Option Row → Option Row → Option Row
or_else None b = b
or_else (Some x) b = Some x

abbrev pub when : Bool → Row → Option Row
when b x = pick b (Some x) None

abbrev pub last_of : (Row → Bool) → List Row → Option Row
last_of v [] = None
last_of v (x ∷ xs) = or_else (last_of v xs) (when (v x) x)

-- y stands behind x: the larger creator, on a tie the later
abbrev pub better : Row → Option Row → Option Row
better y None = Some y
better y (Some x) = pick (ltb y.creator x.creator) (Some x) (Some y)

abbrev pub merge : Option Row → Option Row → Option Row
merge None o = o
merge (Some y) o = better y o

-- of the rows of the key k that v accepts
abbrev pub best : (Row → Bool) → ℕ → List Row → Option Row
best v k [] = None
best v k (x ∷ xs) = merge (best v k xs) (when (of_key k x && v x) x)
