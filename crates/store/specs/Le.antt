-- Little-endian numbers in a list of bytes, for every width (document 01, section 2).
use Rattle.std.specs.Prelude.{List, [], ◌∷◌, ℕ, zero, suc, ◌+◌, ◌*◌, ◌/◌, ◌%◌, ◌<◌, get_or, set}

-- the number that the w bytes of s at a make, the first byte the lowest digit
unfoldable pub le_at : ℕ → List ℕ → ℕ → ℕ
le_at zero s a = 0
le_at (suc w) s a = get_or s a 0 + 256 * le_at w s (a + 1)

-- the w lowest digits of x, the lowest first
unfoldable pub bytes_le : ℕ → ℕ → List ℕ
bytes_le zero x = []
bytes_le (suc w) x = x % 256 ∷ bytes_le w (x / 256)

-- s with the w lowest digits of x stored from a on
unfoldable pub put_at : ℕ → List ℕ → ℕ → ℕ → List ℕ
put_at zero s a x = s
put_at (suc w) s a x = put_at w (set s a (x % 256)) (a + 1) (x / 256)

-- every element is a byte
abbrev pub AreBytes : List ℕ → Type 0
AreBytes s = (i : ℕ) → get_or s i 0 < 256
