-- A key is a signed number of 32 bits (document 01, section 2). Its rank is its place among all of them, the least
-- first: an unsigned number with the keys' order. Inside, a key is its rank.
use Rattle.std.specs.Prelude.{List, ℕ, suc, ◌+◌, ◌-◌, ◌%◌, ℤ, pos, negsuc}
use Rattle.store.specs.Le.{le_at, bytes_le}

abbrev pub rank_of : ℤ → ℕ
rank_of (pos n) = 2147483648 + n
rank_of (negsuc n) = 2147483648 - suc n

-- the rank of the key whose bits are b; also the bits of the key whose rank is b
unfoldable pub flip : ℕ → ℕ
flip b = (b + 2147483648) % 4294967296

-- the four bytes that are stored for the key of rank r, and the rank of the key stored at a
abbrev pub key_bytes : ℕ → List ℕ
key_bytes r = bytes_le 4 (flip r)

abbrev pub rank_at : List ℕ → ℕ → ℕ
rank_at s a = flip (le_at 4 s a)
