-- A text cut at a byte: a list at its line ends, a line at its spaces.
use Rattle.std.specs.Prelude.{List, ℕ, ◌+◌, ◌==◌, length, position, take, drop, unwrap_or}

-- the byte after a line, and the one between two fields
abbrev pub line_end : ℕ
line_end = 10

abbrev pub space : ℕ
space = 32

-- where the first byte b stands in s; the length of s where there is none
abbrev pub byte_or_end : (b : ℕ) → List ℕ → ℕ
byte_or_end b s = unwrap_or (position (λ x. x == b) s) (length s)

-- what stands before the first byte b of s; all of s where there is none
abbrev pub before_byte : (b : ℕ) → List ℕ → List ℕ
before_byte b s = take (byte_or_end b s) s

-- what follows that byte; nothing where there is none
abbrev pub after_byte : (b : ℕ) → List ℕ → List ℕ
after_byte b s = drop (byte_or_end b s + 1) s
