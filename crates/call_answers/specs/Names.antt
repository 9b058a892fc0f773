-- The refusals by name (document 01, section 6, "What comes back"), and a guard: a test with its refusal first, so that a
-- call's refusals read from the top down, in the order of that section: 1, 3, 4, 5, 2, 6 or 8, 7, 9, 11, 10, 12.
use Rattle.std.specs.Prelude.{Bool, ℕ}
use Rattle.store.specs.Pick.{pick}

abbrev pub BadPool : ℕ
BadPool = 1

abbrev pub BadTree : ℕ
BadTree = 2

abbrev pub BadSnapshot : ℕ
BadSnapshot = 3

abbrev pub BadStatuses : ℕ
BadStatuses = 4

abbrev pub BadData : ℕ
BadData = 5

abbrev pub Duplicate : ℕ
Duplicate = 6

abbrev pub Conflict : ℕ
Conflict = 7

abbrev pub Absent : ℕ
Absent = 8

abbrev pub Undividable : ℕ
Undividable = 9

abbrev pub NoPages : ℕ
NoPages = 10

abbrev pub TooDeep : ℕ
TooDeep = 11

abbrev pub Short : ℕ
Short = 12

-- what is refused unless the test holds; and what comes where it does
abbrev pub unless : {A : Type 0} → Bool → A → A → A
unless test refusal rest = pick test rest refusal
