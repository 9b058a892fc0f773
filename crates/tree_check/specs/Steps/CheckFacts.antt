-- What the judgement of section 3 has to do with the section's words: the walk from the last child to the first says yes
-- exactly for a tree that is sound, linked and without a page twice.
use Rattle.std.specs.Prelude.{◌≡◌, true, List, ℕ}
use Rattle.tree_check.specs.Check.{sound_tree, leaves_of, pages_of, leaves_linked, well_at}
use Rattle.tree_check.specs.Steps.Check.{check_of, is_first}
use Rattle.tree.specs.Distinct.{distinct}

-- the links make the pages distinct
abbrev pub LinksPart : Type 0
LinksPart =
    (k used root : ℕ) (s : List ℕ) → sound_tree s used k 0 root 0 4294967295 ≡ true → leaves_linked s (leaves_of s k root) ≡ true
    → distinct (pages_of s k root) ≡ true

abbrev pub CheckIsWell : Type 0
CheckIsWell = (k used root : ℕ) (s : List ℕ) → is_first (check_of s used k 0 root 0 4294967295 0) ≡ well_at s used root k
