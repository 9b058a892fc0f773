-- The path of a climb (document 01, section 3), read from a level on: the page there, and the pages above it, the nearest
-- first.
use Rattle.std.specs.Prelude.{List, ℕ, ◌+◌, ◌-◌, get_or}
use Rattle.store.specs.Part.{part}
use Rattle.tree.specs.declared.climb.Path.{Path}

abbrev pub page_at : Path → ℕ → ℕ
page_at path level = get_or path.pages level 0

unfoldable pub pages_above : Path → ℕ → List ℕ
pages_above path level = part (level + 1) (path.len - (level + 1)) path.pages
