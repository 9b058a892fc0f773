-- The other half of entering: a page divides, and its right half is entered above it.
use Rattle.std.specs.Prelude.{List, ℕ}
use Rattle.page.specs.Page.{page}
use Rattle.page.specs.Pool.{next_page, Grown}
use Rattle.inner_edit.specs.Edit.{middle_key}
use Rattle.tree_grow.specs.Grow.{halved, enter_of}

-- page p divides, and its right half is entered above it
abbrev pub divide_of : (ps : List ℕ) → (p i sep new : ℕ) → Grown → Grown
divide_of ps p i sep new g = enter_of ps p (middle_key i sep new (page g.pool p)) (next_page g.pool g.state) (halved p i sep new g)
