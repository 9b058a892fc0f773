-- Pages as values: what a page says, its bytes aside (document 01, section 2).
use Rattle.std.specs.Prelude.{List, ℕ, eqb}
use Rattle.store.specs.Pick.{pick}
use Rattle.leaf.specs.Rows.{Row}

-- a leaf with its rows, and an internal page with its first child and, for each key, that key and the child right of it; next
-- is what stands in bytes 8 to 11. Anything else is no page.
pub data Page : Type 0 where
  leaf_page : (parent next : ℕ) → List Row → Page
  inner_page : (parent next first : ℕ) → List (ℕ × ℕ) → Page
  no_page : Page

abbrev pub Pages : Type 0
Pages = ℕ → Page

-- the pages with x in the place of page p
unfoldable pub with_page : Pages → ℕ → Page → Pages
with_page w p x q = pick (eqb q p) x (w q)
