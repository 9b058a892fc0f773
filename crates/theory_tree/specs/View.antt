-- What the bytes of a pool say, page by page (document 01, sections 2 and 3). Readable is judged here; the order of keys is not.
use Rattle.std.specs.Prelude.{Bool, ◌&&◌, List, [], ◌∷◌, ℕ, zero, suc, ◌+◌, leb, eqb, length}
use Rattle.store.specs.Pick.{pick}
use Rattle.page.specs.Page.{page}
use Rattle.page.specs.Header.{node_type, parent_of, cell_count, next_leaf, node_internal, node_leaf}
use Rattle.leaf.specs.Rows.{rows}
use Rattle.inner.specs.Inner.{key_at, child_at, max_keys}
use Rattle.theory_tree.specs.Pages.{Page, leaf_page, inner_page, no_page, Pages}

-- n keys from the i-th on, each with the child right of it
unfoldable pub entries_from : List ℕ → (i n : ℕ) → List (ℕ × ℕ)
entries_from pg i zero = []
entries_from pg i (suc n) = (key_at pg i, child_at pg (i + 1)) ∷ entries_from pg (i + 1) n

abbrev pub entries_of : List ℕ → List (ℕ × ℕ)
entries_of pg = entries_from pg 0 (cell_count pg)

-- "Leaf cells readable"; "1 to 510 keys"
abbrev pub is_leaf_page : List ℕ → Bool
is_leaf_page pg = eqb (node_type pg) node_leaf && eqb (length (rows pg)) (cell_count pg)

abbrev pub is_inner_page : List ℕ → Bool
is_inner_page pg = eqb (node_type pg) node_internal && (leb 1 (cell_count pg) && leb (cell_count pg) max_keys)

unfoldable pub said : List ℕ → Page
said pg =
    pick (is_leaf_page pg) (leaf_page (parent_of pg) (next_leaf pg) (rows pg))
    (pick (is_inner_page pg) (inner_page (parent_of pg) (next_leaf pg) (child_at pg 0) (entries_of pg)) no_page)

unfoldable pub view : List ℕ → Pages
view s p = said (page s p)
