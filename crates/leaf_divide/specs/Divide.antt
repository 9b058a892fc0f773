-- A leaf divided over two pages (document 01, section 5; btree.rs, split_leaf): v is what the leaf would hold, header
-- first, were it long enough; the left side stays, the right side goes to a fresh page; next-leaf links go left, new,
-- what was next before.
use Rattle.std.specs.Prelude.{List, ◌++◌, ℕ, ◌+◌, ◌-◌, length}
use Rattle.store.specs.Part.{part, pad}
use Rattle.page.specs.Page.{page, set_page}
use Rattle.page.specs.Header.{next_leaf, with_node_type, with_count, with_next_leaf, header_size, node_leaf}
use Rattle.leaf.specs.declared.place.Cut.{Cut}

-- the left side: the cut's cells, linked to page q
unfoldable pub left_leaf : (q : ℕ) → Cut → List ℕ → List ℕ
left_leaf q cut v = with_next_leaf q (with_count cut.cells (pad 4096 (part 0 (header_size + cut.bytes) v)))

-- the right side, of n cells in all, in a fresh page of zeros, linked to the page that was next
unfoldable pub right_leaf : (next n : ℕ) → Cut → List ℕ → List ℕ → List ℕ
right_leaf next n cut v fresh =
    with_next_leaf next
    (with_count (n - cut.cells) (pad 4096 (part 0 header_size (with_node_type node_leaf fresh) ++ part (header_size + cut.bytes) (length v - (header_size + cut.bytes)) v)))

-- page p of the pool divided so, with page q as the fresh one; v and n are of the leaf as it would be
unfoldable pub divided : (p q n : ℕ) → Cut → List ℕ → List ℕ → List ℕ
divided p q n cut v s = set_page p (left_leaf q cut v) (set_page q (right_leaf (next_leaf (page s p)) n cut v (page s q)) s)
