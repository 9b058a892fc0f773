-- What happens above a page that was divided (document 01, section 5; btree.rs, insert_in_parent, split_internal and
-- pin_root): the separator and the new page are entered above, a page with 511 keys divides in turn, the root grows, and a
-- root other than 0 keeps its number.
use Rattle.std.specs.Prelude.{List, [], ◌∷◌, ℕ, ◌+◌, ltb, eqb}
use Rattle.store.specs.Pick.{pick}
use Rattle.store.specs.Part.{part, pad}
use Rattle.page.specs.Page.{page, set_page}
use Rattle.page.specs.Header.{node_type, cell_count, with_node_type, with_is_root, with_parent, header_size, node_internal}
use Rattle.page.specs.Pool.{next_page, allocated, with_fresh, Grown, grown}
use Rattle.page.specs.Key.{rank_at}
use Rattle.page.specs.declared.pool.State.{State}
use Rattle.inner.specs.Inner.{key_at, child_at, children_of, max_keys}
use Rattle.inner.specs.Route.{child_place}
use Rattle.inner_edit.specs.Edit.{with_entry, left_half, middle_key, right_half, top_page, adopted}

-- page c gets the parent q; two pages do, the first one first
abbrev pub linked : (c q : ℕ) → List ℕ → List ℕ
linked c q s = set_page c (with_parent q (page s c)) s

abbrev pub linked_both : (old new q : ℕ) → List ℕ → List ℕ
linked_both old new q s = linked new q (linked old q s)

-- "the new top": the next page, over the old one and the new
unfoldable pub top_over : (old sep new : ℕ) → Grown → Grown
top_over old sep new g = top_at (next_page g.pool g.state) (with_fresh g.pool g.state) (allocated g.pool g.state).state
  where
    top_at : ℕ → List ℕ → State → Grown
    top_at t s st = grown (linked_both old new t (set_page t (top_page old sep new (page s t)) s)) (record { root = t; used = st.used })

-- the place of the child old in page p: the first one
abbrev pub place_in : List ℕ → (old : ℕ) → ℕ
place_in pg old = child_place old (children_of pg)

-- page p has room: the pair directly after old, and both linked to p
unfoldable pub joined_to : (p old sep new : ℕ) → Grown → Grown
joined_to p old sep new g =
    grown (linked_both old new p (set_page p (with_entry (place_in (page g.pool p) old) sep new (page g.pool p)) g.pool)) g.state

-- page p has 510 keys and a pair to come after child i: half of it goes to the next page, whose children are linked to it
unfoldable pub halved : (p i sep new : ℕ) → Grown → Grown
halved p i sep new g = halved_at (next_page g.pool g.state) (with_fresh g.pool g.state) (allocated g.pool g.state).state
  where
    halved_at : ℕ → List ℕ → State → Grown
    halved_at q s st = grown (adopted 256 0 q q (set_page p (left_half i sep new (page s p)) (set_page q (right_half i sep new (page s p) (page s q)) s))) st

-- the separator and the page new are entered above the page old; ps are the pages above it, the nearest first
unfoldable pub enter_of : (ps : List ℕ) → (old sep new : ℕ) → Grown → Grown
enter_of [] old sep new g = top_over old sep new g
enter_of (p ∷ ps) old sep new g =
    pick (ltb (cell_count (page g.pool p)) max_keys) (joined_to p old sep new g)
    (enter_of ps p (middle_key (place_in (page g.pool p) old) sep new (page (linked new p g.pool) p)) (next_page (linked new p g.pool) g.state)
    (halved p (place_in (page g.pool p) old) sep new (grown (linked new p g.pool) g.state)))

-- ---- "Any other root keeps its number: the new top's content goes to it, its old image, is-root cleared, to one more
-- page, and the spent top page is lost"

-- the image of the page fixed in page z
abbrev pub moved_to : (fixed z : ℕ) → List ℕ → List ℕ
moved_to fixed z s = set_page z (with_parent fixed (with_is_root 0 (page s fixed))) s

-- the children of an internal page z are linked to it
unfoldable pub relinked : (z : ℕ) → List ℕ → List ℕ
relinked z s = pick (eqb (node_type (page s z)) node_internal) (adopted (cell_count (page s z) + 1) 0 z z s) s

-- the top's content in the page that was the root; its bytes 8 to 11 stay
abbrev pub top_in : (left sep right : ℕ) → List ℕ → List ℕ
top_in left sep right pg = top_page left sep right (with_parent 0 (with_node_type node_internal (pad 4096 (part 0 header_size pg))))

unfoldable pub pin_of : (fixed : ℕ) → Grown → Grown
pin_of fixed g =
    pin_at (next_page g.pool g.state) (key_at (page g.pool g.state.root) 0) (child_at (page g.pool g.state.root) 1)
    (with_fresh g.pool g.state)
    (allocated g.pool g.state).state
  where
    topped : (z sep new : ℕ) → List ℕ → List ℕ
    topped z sep new s = linked_both z new fixed (set_page fixed (top_in z sep new (page s fixed)) s)

    pin_at : (z sep new : ℕ) → List ℕ → State → Grown
    pin_at z sep new s st = grown (topped z sep new (relinked z (moved_to fixed z s))) (record { root = fixed; used = st.used })

-- "Root 0 moves to the new top"
unfoldable pub kept_root : (original : ℕ) → Grown → Grown
kept_root original g = pick (eqb original 0) g (pick (eqb g.state.root original) g (pin_of original g))

-- the leaf p has divided, and page q is its right side, whose first key goes up
unfoldable pub settled : (ps : List ℕ) → (p q : ℕ) → Grown → Grown
settled ps p q g = kept_root g.state.root (enter_of ps p (rank_at (page g.pool q) header_size) q g)
