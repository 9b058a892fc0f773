-- What the stores of Grow need: every page that is written is there when it is written. By the same steps; and what a
-- climb has found of the pages above, from which with the plan it follows.
use Rattle.std.specs.Prelude.{false, List, [], ◌∷◌, ◌≡◌, ℕ, ◌+◌, ◌*◌, ◌≤◌, ◌<◌, length}
use Rattle.mvcc.specs.Lists.{mem}
use Rattle.page.specs.Page.{page, set_page}
use Rattle.page.specs.Header.{node_type, cell_count}
use Rattle.page.specs.Pool.{next_page, with_fresh, Grown, grown}
use Rattle.inner.specs.Inner.{child_at, max_keys}
use Rattle.inner_edit.specs.Edit.{left_half, middle_key, right_half}
use Rattle.inner_edit.specs.Steps.Edit.{AdoptSafe}
use Rattle.tree_grow.specs.Grow.{linked, place_in, halved, enter_of, moved_to}

-- page p is there
abbrev pub There : (p : ℕ) → List ℕ → Type 0
There p s = p * 4096 + 4096 ≤ length s

-- one more page can be handed out
abbrev pub Free : Grown → Type 0
Free g = (g.state.used < 65536) × There g.state.used g.pool

-- page p divides: it is not the new page, has 510 keys, and every child that moves is there
unfoldable pub HalvedSafe : (p i sep new : ℕ) → Grown → Type 0
HalvedSafe p i sep new g =
    Free g × (p < g.state.used) × (i ≤ max_keys) × (cell_count (page g.pool p) ≡ max_keys)
    × AdoptSafe 256 0 (next_page g.pool g.state) (next_page g.pool g.state)
    (set_page p (left_half i sep new (page (with_fresh g.pool g.state) p))
    (set_page (next_page g.pool g.state) (right_half i sep new (page (with_fresh g.pool g.state) p) (page (with_fresh g.pool g.state) (next_page g.pool g.state)))
    (with_fresh g.pool g.state)))

unfoldable pub EnterSafe : (ps : List ℕ) → (old sep new : ℕ) → Grown → Type 0
EnterSafe [] old sep new g = There old g.pool × There new g.pool × Free g
EnterSafe (p ∷ ps) old sep new g =
    There old g.pool × There new g.pool × There p g.pool × (cell_count (page g.pool p) ≤ max_keys) × (place_in (page g.pool p) old ≤ cell_count (page g.pool p))
    × (cell_count (page g.pool p) ≡ max_keys
    → HalvedSafe p (place_in (page g.pool p) old) sep new (grown (linked new p g.pool) g.state)
    × EnterSafe ps p (middle_key (place_in (page g.pool p) old) sep new (page (linked new p g.pool) p)) (next_page (linked new p g.pool) g.state)
    (halved p (place_in (page g.pool p) old) sep new (grown (linked new p g.pool) g.state)))

abbrev pub DivideSafe : (ps : List ℕ) → (p i sep new : ℕ) → Grown → Type 0
DivideSafe ps p i sep new g =
    HalvedSafe p i sep new g × EnterSafe ps p (middle_key i sep new (page g.pool p)) (next_page g.pool g.state) (halved p i sep new g)

-- the children of an internal page z are there
unfoldable pub RelinkSafe : (z : ℕ) → List ℕ → Type 0
RelinkSafe z s = node_type (page s z) ≡ 0 → (cell_count (page s z) ≤ max_keys) × AdoptSafe (cell_count (page s z) + 1) 0 z z s

unfoldable pub PinSafe : (fixed : ℕ) → Grown → Type 0
PinSafe fixed g =
    Free g × (fixed < g.state.used) × There g.state.root g.pool × There (child_at (page g.pool g.state.root) 1) g.pool
    × RelinkSafe (next_page g.pool g.state) (moved_to fixed (next_page g.pool g.state) (with_fresh g.pool g.state))

-- the separator can be entered above the leaf p, and afterwards the root can keep its number
pub record AboveSafe (root p sep new : ℕ) (ps : List ℕ) (g : Grown) : Type 0 where
  pub enters : EnterSafe ps p sep new g
  pub keeps : (root ≡ 0 → ⊥) → ((enter_of ps p sep new g).state.root ≡ root → ⊥) → PinSafe root (enter_of ps p sep new g)

-- the page old and the pages ps above it, as a climb finds them: in use, none twice, each with at most 510 keys and
-- holding the page below it
unfoldable pub Stands : (used old : ℕ) → List ℕ → List ℕ → Type 0
Stands used old [] s = old < used
Stands used old (p ∷ ps) s =
    (old < used) × (mem old (p ∷ ps) ≡ false) × (cell_count (page s p) ≤ max_keys) × (place_in (page s p) old ≤ cell_count (page s p)) × Stands used p ps s
