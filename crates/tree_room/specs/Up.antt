-- A leaf that divides, and what follows above it (document 01, section 5).
use Rattle.std.specs.Prelude.{List, ℕ}
use Rattle.page.specs.Pool.{next_page, allocated, with_fresh, Grown, grown}
use Rattle.leaf_divide.specs.Divide.{divided}
use Rattle.tree_grow.specs.Path.{pages_above}
use Rattle.tree_grow.specs.Grow.{settled}
use Rattle.tree_room.specs.declared.Planned.{Planned}

-- page p, whose n cells would be v, divides at the cut, its right side in the next page
unfoldable pub divided_up : Planned → (p n : ℕ) → List ℕ → Grown → Grown
divided_up x p n v g =
    settled (pages_above x.path 0) p (next_page g.pool g.state)
    (grown (divided p (next_page g.pool g.state) n x.cut v (with_fresh g.pool g.state)) (allocated g.pool g.state).state)
