-- The way up from a leaf (document 01, section 3): "climbs from its leaf by parent links to the root, collecting the page
-- numbers of at most four levels; each parent must be internal and hold the child, the root's parent must be 0". A parent
-- is judged as any page that is read: in use, 1 to 510 non-decreasing keys.
use Rattle.std.specs.Prelude.{Result, Ok, Err, List, [], ◌∷◌, ℕ, zero, suc, ◌+◌, ltb, eqb, length}
use Rattle.store.specs.Pick.{pick}
use Rattle.store.specs.Part.{pad}
use Rattle.page.specs.Page.{page}
use Rattle.page.specs.Header.{parent_of}
use Rattle.row.specs.declared.Fault.{Fault}
use Rattle.inner.specs.Inner.{children_from, judge_inner}
use Rattle.row.specs.Fault.{structural}
use Rattle.inner.specs.Route.{child_place}
use Rattle.tree.specs.Descend.{on_inner}
use Rattle.tree.specs.declared.climb.Path.{Path}

-- q, the parent that page p names, is in use, internal, judged, and holds p
unfoldable pub above_from : List ℕ → (used p q : ℕ) → Result ℕ Fault
above_from s used p q =
    pick (ltb q used)
    (on_inner (λ n. pick (ltb (child_place p (children_from (page s q) 0 (n + 1))) (n + 1)) (Ok q) (Err (structural q))) (λ f. Err f)
    (judge_inner (page s q) q))
    (Err (structural q))

abbrev pub above_of : List ℕ → (used p : ℕ) → Result ℕ Fault
above_of s used p = above_from s used p (parent_of (page s p))

abbrev pub on_above : {A : Type 0} → (ℕ → A) → (Fault → A) → Result ℕ Fault → A
on_above good ill (Ok q) = good q
on_above good ill (Err f) = ill f

-- the page numbers from a page up to the root, or the fault that ends the climb
pub data Way : Type 0 where
  up : List ℕ → Way
  astray : Fault → Way

abbrev pub way_from : ℕ → Way → Way
way_from p (up ps) = up (p ∷ ps)
way_from p (astray f) = astray f

-- "the root's parent must be 0"
abbrev pub root_way : List ℕ → ℕ → Way
root_way s p = pick (eqb (parent_of (page s p)) 0) (up (p ∷ [])) (astray (structural p))

-- from page p, with k more levels above it at most
unfoldable pub climb_of : List ℕ → (used root p k : ℕ) → Way
climb_of s used root p zero = pick (eqb p root) (root_way s p) (astray (structural p))
climb_of s used root p (suc k) = pick (eqb p root) (root_way s p) (on_above (λ q. way_from p (climb_of s used root q k)) (λ f. astray f) (above_of s used p))

-- the path as it is handed on: four places, the leaf's first
abbrev pub path_of : List ℕ → Path
path_of ps = record { pages = pad 4 ps; len = length ps }

abbrev pub climbed : Way → Result Path Fault
climbed (up ps) = Ok (path_of ps)
climbed (astray f) = Err f
