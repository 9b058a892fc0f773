-- The way down from the root (document 01, sections 3 and 5): at most 4 levels; every page is judged as it is met: in
-- use, a leaf or internal, and an internal page's keys; by either route, or to the leftmost leaf.
use Rattle.std.specs.Prelude.{Result, Ok, Err, List, ℕ, zero, suc, ltb, eqb}
use Rattle.store.specs.Pick.{pick}
use Rattle.page.specs.Page.{page}
use Rattle.page.specs.Header.{node_type, node_leaf}
use Rattle.row.specs.declared.Fault.{Fault}
use Rattle.inner.specs.Inner.{child_at, keys_from, judge_inner}
use Rattle.row.specs.Fault.{structural}
use Rattle.inner.specs.Route.{search_route, insert_route}
use Rattle.tree.specs.declared.Route.{Route}

-- "Search goes left on key ≤ separator, insertion only on key < separator"; the first child leads to the leftmost leaf
abbrev pub turn_of : Route → List ℕ → ℕ
turn_of (Route.Search key) ks = search_route key ks
turn_of (Route.Insert key) ks = insert_route key ks
turn_of Route.First ks = 0

abbrev pub on_inner : {A : Type 0} → (ℕ → A) → (Fault → A) → Result ℕ Fault → A
on_inner good ill (Ok n) = good n
on_inner good ill (Err f) = ill f

-- the child of the internal page p, which has n keys
abbrev pub child_of : List ℕ → (p n : ℕ) → Route → ℕ
child_of s p n route = child_at (page s p) (turn_of route (keys_from (page s p) 0 n))

-- from page p, with k levels below it; an internal page on the last level is a fault of its own
unfoldable pub descend_of : List ℕ → (used p : ℕ) → Route → (k : ℕ) → Result ℕ Fault
descend_of s used p route zero = pick (ltb p used) (pick (eqb (node_type (page s p)) node_leaf) (Ok p) (Err (structural p))) (Err (structural p))
descend_of s used p route (suc k) =
    pick (ltb p used)
    (pick (eqb (node_type (page s p)) node_leaf) (Ok p)
    (on_inner (λ n. descend_of s used (child_of s p n route) route k) (λ f. Err f) (judge_inner (page s p) p)))
    (Err (structural p))

-- go on from the leaf that it comes to
abbrev pub on_leaf : {A : Type 0} → (ℕ → A) → (Fault → A) → Result ℕ Fault → A
on_leaf good ill (Ok p) = good p
on_leaf good ill (Err f) = ill f
