-- What a division of a leaf leads to above it, told on the unchanged pool (document 01, sections 3, 5 and 6): which pages
-- divide, how many pages are needed, and "every child whose parent link the call would write". The pages above the leaf,
-- ps, come from the climb, the nearest first.
use Rattle.std.specs.Prelude.{Result, Ok, Err, Bool, not, false, List, [], ◌∷◌, ◌++◌, ℕ, suc, ◌+◌, ◌-◌, ltb, eqb, length}
use Rattle.store.specs.Pick.{pick}
use Rattle.page.specs.Page.{page}
use Rattle.page.specs.Header.{cell_count}
use Rattle.row.specs.declared.Fault.{Fault}
use Rattle.inner.specs.Inner.{children_from, max_keys}
use Rattle.row.specs.Fault.{structural}
use Rattle.tree_grow.specs.Grow.{place_in}
use Rattle.tree_grow.specs.declared.plan.Division.{Division}
use Rattle.inner_edit.specs.Edit.{kept_keys}

-- the pages that divide: those with 510 keys, from the nearest on
unfoldable pub full_pages : List ℕ → List ℕ → ℕ
full_pages [] s = 0
full_pages (p ∷ ps) s = pick (eqb (cell_count (page s p)) max_keys) (suc (full_pages ps s)) 0

-- the root grows where they all divide
unfoldable pub division_of : List ℕ → List ℕ → Division
division_of ps s = record { full = full_pages ps s; grows = eqb (full_pages ps s) (length ps) }

-- "Allocation is in order of division, relocation last": a page for each that divides, and where the root grows its new top
-- and, for a root other than 0, one more. The new leaf is not among them.
unfoldable pub pages_asked : (root : ℕ) → Division → ℕ
pages_asked root d = d.full + pick d.grows (pick (eqb root 0) 1 2) 0

-- of a page with 511 children and a pair to come after child i: the first child that goes to the right page
abbrev pub first_moved : ℕ → ℕ
first_moved i = pick (ltb i kept_keys) kept_keys 256

-- its children that get a new parent link: those that go, and those that stay too where it is a root that is relocated
unfoldable pub relinks_in : List ℕ → (i : ℕ) → (relocated : Bool) → List ℕ
relinks_in pg i relocated = children_from pg (first_moved i) (511 - first_moved i) ++ pick relocated (children_from pg 0 (first_moved i)) []

-- "Any other root keeps its number": the page p, with the pages ps above it, is one
abbrev pub keeps_number : ℕ → List ℕ → Bool
keeps_number p [] = not (eqb p 0)
keeps_number p (q ∷ qs) = false

-- all of them, the nearest page's first
unfoldable pub relinks : List ℕ → (old : ℕ) → List ℕ → List ℕ
relinks s old [] = []
relinks s old (p ∷ ps) = pick (eqb (cell_count (page s p)) max_keys) (relinks_in (page s p) (place_in (page s p) old) (keeps_number p ps) ++ relinks s p ps) []

-- "must be a page in use": all are, or the first that is not
unfoldable pub in_use : (used : ℕ) → List ℕ → Result Unit Fault
in_use used [] = Ok tt
in_use used (c ∷ cs) = pick (ltb c used) (in_use used cs) (Err (structural c))

abbrev pub on_links : {A : Type 0} → A → (Fault → A) → Result Unit Fault → A
on_links good ill (Ok _) = good
on_links good ill (Err f) = ill f

-- what the division of the page old leads to, or the fault
unfoldable pub plan_of : List ℕ → (used old : ℕ) → List ℕ → Result Division Fault
plan_of s used old ps = on_links (Ok (division_of ps s)) (λ f. Err f) (in_use used (relinks s old ps))
