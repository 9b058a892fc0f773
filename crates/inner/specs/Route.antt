-- Which child a key leads to (document 01, section 5: "Search goes left on key ≤ separator, insertion only on key <
-- separator"), and which place holds a child.
use Rattle.std.specs.Prelude.{Bool, List, [], ◌∷◌, ℕ, suc, leb, ltb, eqb}
use Rattle.store.specs.Pick.{pick}

-- the place of the first that meets the test, or the length of the list
unfoldable pub first_where : (ℕ → Bool) → List ℕ → ℕ
first_where test [] = 0
first_where test (x ∷ xs) = pick (test x) 0 (suc (first_where test xs))

-- the child that search goes to, and the one that insertion goes to
abbrev pub search_route : ℕ → List ℕ → ℕ
search_route key ks = first_where (leb key) ks

abbrev pub insert_route : ℕ → List ℕ → ℕ
insert_route key ks = first_where (ltb key) ks

-- the first place of a child, or the number of children
abbrev pub child_place : ℕ → List ℕ → ℕ
child_place child cs = first_where (λ c. eqb c child) cs
