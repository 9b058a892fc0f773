-- A tree as a value (document 01, section 3), and what it is for a pool to hold it. One type serves for trees and for runs of
-- siblings: a leaf, an internal page over a run, and two runs with a separator between them, bracketed in any way.
use Rattle.std.specs.Prelude.{◌≡◌, List, [], ◌∷◌, ◌++◌, ℕ, suc, ◌≤◌, ◌<◌, length}
use Rattle.leaf.specs.Rows.{Row}
use Rattle.theory_tree.specs.Pages.{Pages, leaf_page, inner_page}
use Rattle.inner.specs.Inner.{max_keys}

pub data Shape : Type 0 where
  leaf : ℕ → List Row → Shape
  node : ℕ → Shape → Shape
  pair : Shape → ℕ → Shape → Shape

-- the leaves' rows left to right, and all page numbers
abbrev pub chain : Shape → List Row
chain (leaf p rs) = rs
chain (node p f) = chain f
chain (pair a k b) = chain a ++ chain b

abbrev pub pages_in : Shape → List ℕ
pages_in (leaf p rs) = p ∷ []
pages_in (node p f) = p ∷ pages_in f
pages_in (pair a k b) = pages_in a ++ pages_in b

-- the first page of the run itself, and each further one with the separator before it: what the page above holds
abbrev pub head : Shape → ℕ
head (leaf p rs) = p
head (node p f) = p
head (pair a k b) = head a

abbrev pub rest : Shape → List (ℕ × ℕ)
rest (leaf p rs) = []
rest (node p f) = []
rest (pair a k b) = rest a ++ ((k, head b) ∷ rest b)

-- the leftmost leaf
abbrev pub first : Shape → ℕ
first (leaf p rs) = p
first (node p f) = first f
first (pair a k b) = first a

-- "any other page's [parent] is the page above it. Next-leaf links run left to right": the pages hold the run, under the page
-- par, and its last leaf is followed by nxt
abbrev pub Holds : Pages → ℕ → ℕ → Shape → Type 0
Holds w par nxt (leaf p rs) = w p ≡ leaf_page par nxt rs
Holds w par nxt (node p f) = (j : ℕ) × (w p ≡ inner_page par j (head f) (rest f)) × Holds w p nxt f
Holds w par nxt (pair a k b) = Holds w par (first b) a × Holds w par nxt b

-- "all leaves on the last" level: n levels down
abbrev pub Deep : ℕ → Shape → Type 0
Deep n (leaf p rs) = n ≡ 0
Deep n (node p f) = (m : ℕ) × (n ≡ suc m) × Deep m f
Deep n (pair a k b) = Deep n a × Deep n b

-- each of l has P; no number twice
abbrev pub All : {A : Type 0} → (A → Type 0) → List A → Type 0
All P [] = Unit {0}
All P (x ∷ xs) = P x × All P xs

abbrev pub NoneTwice : List ℕ → Type 0
NoneTwice [] = Unit {0}
NoneTwice (x ∷ xs) = All (λ y. x ≡ y → ⊥) xs × NoneTwice xs

-- keys from lo to hi that never fall
abbrev pub KeysIn : ℕ → ℕ → List Row → Type 0
KeysIn lo hi [] = lo ≤ hi
KeysIn lo hi (x ∷ xs) = (lo ≤ x.key) × KeysIn x.key hi xs

-- "non-decreasing by key, then creator"
abbrev pub NotAfter : Row → Row → Type 0
NotAfter x y = (x.key ≤ y.key) × (x.key ≡ y.key → x.creator ≤ y.creator)

abbrev pub Sorted : List Row → Type 0
Sorted [] = Unit {0}
Sorted (x ∷ xs) = All (NotAfter x) xs × Sorted xs

-- "every key, of cells and of separators, left of a separator is at most it, every key right at least it"
abbrev pub Bounded : ℕ → ℕ → Shape → Type 0
Bounded lo hi (leaf p rs) = KeysIn lo hi rs × Sorted rs
Bounded lo hi (node p f) = Bounded lo hi f
Bounded lo hi (pair a k b) = Bounded lo k a × Bounded k hi b

-- "Internal pages hold 1 to 510 .. keys"
abbrev pub Sized : Shape → Type 0
Sized (leaf p rs) = Unit {0}
Sized (node p f) = (1 ≤ length (rest f)) × (length (rest f) ≤ max_keys) × Sized f
Sized (pair a k b) = Sized a × Sized b

-- one tree, not a run of several
abbrev pub IsTree : Shape → Type 0
IsTree (leaf p rs) = Unit {0}
IsTree (node p f) = Unit {0}
IsTree (pair a k b) = ⊥

-- "page 0 is no leaf but the first"
abbrev pub LaterNotZero : Shape → Type 0
LaterNotZero (leaf p rs) = Unit {0}
LaterNotZero (node p f) = LaterNotZero f
LaterNotZero (pair a k b) = LaterNotZero a × (first b ≡ 0 → ⊥) × LaterNotZero b

-- section 3, sentence by sentence: at most 4 levels, page numbers below the pages in use, none twice, the root's parent 0
pub record WellFormed (w : Pages) (root used : ℕ) (t : Shape) : Type 0 where
  pub tree : IsTree t
  pub root_is : head t ≡ root
  pub rep : Holds w 0 0 t
  pub level : (n : ℕ) × (n ≤ 3) × Deep n t
  pub bounds : Bounded 0 4294967295 t
  pub small : Sized t
  pub later : LaterNotZero t
  pub distinct : NoneTwice (pages_in t)
  pub below : All (λ p. p < used) (pages_in t)
