-- Well-formed (document 01, section 3): "At most 4 levels, all leaves on the last. Page numbers below the pages in use,
-- none twice. Internal pages hold 1 to 510 non-decreasing keys; every key, of cells and of separators, left of a separator
-- is at most it, every key right at least it. Within each leaf, cells are readable and non-decreasing by key, then creator.
-- The root's parent is 0, any other page's is the page above it. Next-leaf links run left to right and end with 0, so page
-- 0 is no leaf but the first." At the end, how it is judged without a table of pages.
use Rattle.std.specs.Prelude.{Bool, true, false, not, ◌&&◌, ◌||◌, List, [], ◌∷◌, ◌++◌, ℕ, zero, suc, leb, ltb, eqb}
use Rattle.page.specs.Page.{page}
use Rattle.page.specs.Header.{parent_of, next_leaf}
use Rattle.inner.specs.Inner.{keys_of, children_of, judge_inner}
use Rattle.leaf.specs.Cells.{cells, fold_cells, judge_leaf, on_judged}
use Rattle.tree.specs.Distinct.{distinct}
use Rattle.tree.specs.Descend.{on_inner}

-- ---- one page under its bounds

unfoldable pub within : (lo hi k : ℕ) → Bool
within lo hi k = leb lo k && leb k hi

unfoldable pub all_within : (lo hi : ℕ) → List ℕ → Bool
all_within lo hi [] = true
all_within lo hi (k ∷ ks) = within lo hi k && all_within lo hi ks

-- a leaf that is judged well, every cell's key from lo to hi
unfoldable pub cells_within : List ℕ → (lo hi p : ℕ) → Bool
cells_within pg lo hi p = on_judged (λ e. fold_cells (λ b c. b && within lo hi c.key) true (cells pg)) (λ f. false) (judge_leaf pg p)

-- page p is in use, has that parent, and is such a leaf
unfoldable pub sound_leaf : List ℕ → (used parent p lo hi : ℕ) → Bool
sound_leaf s used parent p lo hi = ltb p used && (eqb (parent_of (page s p)) parent && cells_within (page s p) lo hi p)

-- or an internal page that is judged well, every key from lo to hi
unfoldable pub sound_inner : List ℕ → (used parent p lo hi : ℕ) → Bool
sound_inner s used parent p lo hi =
    ltb p used
    && (eqb (parent_of (page s p)) parent && on_inner (λ n. all_within lo hi (keys_of (page s p))) (λ f. false) (judge_inner (page s p) p))

-- ---- a subtree with k levels below its top

-- each child between the separators beside it; f judges one
unfoldable pub sound_kids : (ℕ → ℕ → ℕ → Bool) → (lo hi : ℕ) → List ℕ → List ℕ → Bool
sound_kids f lo hi ks [] = false
sound_kids f lo hi [] (c ∷ cs) = f c lo hi
sound_kids f lo hi (k ∷ ks) (c ∷ cs) = f c lo k && sound_kids f k hi ks cs

unfoldable pub sound_tree : List ℕ → (used k parent p lo hi : ℕ) → Bool
sound_tree s used zero parent p lo hi = sound_leaf s used parent p lo hi
sound_tree s used (suc k) parent p lo hi = sound_inner s used parent p lo hi && sound_kids (sound_tree s used k p) lo hi (keys_of (page s p)) (children_of (page s p))

-- the leaves, left to right, and all pages
unfoldable pub each_of : (ℕ → List ℕ) → List ℕ → List ℕ
each_of f [] = []
each_of f (c ∷ cs) = f c ++ each_of f cs

unfoldable pub leaves_of : List ℕ → (k p : ℕ) → List ℕ
leaves_of s zero p = p ∷ []
leaves_of s (suc k) p = each_of (leaves_of s k) (children_of (page s p))

unfoldable pub pages_of : List ℕ → (k p : ℕ) → List ℕ
pages_of s zero p = p ∷ []
pages_of s (suc k) p = p ∷ each_of (pages_of s k) (children_of (page s p))

-- ---- the tree

-- "Next-leaf links run left to right and end with 0, so page 0 is no leaf but the first"
unfoldable pub leaves_linked : List ℕ → List ℕ → Bool
leaves_linked s [] = true
leaves_linked s (x ∷ []) = eqb (next_leaf (page s x)) 0
leaves_linked s (x ∷ (y ∷ ys)) = eqb (next_leaf (page s x)) y && (not (eqb y 0) && leaves_linked s (y ∷ ys))

-- with k levels below the root; ranks are from 0 to 4294967295, so that the root has no bounds
unfoldable pub well_at : List ℕ → (used root k : ℕ) → Bool
well_at s used root k = sound_tree s used k 0 root 0 4294967295 && (leaves_linked s (leaves_of s k root) && distinct (pages_of s k root))

unfoldable pub is_well_formed : List ℕ → (used root : ℕ) → Bool
is_well_formed s used root = well_at s used root 0 || (well_at s used root 1 || (well_at s used root 2 || well_at s used root 3))
