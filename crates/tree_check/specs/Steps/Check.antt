-- How well-formed is judged without a table of pages: from the last child to the first, with the link that the last leaf must
-- have; the answer is the first leaf, which the leaf to its left must link to.
use Rattle.std.specs.Prelude.{Option, Some, None, Bool, true, false, ◌&&◌, List, ℕ, zero, suc, eqb}
use Rattle.store.specs.Pick.{pick}
use Rattle.page.specs.Page.{page}
use Rattle.page.specs.Header.{next_leaf, cell_count}
use Rattle.inner.specs.Inner.{key_at, child_at}
use Rattle.tree_check.specs.Check.{sound_leaf, sound_inner}

abbrev pub inner_sound : List ℕ → (used parent p lo hi : ℕ) → Option ℕ
inner_sound s used parent p lo hi = pick (sound_inner s used parent p lo hi) (Some (cell_count (page s p))) None

abbrev pub on_first : {A : Type 0} → (ℕ → A) → A → Option ℕ → A
on_first good ill (Some q) = good q
on_first good ill None = ill

-- the children from the j-th down to the first
unfoldable pub kids_of : List ℕ → (ℕ → ℕ → ℕ → ℕ → Option ℕ) → (lo j hi next : ℕ) → Option ℕ
kids_of pg f lo zero hi next = f (child_at pg 0) lo hi next
kids_of pg f lo (suc j) hi next =
    on_first (λ q. pick (eqb q 0) None (kids_of pg f lo j (key_at pg j) q)) None (f (child_at pg (suc j)) (key_at pg j) hi next)

unfoldable pub check_of : List ℕ → (used k parent p lo hi next : ℕ) → Option ℕ
check_of s used zero parent p lo hi next = pick (sound_leaf s used parent p lo hi && eqb (next_leaf (page s p)) next) (Some p) None
check_of s used (suc k) parent p lo hi next =
    pick (sound_inner s used parent p lo hi) (kids_of (page s p) (check_of s used k p) lo (cell_count (page s p)) hi next) None

abbrev pub is_first : Option ℕ → Bool
is_first v = on_first (λ q. true) false v
