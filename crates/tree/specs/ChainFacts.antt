-- What counting the leaves of a walk has to do with "no page met twice on a path or chain" (document 01, section 3). The
-- walk counts at most as many leaves as there are pages in use; the statements say that this count ends it exactly where a
-- page would be met twice.
use Rattle.std.specs.Prelude.{◌≡◌, true, false, List, [], ◌∷◌, ℕ, zero, suc, ◌≤◌, ltb, eqb, Result, Err}
use Rattle.store.specs.Pick.{pick}
use Rattle.page.specs.Page.{page}
use Rattle.page.specs.Header.{next_leaf}
use Rattle.row.specs.declared.Fault.{Fault}
use Rattle.tree.specs.Distinct.{distinct}
use Rattle.tree.specs.Chain.{Seen, on_seen, along}

-- the pages that a walk meets, m at most
unfoldable pub meets : {A : Type 0} → List ℕ → (used : ℕ) → ℕ → (A → ℕ → List ℕ → Seen A) → (m : ℕ) → A → List ℕ
meets s used p look zero a = []
meets s used p look (suc m) a =
    pick (ltb p used)
    (p ∷ on_seen (λ b. []) (λ b. pick (eqb (next_leaf (page s p)) 0) [] (meets s used (next_leaf (page s p)) look m b)) (λ f. []) (look a p (page s p)))
    []

-- what a leaf says of going on: 0 the walk ends, 1 it goes on, 2 a fault
abbrev pub turn : {A : Type 0} → Seen A → ℕ
turn r = on_seen (λ b. 0) (λ b. 1) (λ f. 2) r

-- going on depends on the page alone, not on what was gathered
abbrev pub Steady : {A : Type 0} → (A → ℕ → List ℕ → Seen A) → Type 0
Steady {A} look = (a b : A) (p : ℕ) (pg : List ℕ) → turn (look a p pg) ≡ turn (look b p pg)

-- where no page is met twice, however long the walk, the count never ends it
abbrev pub CountIsEnough : Type 0 → Type 0
CountIsEnough A =
    (look : A → ℕ → List ℕ → Seen A) (used m : ℕ) (a : A) (p : ℕ) (s : List ℕ) → used ≤ m → distinct (meets s used p look m a) ≡ true
    → along s used p look m a ≡ along s used p look used a

-- where some walk meets a page twice, the answer is a fault
pub record Ill {A : Type 0} (t : Result A Fault) : Type 0 where
  pub fault : Fault
  pub is : t ≡ Err fault

abbrev pub TwiceIsIll : Type 0 → Type 0
TwiceIsIll A =
    (look : A → ℕ → List ℕ → Seen A) → Steady look → (used m : ℕ) (a : A) (p : ℕ) (s : List ℕ)
    → distinct (meets s used p look m a) ≡ false → Ill (along s used p look used a)
