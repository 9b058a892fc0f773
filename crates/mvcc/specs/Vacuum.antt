-- Document 01, section 5, last paragraph: what vacuum does to one version. `st` is the status list as in Rules.
use Rattle.std.specs.Prelude.{Option, Bool, ◌&&◌, ◌||◌, ℕ, ltb, eqb}
use Rattle.store.specs.Pick.{pick}
use Rattle.mvcc.specs.Rules.{of_deleter}
use Rattle.mvcc.specs.declared.vacuum.Fate.{Fate}

-- "a version whose creator is aborted"
unfoldable pub aborted_creator : (ℕ → ℕ) → ℕ → Bool
aborted_creator st creator = eqb (st creator) 3

-- "or whose deleter is below the given bound and committed in the list"
unfoldable pub removable_deleter : (ℕ → ℕ) → ℕ → Option ℕ → Bool
removable_deleter st bound stamp = of_deleter (λ d. ltb d bound && eqb (st d) 2) stamp

-- "of those kept, an aborted deleter's stamp is cleared"
unfoldable pub aborted_deleter : (ℕ → ℕ) → Option ℕ → Bool
aborted_deleter st stamp = of_deleter (λ d. eqb (st d) 3) stamp

-- "Vacuum drops a version whose creator is aborted, or whose deleter is below the given bound and committed in the list"
unfoldable pub dropped : (ℕ → ℕ) → ℕ → (creator : ℕ) → Option ℕ → Bool
dropped st bound creator stamp = aborted_creator st creator || removable_deleter st bound stamp

unfoldable pub fate : (ℕ → ℕ) → ℕ → (creator : ℕ) → Option ℕ → Fate
fate st bound creator stamp = pick (dropped st bound creator stamp) Fate.Dropped (pick (aborted_deleter st stamp) Fate.Cleared Fate.Same)
