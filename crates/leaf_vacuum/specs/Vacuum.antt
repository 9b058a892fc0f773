-- Vacuum of one leaf (document 01, section 5): "drops a version whose creator is aborted, or whose deleter is below the
-- given bound and committed in the list; of those kept, an aborted deleter's stamp is cleared. It rewrites only leaves it
-- changed and counts those dropped."
use Rattle.std.specs.Prelude.{Bool, true, false, List, [], ◌∷◌, ℕ, ◌+◌, None}
use Rattle.mvcc.specs.Vacuum.{fate}
use Rattle.mvcc.specs.declared.vacuum.Fate.{Fate}
use Rattle.leaf.specs.Rows.{Row, rows, write_rows}
use Rattle.leaf_vacuum.specs.declared.Vacuumed.{Vacuumed}
use Rattle.store.specs.Pick.{pick}

abbrev pub cleared_row : Row → Row
cleared_row r = record { key = r.key; creator = r.creator; stamp = None; pointer = r.pointer; body = r.body }

abbrev pub on_fate : {A : Type 0} → A → A → A → Fate → A
on_fate dropped cleared same Fate.Dropped = dropped
on_fate dropped cleared same Fate.Cleared = cleared
on_fate dropped cleared same Fate.Same = same

-- the rows that are kept, how many are dropped, and whether anything changes
unfoldable pub kept_rows : (ℕ → ℕ) → ℕ → List Row → List Row
kept_rows st bound [] = []
kept_rows st bound (r ∷ rs) =
    on_fate (kept_rows st bound rs) (cleared_row r ∷ kept_rows st bound rs) (r ∷ kept_rows st bound rs) (fate st bound r.creator r.stamp)

unfoldable pub dropped_rows : (ℕ → ℕ) → ℕ → List Row → ℕ
dropped_rows st bound [] = 0
dropped_rows st bound (r ∷ rs) = on_fate (dropped_rows st bound rs + 1) (dropped_rows st bound rs) (dropped_rows st bound rs) (fate st bound r.creator r.stamp)

unfoldable pub changes_rows : (ℕ → ℕ) → ℕ → List Row → Bool
changes_rows st bound [] = false
changes_rows st bound (r ∷ rs) = on_fate true true (changes_rows st bound rs) (fate st bound r.creator r.stamp)

-- the page, and what is told of it: how many cells went, and whether it changed
pub record Swept : Type 0 where
  pub page : List ℕ
  pub told : Vacuumed

-- a leaf: the rows that are kept are written, where anything changes
unfoldable pub vacuumed_leaf : List ℕ → (ℕ → ℕ) → (bound : ℕ) → Swept
vacuumed_leaf pg st bound =
    record {
      page = pick (changes_rows st bound (rows pg)) (write_rows (kept_rows st bound (rows pg)) pg) pg;
      told = record { dropped = dropped_rows st bound (rows pg); changed = changes_rows st bound (rows pg) };
    }
