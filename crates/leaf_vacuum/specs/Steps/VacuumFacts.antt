-- What the steps come to on a judged leaf: the page is the one with the kept rows, where anything changes, and is left as it is
-- where nothing does; the count is that of the rows that meet the drop rule beforehand.
use Rattle.std.specs.Prelude.{◌≡◌, false, List, ℕ, length, Ok}
use Rattle.store.specs.Le.{AreBytes}
use Rattle.page.specs.Header.{cell_count, header_size}
use Rattle.leaf.specs.Cells.{judge_leaf}
use Rattle.leaf_vacuum.specs.Steps.Vacuum.{sweep}
use Rattle.leaf_vacuum.specs.Vacuum.{vacuumed_leaf}

abbrev pub VacuumSweeps : Type 0
VacuumSweeps =
    (st : ℕ → ℕ) (bound e : ℕ) (pg : List ℕ) → AreBytes pg → length pg ≡ 4096 → judge_leaf pg 0 ≡ Ok e
    → sweep st bound (cell_count pg) header_size e (cell_count pg) 0 false pg ≡ vacuumed_leaf pg st bound
