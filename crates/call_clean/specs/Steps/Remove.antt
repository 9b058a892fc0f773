-- How the code takes a key's versions out of a leaf: by the run of its cells, which stand together.
use Rattle.std.specs.Prelude.{List, ℕ, eqb}
use Rattle.store.specs.Pick.{pick}
use Rattle.page.specs.Header.{cell_count}
use Rattle.leaf.specs.declared.find.Run.{Run}
use Rattle.leaf_edit.specs.Edit.{without}

-- a leaf, whose cells end at e, without the cells of the run
abbrev pub without_run : Run → (e : ℕ) → List ℕ → List ℕ
without_run run e pg = pick (eqb run.count 0) pg (without run.from run.to run.count e (cell_count pg) pg)
