-- The fate of one stamped version, by its deleter alone.
use Rattle.std.specs.Prelude.{◌&&◌, ℕ, ltb, eqb}
use Rattle.store.specs.Pick.{pick}
use Rattle.mvcc.specs.declared.vacuum.Fate.{Fate}

-- the fate of a version whose creator is not aborted, by its deleter d and the state s of d
unfoldable pub stamped_fate : (bound d s : ℕ) → Fate
stamped_fate bound d s = pick (ltb d bound && eqb s 2) Fate.Dropped (pick (eqb s 3) Fate.Cleared Fate.Same)
