-- `mvcc_entries::write_entries` meets its contract. Invariant: storing what is left gives what storing all gives. Assumes nothing.
use mathlib.Core.Path.{◌≡◌}
use lib.ListN.{drop}
use Rattle.store.specs.Part.{put}
use Rattle.mvcc_entries.specs.Entries.{txs, sts}
use Rattle.mvcc_entries.proofs.write_entries.Given as goal

abbrev pub invariant-loop-i : goal.invariant-loop-i
invariant-loop-i l = (put l.i (drop l.i (txs l.es)) l.ids ≡ put 0 (txs l.es) l.initial.ids) × (put l.i (drop l.i (sts l.es)) l.states ≡ put 0 (sts l.es) l.initial.states)
