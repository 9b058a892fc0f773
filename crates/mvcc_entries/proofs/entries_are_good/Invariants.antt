-- `mvcc_entries::entries_are_good` meets its contract. Invariant: the flag, that what is left rises after the entry
-- before it, and that what is left is states, say together what the whole list says. Assumes nothing.
use mathlib.Core.Path.{◌≡◌}
use Rattle.mvcc.specs.Snapshot.{good_statuses, statuses}
use Rattle.mvcc_entries.specs.Entries.{txs, sts}
use Rattle.mvcc_entries.proofs.Judging.{judged}
use Rattle.mvcc_entries.proofs.entries_are_good.Given as goal

abbrev pub invariant-loop-entry : goal.invariant-loop-entry
invariant-loop-entry l = good_statuses (statuses (txs l.es) (sts l.es)) ≡ judged l.rest l.ok l.last l.entry-index
