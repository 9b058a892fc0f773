-- `mvcc_entries::status_in` meets its contract: a list that is good rises. Assumes nothing.
use mathlib.Core.Path.{sym, ◌∙◌}
use Rattle.mvcc.specs.Snapshot.{statuses}
use Rattle.mvcc.proofs.Laws.{good-statuses-judged}
use Rattle.mvcc_entries.specs.Entries.{txs, sts}
use Rattle.mvcc_entries.proofs.status_in.Goals as goal

pub state_of-requires : goal.state_of-requires
state_of-requires c =
    let es = c.args.es.now in
    (good-statuses-judged (statuses (txs es) (sts es)) (sym c.entries_are_good.ensures ∙ c.if-entries_are_good.true)).rises
