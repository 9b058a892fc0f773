-- `mvcc_entries::write_entries` meets its contract. Invariant: storing what is left gives what storing all gives. Assumes nothing.
use mathlib.Core.Path.{◌∙◌}
use native.Mathlib.Omega.{arith}
use Rattle.mvcc_entries.proofs.Laws.{put_txs, put_sts, txs-put, sts-put}
use Rattle.mvcc_entries.proofs.write_entries.Goals as goal

pub loop-i-preserved : goal.loop-i-preserved
loop-i-preserved c = (
  put_txs c.args.es.now c.loop-i.i c.loop-i.ids c.loop-i-test.true (omega arith) ∙ c.loop-i.invariant.0,
  put_sts c.args.es.now c.loop-i.i c.loop-i.states c.loop-i-test.true (omega arith) ∙ c.loop-i.invariant.1,
)

pub returns-clause-transactions : goal.returns-clause-transactions
returns-clause-transactions c = txs-put c.args.es.now c.loop-i.i c.loop-i-test.false c.loop-i.invariant.0

pub returns-clause-beside : goal.returns-clause-beside
returns-clause-beside c = sts-put c.args.es.now c.loop-i.i c.loop-i-test.false c.loop-i.invariant.1
