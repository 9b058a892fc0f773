-- `mvcc::vacuum::stamped_fate` meets its contract, test by test.
-- Assumes nothing.
use Rattle.std.proofs.Common.{rules}
use Rattle.mvcc.proofs.RuleLaws.{stamped_aborted, stamped-other, stamped_old, stamped_late}
use Rattle.mvcc.proofs.vacuum.stamped_fate.Goals as goal

pub returns-then-state-eq3 : goal.returns-then-state-eq3
returns-then-state-eq3 c = stamped_aborted _ _ _ (search rules)

pub returns-then-state-ne2 : goal.returns-then-state-ne2
returns-then-state-ne2 c = stamped-other _ _ _ (search rules) (search rules)

pub returns-then-d-bound : goal.returns-then-d-bound
returns-then-d-bound c = stamped_old _ _ _ (search rules) (search rules)

pub returns : goal.returns
returns c = stamped_late _ _ _ (search rules) (search rules)
