-- `mvcc::JudgedStatuses::state_beside` meets its contract, test by test.
-- Assumes nothing.
use Rattle.mvcc.proofs.JudgedStatuses.state_beside.Goals as goal

pub returns-then-tx-creator : goal.returns-then-tx-creator
returns-then-tx-creator c = cc
