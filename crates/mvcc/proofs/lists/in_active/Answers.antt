-- `mvcc::lists::in_active` meets its contract: tx is found in a rising list if it stands there.
-- Assumes nothing.
use Rattle.std.proofs.Common.{◌∙◌}
use Rattle.mvcc.proofs.Laws.{mem-searched}
use Rattle.mvcc.proofs.lists.in_active.Goals as goal

pub returns : goal.returns
returns c = c.is_ok.ensures.value ∙ mem-searched _ _ c.requires _ c.binary_search.ensures.position
