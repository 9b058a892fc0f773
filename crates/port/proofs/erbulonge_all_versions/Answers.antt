-- `port::erbulonge_all_versions` meets its contract. Assumes nothing.
use Rattle.port.proofs.Giving.{passed_list}
use Rattle.port.proofs.erbulonge_all_versions.Goals as goal

pub returns : goal.returns
returns c = passed_list _ c.give.ensures c.all_versions.ensures
