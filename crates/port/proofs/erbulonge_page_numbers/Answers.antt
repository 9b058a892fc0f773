-- `port::erbulonge_page_numbers` meets its contract. Assumes nothing.
use Rattle.port.proofs.Giving.{passed_list}
use Rattle.port.proofs.erbulonge_page_numbers.Goals as goal

pub returns : goal.returns
returns c = passed_list _ c.give.ensures c.page_numbers.ensures
