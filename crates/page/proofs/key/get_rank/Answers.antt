-- `page::key::get_rank` meets its contract. Assumes nothing.
use Rattle.page.proofs.key.get_rank.Goals as goal

pub returns : goal.returns
returns c = cc
