-- `page::key::put_rank` meets its contract. Assumes nothing.
use Rattle.page.proofs.key.put_rank.Goals as goal

pub returns : goal.returns
returns c = cc
