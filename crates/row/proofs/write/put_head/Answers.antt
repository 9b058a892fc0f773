-- `row::write::put_head` meets its contract. Assumes nothing.
use Rattle.row.proofs.Writing.{head_done}
use Rattle.row.proofs.write.put_head.Goals as goal

pub returns : goal.returns
returns c = cc (head_done c.args.out.now c.args.key c.args.n c.args.creator c.requires)
