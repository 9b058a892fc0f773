-- `tree::create::write_root` meets its contract: two stores. Assumes nothing.
use Rattle.tree.proofs.create.write_root.Goals as goal

pub returns : goal.returns
returns c = cc
