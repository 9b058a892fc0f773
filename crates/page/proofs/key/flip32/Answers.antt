-- `page::key::flip32` meets its contract. Assumes nothing.
use Rattle.page.specs.Key.{flip}
use Rattle.std.proofs.Common.{rules}
use Rattle.page.proofs.key.flip32.Goals as goal

pub returns-then-b-lt2147483648 : goal.returns-then-b-lt2147483648
unfolding flip
returns-then-b-lt2147483648 c = search rules

pub returns-else-b-lt2147483648 : goal.returns-else-b-lt2147483648
unfolding flip
returns-else-b-lt2147483648 c = search rules
