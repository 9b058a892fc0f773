-- `list_visible::pass::push` meets its contract: what waited for another key is written. Assumes nothing.
use Rattle.std.proofs.Common.{arith}
use Rattle.std.proofs.lemmas.Grind.{common_steps}
use Rattle.store.proofs.PutLaws.{put_nil}
use Rattle.list_visible.proofs.Stepping.{both}
use Rattle.list_visible.proofs.pass.push.Goals as goal
use Rattle.list_visible.proofs.pass.push.Goals.{then-is_some_and, else-is_some_and}

pub returns : goal.returns
returns c =
    both c.step.ensures (elim c.if-is_some_and.branch [ then-is_some_and w ↦ grind (arith, common_steps) | else-is_some_and w ↦ grind (arith, common_steps, put_nil c.args.sc.size c.args.out.now) ])
