-- `mvcc::lists::are_states` meets its contract. Invariant: the flag says what the states so far say.
-- Assumes nothing.
use Rattle.std.proofs.Common.{refl}
use Rattle.mvcc.specs.Lists.{are_states}
use Rattle.mvcc.proofs.Laws.{states_more}
use Rattle.mvcc.proofs.lists.are_states.Goals as goal

pub loop-state-init : goal.loop-state-init
unfolding are_states
loop-state-init c = refl

pub loop-state-preserved : goal.loop-state-preserved
loop-state-preserved c =
    let m = states_more c.args.s.now c.loop-state.state-index c.loop-state-test.true in
    cc
