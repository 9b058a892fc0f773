-- `mvcc::lists::are_states` meets its contract. Invariant: the flag says what the states so far say.
-- Assumes nothing.
use Rattle.std.proofs.Common.{◌≡◌, take}
use Rattle.mvcc.specs.Lists.{are_states}
use Rattle.mvcc.proofs.lists.are_states.Given as goal

abbrev pub invariant-loop-state : goal.invariant-loop-state
invariant-loop-state l = l.ok ≡ are_states (take l.state-index l.s)
