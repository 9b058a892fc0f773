-- How many pages divide above an insertion's leaf at most. Assumes nothing.
use Rattle.std.proofs.Common.{Ok}
use mathlib.Core.Path.{◌≡◌}
use mathlib.Core.List.{List}
use Prim.Native.Nat.{ℕ, ◌≤◌}
use Rattle.page.specs.declared.pool.State.{State}
use Rattle.tree_room.specs.declared.Planned.{Planned}
use Rattle.tree_insert.specs.Insert.{insert_plan}
use Rattle.tree_insert.specs.declared.Spot.{Spot}
use Rattle.tree_room.proofs.Keeping.{planned-is}

pub insert-few : (st : State) (x : Spot) (m : ℕ) (s : List ℕ) {plan : Planned} → insert_plan s st x m ≡ Ok plan → plan.above.full ≤ 4
unfolding insert_plan
insert-few st x m s e = (planned-is st x.leaf _ _ s e).few
