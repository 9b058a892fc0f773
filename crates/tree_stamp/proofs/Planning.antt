-- What a stamp's plan that was told says of its room. Assumes nothing.
use Rattle.std.proofs.Common.{Result, Ok}
use mathlib.Core.Path.{◌≡◌, sym, ◌∙◌}
use mathlib.Core.List.{List}
use Prim.Native.Nat.{ℕ, ◌≤◌}
use Rattle.page.specs.declared.pool.State.{State}
use Rattle.row.specs.declared.Fault.{Fault}
use Rattle.tree_room.specs.declared.Planned.{Planned}
use Rattle.tree_stamp.specs.Stamp.{stamp_plan}
use Rattle.tree_stamp.specs.declared.Target.{Target}
use Rattle.tree_room.proofs.Keeping.{planned-is}

pub stamp-few : (st : State) (t : Target) (s : List ℕ) {y : Result Planned Fault} {plan : Planned} → y ≡ stamp_plan s st t → y ≡ Ok plan → plan.above.full ≤ 4
unfolding stamp_plan
stamp-few st t s plans ok = (planned-is st t.leaf _ _ s (sym plans ∙ ok)).few
