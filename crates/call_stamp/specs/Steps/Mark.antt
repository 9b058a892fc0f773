-- What the stores of a stamp need.
use Rattle.std.specs.Prelude.{Ok, ◌≡◌, true, List, ℕ, ◌/◌, length}
use Rattle.page.specs.Page.{page}
use Rattle.page.specs.Pool.{good_pool}
use Rattle.page.specs.declared.pool.State.{State}
use Rattle.tree_room.specs.Room.{room_of}
use Rattle.tree_stamp.specs.Target.{target_of}
use Rattle.tree_stamp.specs.Steps.Target.{CellMet}
use Rattle.tree_stamp.specs.Stamp.{bytes_stamped, stamp_plan}
use Rattle.tree_stamp.specs.declared.ready.Marking.{Marking}

pub record Stampable (s : List ℕ) (st : State) (x : Marking) : Type 0 where
  pub pool : good_pool s st ≡ true
  pub met : CellMet st.used x.target.leaf x.target.cell s
  pub is : x.target ≡ target_of (page s x.target.leaf) x.target.leaf x.target.cell
  pub plans : stamp_plan s st x.target ≡ Ok x.plan
  pub fits : room_of (length s / 4096) st (bytes_stamped x.target) x.plan ≡ Ok tt
