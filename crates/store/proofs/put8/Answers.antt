-- `store::put8` meets its contract. Assumes nothing.
use mathlib.Core.Path.{◌≡◌}
use Prim.Native.Nat.{◌%◌}
use native.Mathlib.Omega.{arith}
use Rattle.store.specs.Le.{put_at}
use Rattle.store.proofs.put8.Goals as goal

pub returns : goal.returns
unfolding put_at
returns c = let e : c.args.x % 256 ≡ c.args.x = omega arith in rw e
