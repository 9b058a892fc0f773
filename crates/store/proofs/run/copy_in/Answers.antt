-- `store::run::copy_in` meets its contract. Invariant: storing what is left of `new` gives what storing all of it gives.
-- Assumes nothing.
use mathlib.Core.Path.{refl, ◌∙◌}
use native.Mathlib.Nat.{add-zero}
use native.Mathlib.Omega.{arith}
use Prim.Native.Nat.{◌≤◌}
use lib.ListN.{length, length-set, drop_of_length-le}
use Rattle.store.proofs.PutLaws.{put-done, step_in}
use Rattle.store.proofs.run.copy_in.Goals as goal

pub loop-j-init : goal.loop-j-init
loop-j-init c = (omega arith, refl, rw add-zero)

pub loop-j-preserved : goal.loop-j-preserved
loop-j-preserved c =
    let l = c.loop-j in
    (omega arith, simp length-set l.invariant.1, step_in _ l.j _ l.d (omega arith) (omega arith) ∙ l.invariant.2)

pub shape_of-d : goal.shape_of-d
shape_of-d c = c.loop-j.invariant.1

pub returns : goal.returns
returns c =
    let l = c.loop-j in
    let done : length c.args.new.now ≤ l.j = omega arith in
    put-done _ (drop_of_length-le _ done) l.invariant.2
