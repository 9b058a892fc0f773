-- `store::run::copy_in` meets its contract. Invariant: storing what is left of `new` gives what storing all of it gives.
-- Assumes nothing.
use mathlib.Core.Path.{◌≡◌}
use Prim.Native.Nat.{◌+◌, ◌≤◌}
use lib.ListN.{length, drop}
use Rattle.store.specs.Part.{put}
use Rattle.store.proofs.run.copy_in.Given as goal

abbrev pub invariant-loop-j : goal.invariant-loop-j
invariant-loop-j l = (l.j ≤ length l.new) × (length l.d ≡ length l.initial.d) × (put (l.at + l.j) (drop l.j l.new) l.d ≡ put l.at l.new l.initial.d)
