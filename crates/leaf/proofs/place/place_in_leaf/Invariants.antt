-- `leaf::place::place_in_leaf` meets its contract: the walk that is left gives what the whole walk gives. Assumes nothing.
use mathlib.Core.Path.{◌≡◌}
use Prim.Native.Nat.{◌-◌, ◌+◌, ◌≤◌}
use Rattle.leaf.specs.Place.{place_step}
use Rattle.leaf.proofs.Walking.{walk}
use Rattle.leaf.proofs.place.place_in_leaf.Given as goal

abbrev pub invariant-loop : goal.invariant-loop
invariant-loop l =
    (l.at ≤ 4096)
    × (walk (place_step l.key l.creator) l.p l.k l.c (l.count - l.counter) l.at l.here l.pg ≡ walk (place_step l.key l.creator) l.p 0 0 l.count 12 (record { at = 12; before = 0 }) l.pg)
    × (l.here.before + (l.count - l.counter) ≤ l.count)
