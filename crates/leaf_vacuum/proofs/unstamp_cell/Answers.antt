-- `leaf_vacuum::unstamp_cell` meets its contract: a gap closed and two fields stored. Assumes nothing.
use mathlib.Core.Path.{refl, ◌∙◌}
use Prim.Native.Nat.{◌+◌, ◌≤◌}
use native.Mathlib.Omega.{arith}
use Rattle.store.specs.Le.{AreBytes}
use Rattle.leaf_vacuum.proofs.Sweeping.{stamped-long, stamp_off}
use Rattle.std.proofs.Common.{rules}
use Rattle.leaf_vacuum.proofs.unstamp_cell.Goals as goal
use Rattle.leaf_vacuum.proofs.unstamp_cell.Goals.{Start}

long : (c : Start) → AreBytes c.args.pg.now → c.args.c.at + 27 ≤ c.args.c.next
long c bytes = stamped-long c.args.c c.args.pg.now bytes c.requires.1 c.requires.5

pub overflow_sub-n : goal.overflow_sub-n
overflow_sub-n c = let w = long (goal.at.overflow_sub-n c).Start (λ i. search rules) in search rules

pub overflow_sub-n-2 : goal.overflow_sub-n-2
overflow_sub-n-2 c = let w = long (goal.at.overflow_sub-n-2 c).Start (λ i. search rules) in search rules

pub overflow_add-at : goal.overflow_add-at
overflow_add-at c = let w = long (goal.at.overflow_add-at c).Start (λ i. search rules) in search rules

pub overflow_add-at-2 : goal.overflow_add-at-2
overflow_add-at-2 c = let w = long (goal.at.overflow_add-at-2 c).Start (λ i. search rules) in search rules

pub open_gap-requires : goal.open_gap-requires
open_gap-requires c = let w = long (goal.at.open_gap-requires c).Start (λ i. search rules) in search rules

pub overflow_add-at-3 : goal.overflow_add-at-3
overflow_add-at-3 c = let w = long (goal.at.overflow_add-at-3 c).Start (λ i. search rules) in search rules

pub put32-requires : goal.put32-requires
put32-requires c = let w = long (goal.at.put32-requires c).Start (λ i. search rules) in search rules

pub overflow_add-at-4 : goal.overflow_add-at-4
overflow_add-at-4 c = let w = long (goal.at.overflow_add-at-4 c).Start (λ i. search rules) in search rules

pub put8-requires : goal.put8-requires
put8-requires c = let w = long (goal.at.put8-requires c).Start (λ i. search rules) in search rules

pub returns : goal.returns
returns c =
    let w = long (goal.at.returns c).Start (λ i. search rules) in
    c.put8.ensures ∙ rw (c.put32.ensures, c.open_gap.ensures) (stamp_off c.args.c c.args.pg.now (λ i. search rules) c.requires.1 c.requires.5 c.args.e _ (omega arith) (omega arith) (omega arith) refl)
