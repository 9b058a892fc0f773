-- `leaf_edit::stamp_cell` meets its contract. Assumes nothing.
use mathlib.Core.Path.{refl, ◌∙◌}
use Prim.Native.Nat.{◌+◌, ◌≤◌}
use native.Mathlib.Omega.{arith}
use Rattle.row.proofs.Writing.{stamp-absent, stamp_present}
use Rattle.leaf_edit.proofs.Editing.{cell-ends, with_stamp-grown, with_stamp_kept}
use Rattle.std.proofs.Common.{rules}
use Rattle.leaf_edit.proofs.stamp_cell.Goals as goal
use Rattle.leaf_edit.proofs.stamp_cell.Goals.{In-Some, In-None}

-- where a stamped cell ends, and where a live one does
stamped : (c : In-Some) → (c.args.c.at + 26 ≤ c.args.c.next) × (c.args.e ≤ 4096)
stamped c =
    let w = cell-ends c.args.c c.args.pg.now (λ i. search rules) c.requires.1 c.in-Some.is in
    let l = stamp_present c.in-Some.is in
    (omega arith, omega arith)

live : (c : In-None) → (c.args.c.at + 18 ≤ c.args.c.next) × (c.args.e + 8 ≤ 4096)
live c =
    let w = cell-ends c.args.c c.args.pg.now (λ i. search rules) c.requires.1 c.in-None.is in
    let l = stamp-absent c.in-None.is in
    (omega arith, omega arith)

pub overflow_add-c : goal.overflow_add-c
overflow_add-c c = let h = stamped (goal.at.overflow_add-c c).In-Some in omega arith

pub put64-requires : goal.put64-requires
put64-requires c = let h = stamped (goal.at.put64-requires c).In-Some in omega arith

pub zero_fill-requires : goal.zero_fill-requires
zero_fill-requires c = let h = stamped (goal.at.zero_fill-requires c).In-Some in search rules

pub overflow_sub-c : goal.overflow_sub-c
overflow_sub-c c = let h = live (goal.at.overflow_sub-c c).In-None in omega arith

pub overflow_cast-c : goal.overflow_cast-c
overflow_cast-c c = let h = live (goal.at.overflow_cast-c c).In-None in search rules

pub grow_stamp-requires : goal.grow_stamp-requires
grow_stamp-requires c = let h = live (goal.at.grow_stamp-requires c).In-None in search rules

pub returns-in-Some : goal.returns-in-Some
returns-in-Some c =
    let h = stamped (goal.at.returns-in-Some c).In-Some in
    c.zero_fill.ensures ∙ rw c.put64.ensures (with_stamp_kept c.args.c c.args.pg.now (λ i. search rules) c.requires.1 c.args.e c.args.d (omega arith) c.in-Some.is (omega arith) (omega arith))

pub returns-in-None : goal.returns-in-None
returns-in-None c =
    let h = live (goal.at.returns-in-None c).In-None in
    c.grow_stamp.ensures ∙ with_stamp-grown c.args.c c.args.pg.now (λ i. search rules) c.requires.1 c.args.e c.args.d _ (omega arith) c.in-None.is (omega arith) (omega arith) refl
