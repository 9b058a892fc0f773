-- `row::read::head_at` meets its contract. Assumes nothing.
use native.Mathlib.Omega.{arith}
use Rattle.row.proofs.Reading.{stamp-size, pointer-size, pointer-place, data_place_lem, head_empty, head_format, head_no_stamp, head-stamp, head_no_pointer, head-pointer, head_short, head_got}
use Rattle.row.proofs.read.head_at.Goals as goal

pub returns-then-m-i-lt1 : goal.returns-then-m-i-lt1
returns-then-m-i-lt1 c = head_empty _ _ _ (omega arith)

pub returns-then-get8 : goal.returns-then-get8
returns-then-get8 c = head_format _ _ _ (omega arith) (λ e. omega arith)

pub returns-then-m-i-lt10 : goal.returns-then-m-i-lt10
returns-then-m-i-lt10 c = head_no_stamp _ _ _ (omega arith) (omega arith) (omega arith)

pub returns-then-f-gt1 : goal.returns-then-f-gt1
returns-then-f-gt1 c = head-stamp _ _ _ (omega arith) (omega arith) c.get8-f.ensures (omega arith) (omega arith)

pub overflow_add-j-2 : goal.overflow_add-j-2
overflow_add-j-2 c = omega (arith, stamp-size c.get8-f.result)

pub returns-then-m-j : goal.returns-then-m-j
returns-then-m-j c = head_no_pointer _ _ _ (omega arith) (omega arith) c.get8-f.ensures (omega arith) (pointer-place _ _ c.get8-f.ensures c.stamp_size.ensures) (omega arith)

pub returns-then-g-gt1 : goal.returns-then-g-gt1
returns-then-g-gt1 c =
    head-pointer _ _ _ (omega arith) (omega arith) c.get8-f.ensures (omega arith) (pointer-place _ _ c.get8-f.ensures c.stamp_size.ensures) c.get8-g.ensures (omega arith) (omega arith)

pub overflow_add-k : goal.overflow_add-k
overflow_add-k c = omega (arith, pointer-size c.get8-g.result)

pub returns-then-m-k : goal.returns-then-m-k
returns-then-m-k c =
    head_short _ _ _ (omega arith) (omega arith) c.get8-f.ensures (omega arith) (pointer-place _ _ c.get8-f.ensures c.stamp_size.ensures) c.get8-g.ensures (omega arith) (data_place_lem _ _ (pointer-place _ _ c.get8-f.ensures c.stamp_size.ensures) c.get8-g.ensures c.pointer_size.ensures) (omega arith)

pub returns : goal.returns
returns c =
    head_got _ _ _ (omega arith) (omega arith) c.get8-f.ensures (omega arith) (pointer-place _ _ c.get8-f.ensures c.stamp_size.ensures) c.get8-g.ensures (omega arith) (data_place_lem _ _ (pointer-place _ _ c.get8-f.ensures c.stamp_size.ensures) c.get8-g.ensures c.pointer_size.ensures) (omega arith)
