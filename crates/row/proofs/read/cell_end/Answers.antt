-- `row::read::cell_end` meets its contract: each way out is one law of Reading. Assumes nothing.
use Rattle.row.proofs.Reading.{head-is, end_short, end-past, end_bad, end-long, end-there}
use native.Mathlib.Omega.{arith}
use Rattle.std.proofs.Common.{rules}
use Rattle.row.proofs.read.cell_end.Goals as goal

pub returns-then-s-lt8 : goal.returns-then-s-lt8
returns-then-s-lt8 c = end_short _ _ (omega arith)

pub returns-then-s-at : goal.returns-then-s-at
returns-then-s-at c = end_short _ _ (omega arith)

pub returns-then-s-i : goal.returns-then-s-i
returns-then-s-i c = end-past _ _ (search rules) c.get32-n.ensures (search rules)

pub overflow_sub-m : goal.overflow_sub-m
overflow_sub-m c = let h = head-is _ _ _ c.head_at.ensures c.in-Ok.is in omega (arith, h.within)

pub returns-then-m-k-gt-MAX_DATA : goal.returns-then-m-k-gt-MAX_DATA
returns-then-m-k-gt-MAX_DATA c = end-long _ _ (search rules) c.get32-n.ensures (search rules) c.head_at.ensures c.in-Ok.is (search rules)

pub returns-in_default : goal.returns-in_default
returns-in_default c = end_bad _ _ (search rules) c.get32-n.ensures (search rules) c.head_at.ensures c.in_default.is

pub returns : goal.returns
returns c = end-there _ _ (search rules) c.get32-n.ensures (search rules) c.head_at.ensures c.in-Ok.is (search rules)
