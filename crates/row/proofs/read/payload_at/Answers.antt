-- `row::read::payload_at` meets its contract. Assumes nothing.
use Rattle.row.proofs.Reading.{head-is, payload_bad, payload_past, payload_long, payload_cell, stamp-inside, pointer-inside}
use native.Mathlib.Omega.{arith}
use Rattle.std.proofs.lemmas.Result.{err_from_is_err_and}
use Rattle.row.proofs.read.payload_at.Goals as goal
-- `row::read::payload_at` meets its contract: each way out is one law of Reading. Assumes nothing.
use borrow.Author.Rules.{rules}

pub returns-then-past : goal.returns-then-past
returns-then-past c = payload_past _ _ _ (head-is _ _ _ c.head_at.ensures c.in_ok-j.was) (search rules)

pub overflow_sub-m : goal.overflow_sub-m
overflow_sub-m c = let h = head-is _ _ _ c.head_at.ensures c.in_ok-j.was in omega (arith, h.within)

pub returns-then-m-k-gt-MAX_DATA : goal.returns-then-m-k-gt-MAX_DATA
returns-then-m-k-gt-MAX_DATA c = payload_long _ _ _ (head-is _ _ _ c.head_at.ensures c.in_ok-j.was) (search rules) (search rules)

pub get64-requires : goal.get64-requires
get64-requires c = let h = head-is _ _ _ c.head_at.ensures c.in_ok-j.was in omega (arith, h.within, h.after)

pub stamp_in-requires : goal.stamp_in-requires
stamp_in-requires c = let h = head-is _ _ _ c.head_at.ensures c.in_ok-j.was in omega (arith, h.within, h.apart, stamp-inside _ _ h.flag)

pub pointer_in-requires : goal.pointer_in-requires
pointer_in-requires c = let h = head-is _ _ _ c.head_at.ensures c.in_ok-j.was in omega (arith, h.within, pointer-inside _ _ h.flag h.start)

pub overflow_sub-result : goal.overflow_sub-result
overflow_sub-result c = let h = head-is _ _ _ c.head_at.ensures c.in_ok-j.was in omega (arith, h.within)

pub returns-in_err-j : goal.returns-in_err-j
returns-in_err-j c = let p = err_from_is_err_and c.from_residual.result c.from_residual.ensures.1 in rw (p.1, p.2) (payload_bad _ _ _ _ c.head_at.ensures c.in_err-j.was)

pub returns : goal.returns
returns c =
    payload_cell _ _ _ (head-is _ _ _ c.head_at.ensures c.in_ok-j.was) (search rules) (search rules) (search rules) (search rules) (search rules) (search rules)
