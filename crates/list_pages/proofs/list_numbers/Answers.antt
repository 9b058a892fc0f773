-- `list_pages::list_numbers` meets its contract: the first walk counts, the second writes what was counted. Assumes nothing.
use Rattle.std.proofs.lemmas.Result.{err_from_is_err_and}
use mathlib.Core.List.{[]}
use mathlib.Core.Path.{refl}
use native.Mathlib.Omega.{arith}
use Rattle.list_pages.proofs.Numbering.{list_bad, list_few, list_short, list_again, list_done}
use Rattle.list_pages.proofs.list_numbers.Goals as goal

pub returns-in_err-counted : goal.returns-in_err-counted
returns-in_err-counted c =
    let p = err_from_is_err_and c.from_residual.result c.from_residual.ensures.1 in
    rw (p.1, p.2) (list_bad _ _ _ _ c.requires.1 8192 refl [] _ _ _ c.walk.ensures c.in_err-counted.was)

pub overflow_mul-counted : goal.overflow_mul-counted
overflow_mul-counted c = omega (arith, list_few _ _ _ c.args.out.now c.requires.1 8192 refl [] _ _ _ c.walk.ensures _ c.in_ok-counted.was)

pub returns-then-out-counted : goal.returns-then-out-counted
returns-then-out-counted c = list_short _ _ _ _ c.requires.1 8192 refl [] _ _ _ c.walk.ensures _ c.in_ok-counted.was c.if-out-counted.true c.into.ensures

pub returns-in_err-listed : goal.returns-in_err-listed
returns-in_err-listed c = absurd (list_again _ _ _ _ c.requires.1 8192 refl [] _ _ _ c.walk.ensures _ c.in_ok-counted.was _ _ _ (c.fill.ensures.after (λ y e. e)) (omega arith) c.walk-2.ensures c.in_err-listed.was)

pub overflow_mul-result : goal.overflow_mul-result
overflow_mul-result c =
    let few = list_few _ _ _ c.args.out.now c.requires.1 8192 refl [] _ _ _ c.walk.ensures _ c.in_ok-counted.was in
    let again = list_done _ _ _ _ c.requires.1 8192 refl [] _ _ _ c.walk.ensures _ c.in_ok-counted.was _ _ _ (c.fill.ensures.after (λ y e. e)) (omega arith) c.walk-2.ensures c.in_ok-listed.was (omega arith) in
    omega (arith, few, again.0)

pub returns : goal.returns
returns c =
    (list_done _ _ _ _ c.requires.1 8192 refl [] _ _ _ c.walk.ensures _ c.in_ok-counted.was _ _ _ (c.fill.ensures.after (λ y e. e)) (omega arith) c.walk-2.ensures c.in_ok-listed.was (omega arith)).1
