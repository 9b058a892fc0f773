-- `mvcc::lists::status_of` meets its contract: the search finds the place of tx, or tx is absent.
-- Assumes nothing.
use Rattle.std.proofs.Common.{sym, Ok, Err, arith}
use Rattle.mvcc.proofs.Laws.{searched_in, lookup_at, lookup-none}
use Rattle.mvcc.proofs.lists.status_of.Goals as goal

pub returns-in-Ok : goal.returns-in-Ok
returns-in-Ok c =
    let p = searched_in c.args.tx _ c.requires.rises (Ok c.in-Ok.i) c.in-Ok.ensures.position in
    sym (lookup_at _ _ _ _ c.requires.rises p.0 (omega (arith, c.requires.same, p.0)) p.1)

pub returns-in-Err : goal.returns-in-Err
returns-in-Err c = sym (lookup-none _ _ _ (searched_in c.args.tx _ c.requires.rises (Err c.in-Err.field-0) c.in-Err.ensures.position))
