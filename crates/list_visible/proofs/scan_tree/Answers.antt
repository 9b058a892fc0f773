-- `list_visible::scan_tree` meets its contract: the way down, then the listing of the chain. Assumes nothing.
use Rattle.std.proofs.lemmas.Result.{err_from_is_err_and}
use Rattle.list_visible.proofs.Ending.{tree_bad, tree-leaf}
use Rattle.list_visible.proofs.scan_tree.Goals as goal

pub returns-in_err-first : goal.returns-in_err-first
returns-in_err-first c =
    let p = err_from_is_err_and c.from_residual.result c.from_residual.ensures.1 in
    rw (p.1, p.2) (tree_bad _ _ _ _ _ _ c.descend.ensures c.in_err-first.was)

pub returns : goal.returns
returns c = tree-leaf _ _ _ _ _ _ c.descend.ensures c.in_ok-first.was c.list_visible.ensures
