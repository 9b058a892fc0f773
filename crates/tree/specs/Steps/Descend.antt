-- A step of a descent.
use Rattle.std.specs.Prelude.{Result, Ok, Err, Bool, List, ℕ, ltb, eqb}
use Rattle.store.specs.Pick.{pick}
use Rattle.page.specs.Page.{page}
use Rattle.page.specs.Header.{node_type, node_leaf}
use Rattle.row.specs.declared.Fault.{Fault}
use Rattle.row.specs.Fault.{structural}

-- whether page p, which must be in use, is a leaf
abbrev pub leaf_at : List ℕ → (used p : ℕ) → Result Bool Fault
leaf_at s used p = pick (ltb p used) (Ok (eqb (node_type (page s p)) node_leaf)) (Err (structural p))
