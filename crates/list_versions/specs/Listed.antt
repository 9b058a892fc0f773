-- The listing of the versions that the walk meets (document 01, sections 2 and 6).
use Rattle.call_answers.specs.Answer.{faulty, written, Written}
use Rattle.std.specs.Prelude.{Result, Ok, Err, List, ℕ}
use Rattle.call_answers.specs.declared.Refused.{Refused}
use Rattle.row.specs.declared.Fault.{Fault}
use Rattle.leaf.specs.Rows.{Row}
use Rattle.tree.specs.Descend.{descend_of, on_leaf}
use Rattle.tree.specs.declared.Route.{Route}
use Rattle.list_records.specs.Records.{records}
use Rattle.list_records.specs.Listed.{fitted}
use Rattle.list_versions.specs.Gather.{rows_along}
use Rattle.list_versions.specs.declared.Which.{Which}

abbrev pub listed_rows : Result (List Row) Fault → List ℕ → Written (Result ℕ Refused)
listed_rows (Ok rs) out = fitted (records rs) out
listed_rows (Err f) out = written (Err (faulty f)) out

-- all versions start at the leftmost leaf, those of a key where search comes to
abbrev pub route_of : Which → Route
route_of Which.All = Route.First
route_of (Which.Key key) = Route.Search key

unfoldable pub list_tree : (s : List ℕ) → (used root : ℕ) → Which → (out : List ℕ) → Written (Result ℕ Refused)
list_tree s used root w out =
    on_leaf (λ p. listed_rows (rows_along s used p w) out) (λ f. written (Err (faulty f)) out) (descend_of s used root (route_of w) 3)
