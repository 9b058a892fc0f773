-- The run of a leaf's cells that is listed, and the length of the listing: what the two walks of a listing say.
use Rattle.std.specs.Prelude.{Result, Ok, Err, ◌≡◌, Bool, true, false, List, [], ℕ, length}
use Rattle.row.specs.declared.Fault.{Fault}
use Rattle.leaf.specs.declared.find.Run.{Run}
use Rattle.page.specs.Header.{cell_count, header_size}
use Rattle.leaf.specs.Cells.{judge_leaf, on_judged}
use Rattle.leaf.specs.Find.{run_leaf}
use Rattle.leaf.specs.Rows.{Row}
use Rattle.list_records.specs.Records.{records}
use Rattle.list_versions.specs.declared.Which.{Which}
use Rattle.list_versions.specs.declared.Again.{Again}

abbrev pub rows_told : Result (List Row) Fault → List Row
rows_told (Ok rs) = rs
rows_told (Err f) = []

abbrev pub IsOk : Result (List Row) Fault → Type 0
IsOk t = t ≡ Ok (rows_told t)

-- the length of their records
abbrev pub size_told : Result (List Row) Fault → Result ℕ Fault
size_told (Ok rs) = Ok (length (records rs))
size_told (Err f) = Err f

abbrev pub run_of : List ℕ → (p : ℕ) → Which → Result (Run × ℕ × Bool) Fault
run_of pg p Which.All = on_judged (λ e. Ok (record { from = header_size; to = e; count = cell_count pg }, e, false)) (λ f. Err f) (judge_leaf pg p)
run_of pg p (Which.Key key) = run_leaf pg p key

abbrev pub again_on : Result (Run × ℕ × Bool) Fault → Again
again_on (Ok (run, e, larger)) = record { from = run.from; count = run.count; last = larger }
again_on (Err f) = record { from = header_size; count = 0; last = true }

abbrev pub again_of : List ℕ → (p : ℕ) → Which → Again
again_of pg p Which.All = record { from = header_size; count = cell_count pg; last = false }
again_of pg p (Which.Key key) = again_on (run_leaf pg p key)
