-- The ways out of a listing, one law each. Assumes nothing.
use Rattle.call_answers.specs.declared.Refusal.{Refusal}
use Rattle.call_answers.specs.Answer.{refusal_of, faulty, written, Written}
use Rattle.std.proofs.Common.{Result, Ok, Err}
use Rattle.call_answers.specs.declared.Refused.{Refused}
use mathlib.Core.Path.{◌≡◌, refl, sym, ◌∙◌}
use mathlib.Core.List.{List}
use Prim.Native.Nat.{ℕ, ◌≤◌, ◌<◌}
use native.Mathlib.Omega.{arith}
use borrow.Author.Tests.{le-leb, lt-leb}
use lib.ListN.{length}
use Rattle.store.specs.Part.{put}
use Rattle.row.specs.declared.Fault.{Fault}
use Rattle.leaf.specs.Rows.{Row}
use Rattle.tree.specs.Descend.{descend_of}
use Rattle.tree.specs.declared.Route.{Route}
use Rattle.list_records.specs.Records.{records}
use Rattle.list_records.specs.Listed.{fitted}
use Rattle.list_versions.specs.Gather.{rows_along}
use Rattle.list_versions.specs.Steps.Gather.{rows_told, IsOk, size_told}
use Rattle.list_versions.specs.Listed.{listed_rows, route_of, list_tree}
use Rattle.list_versions.specs.declared.Which.{Which}

-- what a measured walk gathered
pub measured_rows : (t : Result (List Row) Fault) {r : Result ℕ Fault} {n : ℕ} → r ≡ size_told t → r ≡ Ok n → IsOk t × (length (records (rows_told t)) ≡ n)
measured_rows (Ok rs) q u = (refl, cc)
measured_rows (Err f) q u = absurd (cc)

pub list_bad : (t : Result (List Row) Fault) (out : List ℕ) {r : Result ℕ Fault} {f : Fault} → r ≡ size_told t → r ≡ Err f → written (Err (faulty f)) out ≡ listed_rows t out
list_bad (Ok rs) out q u = absurd (cc)
list_bad (Err g) out q u = cc

module _ (t : Result (List Row) Fault) (out : List ℕ) {r : Result ℕ Fault} {n : ℕ} (said : r ≡ size_told t) (u : r ≡ Ok n) where
  pub list_short : length out < n → written (Err (refusal_of Refusal.Short)) out ≡ listed_rows t out
  unfolding fitted
  list_short h =
      let g = measured_rows t said u in
      rw (g.0, lt-leb (length (records (rows_told t))) (length out) (omega arith))

  pub list_done : {out₁ : List ℕ} → n ≤ length out → out₁ ≡ put 0 (records (rows_told t)) out → written (Ok n) out₁ ≡ listed_rows t out
  unfolding fitted
  list_done h e =
      let g = measured_rows t said u in
      rw (g.0, le-leb (length (records (rows_told t))) (length out) (omega arith), e, g.1)

-- from the root on
module _ (which : Which) (used root : ℕ) (s out : List ℕ) {route : Route} {d : Result ℕ Fault} (by-route : route ≡ route_of which) (way : d ≡ descend_of s used root route 3) where
  down : descend_of s used root (route_of which) 3 ≡ d
  down = sym (way ∙ rw by-route)

  pub tree_bad : {f : Fault} → d ≡ Err f → written (Err (faulty f)) out ≡ list_tree s used root which out
  unfolding list_tree
  tree_bad e = rw (down, e)

  pub tree-leaf : {p : ℕ} {w : Written (Result ℕ Refused)} → d ≡ Ok p → w ≡ listed_rows (rows_along s used p which) out → w ≡ list_tree s used root which out
  unfolding list_tree
  tree-leaf e q = q ∙ rw (down, e)
