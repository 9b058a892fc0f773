-- How the visible listing ends, one law for each way out: both ways write the rows of the chain, or tell its fault. Assumes
-- nothing.
use Rattle.call_answers.specs.declared.Refusal.{Refusal}
use Rattle.call_answers.specs.Answer.{refusal_of, faulty, written, Written}
use Rattle.std.proofs.Common.{Result, Ok, Err}
use Rattle.call_answers.specs.declared.Refused.{Refused}
use mathlib.Core.Path.{◌≡◌, refl, sym, ap, ◌∙◌}
use mathlib.Core.Bool.{false}
use mathlib.Core.List.{List}
use Prim.Native.Nat.{ℕ, ◌*◌, ◌≤◌, ◌<◌}
use native.Mathlib.Omega.{arith}
use lib.ListN.{length}
use Rattle.store.specs.Le.{AreBytes}
use Rattle.store.specs.Part.{put}
use Rattle.row.specs.declared.Fault.{Fault}
use Rattle.leaf.specs.Rows.{Row}
use Rattle.tree.specs.Descend.{descend_of}
use Rattle.tree.specs.declared.Route.{Route}
use Rattle.list_records.specs.Records.{records}
use Rattle.list_records.specs.Listed.{fitted}
use Rattle.list_visible.specs.Visible.{chain_rows, scan_rows, listed_visible, scan_tree}
use Rattle.list_visible.specs.Steps.Fast.{bound_along, pass_along, pass_bytes, passed, Through, PassFits}
use Rattle.list_visible.specs.Steps.Slow.{slow_bytes}
use Rattle.list_visible.specs.Steps.ScanFacts.{BoundIs, FastIs}
use Rattle.list_visible.specs.declared.Bound.{Bound}
use Rattle.mvcc.specs.Snapshot.{Snapshot}
use Rattle.list_visible.proofs.Bounding.{along-few}
use Rattle.list_visible.proofs.Falling.{bound_tells, faults_agree}
use Rattle.list_visible.proofs.Listing.{fast_lists}
use Rattle.list_visible.proofs.Slowness.{slow_lists}
use Rattle.list_visible.proofs.Fitting.{fitted_short, fitted-done}

module _ (sn : Snapshot) (st : ℕ → ℕ) (used first : ℕ) (s : List ℕ) (B : AreBytes s) (room : used * 4096 ≤ length s) {r : Result Bound Fault} (said : r ≡ bound_along s used first) where
  pub list_bad : (out : List ℕ) {f : Fault} → r ≡ Err f → written (Err (faulty f)) out ≡ listed_visible sn st out (chain_rows s used first)
  list_bad out {f} e = by_told (chain_rows s used first) refl
    where
      by_told : (t : Result (List Row) Fault) → chain_rows s used first ≡ t → written (Err (faulty f)) out ≡ listed_visible sn st out t
      by_told (Ok rs) q = absurd (let u = sym e ∙ (said ∙ (bound_tells used first s rs B room q).told) in cc)
      by_told (Err g) q =
          let u : Err f ≡ Err g = sym e ∙ (said ∙ faults_agree used first s g q) in
          let same : f ≡ g = cc in
          ap (λ (h : Fault). written (Err (faulty h)) out) same

  module _ {b : Bound} (e : r ≡ Ok b) where
    -- the chain was judged
    record Rows : Type 0 where
      rows : List Row
      told : chain_rows s used first ≡ Ok rows
      bound : BoundIs used first s rows
      bound-is : bound.bound ≡ b
      fast : FastIs sn st used first s rows

    judged : Rows
    judged = by_told (chain_rows s used first) refl
      where
        by_told : (t : Result (List Row) Fault) → chain_rows s used first ≡ t → Rows
        by_told (Ok rs) q =
            let i = bound_tells used first s rs B room q in
            let u : Ok i.bound ≡ Ok b = sym i.told ∙ (sym said ∙ e) in
            record { rows = rs; told = q; bound = i; bound-is = cc; fast = fast_lists sn st used first s rs B room q }
        by_told (Err g) q = absurd (let u = sym e ∙ (said ∙ faults_agree used first s g q) in cc)

    lists : (out : List ℕ) → listed_visible sn st out (chain_rows s used first) ≡ fitted (records (scan_rows sn st judged.rows)) out
    lists out = ap (listed_visible sn st out) judged.told

    pub list_falls : (out : List ℕ) {w : Written (Result ℕ Refused)} → w ≡ fitted (slow_bytes 4294967296 s used first sn st 0) out → w ≡ listed_visible sn st out (chain_rows s used first)
    list_falls out u = u ∙ (ap (λ (x : List ℕ). fitted x out) (slow_lists sn st used first s judged.rows B room judged.told) ∙ sym (lists out))

    all_few : length (pass_bytes s (pass_along s used first sn st)) ≤ b.size
    all_few = omega (arith, judged.fast.few, judged.bound.size, ap (λ (d : Bound). d.size) judged.bound-is)

    -- the sum is room enough
    pub list_room : {n : ℕ} → b.size ≤ n → length (pass_bytes s (pass_along s used first sn st)) ≤ n
    list_room h = omega (arith, all_few)

    pub list_through : used ≤ 4294967295 → Through (pass_along s used first sn st) s
    list_through h =
        record { pass = judged.fast.end; judged = judged.fast.pass; few = omega (arith, all_few, along-few used first s (sym said ∙ e)) }

    pub list_fits : (out : List ℕ) → used ≤ 4294967295 → length (pass_bytes s (pass_along s used first sn st)) ≤ length out → PassFits (pass_along s used first sn st) s out
    list_fits out h l = record { through = list_through h; room = l }

    module _ (straight : b.falls ≡ false) where
      bytes_are : pass_bytes s (pass_along s used first sn st) ≡ records (scan_rows sn st judged.rows)
      bytes_are = judged.fast.bytes (sym judged.bound.falls ∙ (ap (λ (d : Bound). d.falls) judged.bound-is ∙ straight))

      pub list_short : (out : List ℕ) {n : ℕ} {r : Refused} → n ≡ length (pass_bytes s (pass_along s used first sn st)) → length out < n → r ≡ refusal_of Refusal.Short
          → written (Err r) out ≡ listed_visible sn st out (chain_rows s used first)
      list_short out u h z = fitted_short (records (scan_rows sn st judged.rows)) out (u ∙ ap length bytes_are) h z ∙ sym (lists out)

      pub list_done : (out : List ℕ) {n : ℕ} {t : List ℕ} → length (pass_bytes s (pass_along s used first sn st)) ≤ length out
          → written n t ≡ passed (pass_bytes s (pass_along s used first sn st)) out → written (Ok n) t ≡ listed_visible sn st out (chain_rows s used first)
      list_done out {n} {t} h u =
          let a : n ≡ length (pass_bytes s (pass_along s used first sn st)) = ap (λ (y : Written ℕ). y.answer) u in
          let z : t ≡ put 0 (pass_bytes s (pass_along s used first sn st)) out = ap (λ (y : Written ℕ). y.output) u in
          fitted-done (records (scan_rows sn st judged.rows)) out (a ∙ ap length bytes_are) (omega arith) (z ∙ ap (λ (x : List ℕ). put 0 x out) bytes_are) ∙ sym (lists out)

-- ---- from the root

module _ (sn : Snapshot) (st : ℕ → ℕ) (used root : ℕ) (s out : List ℕ) {d : Result ℕ Fault} (said : d ≡ descend_of s used root Route.First 3) where
  pub tree_bad : {f : Fault} → d ≡ Err f → written (Err (faulty f)) out ≡ scan_tree s used root sn st out
  unfolding scan_tree
  tree_bad e = rw (sym said ∙ e)

  pub tree-leaf : {p : ℕ} {w : Written (Result ℕ Refused)} → d ≡ Ok p → w ≡ listed_visible sn st out (chain_rows s used p) → w ≡ scan_tree s used root sn st out
  unfolding scan_tree
  tree-leaf e u = u ∙ rw (sym said ∙ e)
