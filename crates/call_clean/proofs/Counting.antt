-- The run of a key in a judged leaf stands within its cells and is no longer than they are many; a leaf has few cells to
-- drop; and what a leaf says of the walks that judge. Assumes nothing.
use Rattle.std.proofs.Common.{Result, Ok, Err}
use mathlib.Core.Path.{◌≡◌, sym, ap, ◌∙◌}
use mathlib.Core.Bool.{Bool, true, false}
use mathlib.Core.List.{List}
use Prim.Native.Nat.{ℕ, ◌+◌, ◌≤◌}
use native.Mathlib.Omega.{arith}
use lib.ListN.{length, length-map}
use Rattle.page.specs.Header.{cell_count}
use Rattle.row.specs.declared.Fault.{Fault}
use Rattle.leaf.specs.Cells.{cells, on_judged}
use Rattle.leaf.specs.Rows.{row_of, rows}
use Rattle.leaf.specs.Find.{run_leaf}
use Rattle.leaf.specs.declared.find.Run.{Run}
use Rattle.leaf_vacuum.specs.Vacuum.{vacuumed_leaf}
use Rattle.leaf_vacuum.specs.declared.Vacuumed.{Vacuumed}
use Rattle.tree.specs.Chain.{Seen, stop, go, broken}
use Rattle.call_clean.specs.Remove.{look_held}
use Rattle.leaf.proofs.Chain.{chain-few, chain-cells, chain-inside, judged-leaf}
use Rattle.leaf_vacuum.proofs.VacuumFacts.{kept_count}
use Rattle.leaf.proofs.Running.{RunIs, run_is, run_bad, run-count}

-- ---- the run of a key

cells-few : (pg : List ℕ) → length pg ≡ 4096 → length (cells pg) ≤ 65535
cells-few pg len =
    let chain = chain-cells pg (cell_count pg) 12 in
    omega (arith, chain-few pg 12 (cells pg) chain, chain-inside pg 12 (cells pg) (omega arith) chain)

-- what is told of a judged leaf: the run is within its cells, which are few
pub record RunFits (pg : List ℕ) (run : Run) (e : ℕ) : Type 0 where
  pub low : 12 ≤ run.from
  pub grows : run.from ≤ run.to
  pub within : run.to ≤ e
  pub short : e ≤ 4096
  pub count : run.count ≤ cell_count pg
  pub few : run.count ≤ 65535

module _ (p key : ℕ) (pg : List ℕ) {r : Result (Run × ℕ × Bool) Fault} (said : r ≡ run_leaf pg p key) where
  module _ {run : Run} {e : ℕ} {larger : Bool} (good : r ≡ Ok (run, e, larger)) where
    pub run-there : RunIs pg p key run e larger
    run-there = run_is pg p key e run larger (sym said ∙ good)

    pub run_fits : length pg ≡ 4096 → RunFits pg run e
    run_fits len =
        let i = run-there in
        let there = judged-leaf p pg e i.judged in
        let inside = chain-inside pg 12 (cells pg) (omega arith) (chain-cells pg (cell_count pg) 12) in
        record {
          low = i.low;
          grows = i.grows;
          within = i.within;
          short = omega (arith, there.end);
          count = i.few;
          few = omega (arith, i.few, there.count, cells-few pg len);
        }

    -- what the run says of the walk that counts
    pub run-stop : (n : ℕ) → larger ≡ true → look_held key n p pg ≡ stop (n + run.count)
    run-stop n t = rw (run-there.judged, run-there.last ∙ t, ← run-count run-there)

    pub run-go : (n : ℕ) → larger ≡ false → look_held key n p pg ≡ go (n + run.count)
    run-go n t = rw (run-there.judged, run-there.last ∙ t, ← run-count run-there)

  pub run-broken : (n : ℕ) {f : Fault} → r ≡ Err f → look_held key n p pg ≡ broken f
  run-broken n {f} bad = rw (run_bad pg p key f (sym said ∙ bad))

-- and a judgement of the walk that only judges
module _ {r x : Result ℕ Fault} (said : r ≡ x) where
  pub leaf-broken : {f : Fault} → r ≡ Err f → on_judged {A = Seen (Unit {0})} (λ e. go tt) broken x ≡ broken f
  leaf-broken e = ap (on_judged {A = Seen (Unit {0})} (λ d. go tt) broken) (sym said ∙ e)

  pub leaf-go : {e : ℕ} → r ≡ Ok e → on_judged {A = Seen (Unit {0})} (λ d. go tt) broken x ≡ go tt
  leaf-go e = ap (on_judged {A = Seen (Unit {0})} (λ d. go tt) broken) (sym said ∙ e)

-- ---- vacuum

pub dropped-few : (st : ℕ → ℕ) (bound : ℕ) (pg : List ℕ) {w : Vacuumed} → length pg ≡ 4096 → w ≡ (vacuumed_leaf pg st bound).told → w.dropped ≤ 65535
unfolding vacuumed_leaf
dropped-few st bound pg len told = rw told (omega (arith, kept_count st bound (rows pg), length-map (cells pg) (row_of pg), cells-few pg len))
