-- The run of a leaf's cells that is listed holds the wanted rows, and says how long their records are. Assumes nothing.
use Rattle.std.proofs.Common.{Result, Ok, Err}
use mathlib.Core.Path.{◌≡◌, refl, sym, ap, ◌∙◌}
use mathlib.Core.Bool.{Bool}
use mathlib.Core.List.{List, ◌++◌, map}
use Prim.Native.Nat.{ℕ, ◌+◌, ◌-◌, ◌*◌, ◌≤◌}
use native.Mathlib.Omega.{arith}
use lib.ListN.{length}
use Rattle.store.specs.Pick.{pick}
use Rattle.store.specs.Le.{AreBytes}
use Rattle.page.specs.Header.{cell_count}
use Rattle.row.specs.declared.Cell.{Cell}
use Rattle.row.specs.declared.Fault.{Fault}
use Rattle.leaf.specs.Cells.{cells_of, cells, fold_cells, judge_leaf, on_judged, has_larger}
use Rattle.leaf.specs.Find.{running, run_leaf}
use Rattle.leaf.specs.Rows.{Row, row_of, rows_of, rows}
use Rattle.leaf.specs.declared.find.Run.{Run}
use Rattle.tree.specs.Chain.{stop, go, broken}
use Rattle.list_records.specs.Records.{records}
use Rattle.list_versions.specs.Gather.{wanted, ends, look_rows}
use Rattle.list_versions.specs.Steps.Gather.{run_of, again_of}
use Rattle.list_versions.specs.declared.Which.{Which}
use Rattle.list_versions.specs.declared.Again.{Again}
use Rattle.leaf.proofs.Rowing.{end_of}
use Rattle.leaf.proofs.Chain.{Chain, chain-cells, chain_back, chain-few, chain-inside, judged-leaf}
use Rattle.leaf.proofs.Running.{run_is}
use Rattle.list_versions.proofs.Recorded.{chain-records}

-- the cells of a run stand one after another, and hold these rows
record Stands (s : List ℕ) (run : Run) (rs : List Row) : Type 0 where
  out : List Cell
  start : run.from ≤ length s
  chain : Chain s run.from out
  end : end_of run.from out ≡ run.to
  count : length out ≡ run.count
  same : rs ≡ map (row_of s) out

-- ---- the run of a judged leaf

-- what the listing measures, and what it writes
pub record Measures (run : Run) (rs : List Row) : Type 0 where
  pub size : length (records rs) ≡ (run.to - run.from) + 6 * run.count
  pub grows : run.from ≤ run.to
  pub inside : run.to ≤ 4096
  pub few : 19 * run.count ≤ run.to - run.from

pub record Gives (which : Which) (p : ℕ) (pg : List ℕ) (from count : ℕ) (last : Bool) : Type 0 where
  pub all : length (cells_of pg count from) ≡ count
  pub same : rows_of pg count from ≡ wanted which (rows pg)
  pub seen : (rs : List Row) → look_rows which rs p pg ≡ pick last (stop (rs ++ wanted which (rows pg))) (go (rs ++ wanted which (rows pg)))

-- the run in a leaf whose cells end at e
abbrev the_run : Which → List ℕ → ℕ → Run
the_run Which.All pg e = record { from = 12; to = e; count = cell_count pg }
the_run (Which.Key key) pg e = fold_cells (running key) (record { from = 12; to = 12; count = 0 }) (cells pg)

told_is : (which : Which) (p : ℕ) (pg : List ℕ) → run_of pg p which ≡ on_judged (λ e. Ok (the_run which pg e, e, ends which (cells pg))) (λ f. Err f) (judge_leaf pg p)
unfolding run_leaf
told_is Which.All p pg = refl
told_is (Which.Key key) p pg = refl

again_is : (which : Which) (p : ℕ) (pg : List ℕ) {e : ℕ} → judge_leaf pg p ≡ Ok e
    → again_of pg p which ≡ record { from = (the_run which pg e).from; count = (the_run which pg e).count; last = ends which (cells pg) }
unfolding run_leaf
again_is Which.All p pg j = refl
again_is (Which.Key key) p pg j = rw j

-- a leaf with a fault ends the walk
pub run-broken : (which : Which) (p : ℕ) (pg : List ℕ) (rs : List Row) {r : Result (Run × ℕ × Bool) Fault} {f : Fault} → r ≡ run_of pg p which → r ≡ Err f → look_rows which rs p pg ≡ broken f
run-broken which p pg rs {r} {f} q u = by_judged (judge_leaf pg p) (sym (told_is which p pg) ∙ (sym q ∙ u))
  where
    by_judged : (j : Result ℕ Fault) → on_judged {A = Result (Run × ℕ × Bool) Fault} (λ e. Ok (the_run which pg e, e, ends which (cells pg))) (λ g. Err g) j ≡ Err f
        → on_judged (λ e. pick (ends which (cells pg)) (stop (rs ++ wanted which (rows pg))) (go (rs ++ wanted which (rows pg)))) (λ g. broken g) j ≡ broken f
    by_judged (Ok e) w = absurd (cc)
    by_judged (Err g) w = cc

module _ (which : Which) (p : ℕ) (pg : List ℕ) (B : AreBytes pg) (len : length pg ≡ 4096) where
  module _ {e : ℕ} (judged : judge_leaf pg p ≡ Ok e) where
    stands : (w : Which) → Stands pg (the_run w pg e) (wanted w (rows pg))
    stands Which.All =
        let a = judged-leaf p pg e judged in
        record { out = cells pg; start = omega arith; chain = chain-cells pg (cell_count pg) 12; end = a.end; count = a.count; same = refl }
    stands (Which.Key key) =
        let r = run_is pg p key e (the_run (Which.Key key) pg e) (has_larger key (cells pg)) (told_is (Which.Key key) p pg ∙ rw judged) in
        let i = chain-inside pg 12 (cells pg) (omega arith) (chain-cells pg (cell_count pg) 12) in
        record { out = r.out; start = omega (arith, r.grows, r.within, (judged-leaf p pg e judged).end); chain = r.chain; end = r.to; count = r.count; same = r.of_the_key }

    measures : Measures (the_run which pg e) (wanted which (rows pg))
    measures =
        let run = the_run which pg e in
        let h = stands which in
        let few = chain-few pg run.from h.out h.chain in
        let n = chain-records pg B run.from h.out h.chain in
        let i = chain-inside pg run.from h.out h.start h.chain in
        record { size = rw h.same (omega arith); grows = omega arith; inside = omega arith; few = omega arith }

    gives : Gives which p pg (the_run which pg e).from (the_run which pg e).count (ends which (cells pg))
    gives =
        let run = the_run which pg e in
        let h = stands which in
        let b : cells_of pg run.count run.from ≡ h.out = rw (← h.count) (chain_back pg run.from h.out h.chain) in
        record { all = ap length b ∙ h.count; same = ap (map (row_of pg)) b ∙ sym h.same; seen = λ rs. rw judged }

    -- what a second walk is told
    pub gives_again : {a : Again} → a ≡ again_of pg p which → Gives which p pg a.from a.count a.last
    gives_again q = rw (q, again_is which p pg judged) gives

  -- what a first walk is told
  pub run-told : {r : Result (Run × ℕ × Bool) Fault} {run : Run} {e : ℕ} {last : Bool} → r ≡ run_of pg p which → r ≡ Ok (run, e, last)
      → Measures run (wanted which (rows pg)) × Gives which p pg run.from run.count last
  run-told {r} {run} {e} {last} q u = by_judged (judge_leaf pg p) refl (sym (told_is which p pg) ∙ (sym q ∙ u))
    where
      by_judged : (j : Result ℕ Fault) → judge_leaf pg p ≡ j → on_judged {A = Result (Run × ℕ × Bool) Fault} (λ d. Ok (the_run which pg d, d, ends which (cells pg))) (λ g. Err g) j ≡ Ok (run, e, last)
          → Measures run (wanted which (rows pg)) × Gives which p pg run.from run.count last
      by_judged (Err g) t w = absurd (cc)
      by_judged (Ok d) j w =
          let t : ◌≡◌ {A = Run × ℕ × Bool} (the_run which pg d, d, ends which (cells pg)) (run, e, last) = cc (w) in
          let x : the_run which pg d ≡ run = ap (λ (y : Run × ℕ × Bool). y.0) t in
          let y : ends which (cells pg) ≡ last = ap (λ (z : Run × ℕ × Bool). z.2) t in
          rw (← x, ← y) (measures j, gives j)
