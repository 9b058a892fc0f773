-- The run of a key in a judged leaf: the cells before it, in it and after it, where they stand, and the rows of the key and of
-- the others. Assumes nothing.
use Rattle.std.proofs.Common.{Result, Ok, Err}
use mathlib.Core.Path.{◌≡◌, refl, sym, ap, ◌∙◌, subst}
use mathlib.Core.Bool.{Bool, true, false, not}
use mathlib.Core.List.{List, [], ◌∷◌, ◌++◌, map, map-append, append-nil}
use Prim.Native.Nat.{ℕ, suc, ◌+◌, ◌≤◌, ◌<◌}
use native.Mathlib.Omega.{arith}
use lib.Dec.{ltb, eqb}
use lib.ListN.{length, length-append, length-map}
use borrow.Author.Tests.{ltb-true, ltb-false, eqb-true, eqb-false, eq-eqb, ne_eqb, le-ltb, le-leb}
use Rattle.store.specs.Pick.{pick}
use Rattle.page.specs.Header.{cell_count}
use Rattle.row.specs.declared.Cell.{Cell}
use Rattle.row.specs.declared.Fault.{Fault}
use Rattle.leaf.specs.Cells.{cells, fold_cells, in_order, judge_leaf, on_judged, has_larger}
use Rattle.leaf.specs.Find.{running, run_leaf}
use Rattle.leaf.specs.FindFacts.{RunIsKeys}
use Rattle.leaf.specs.Rows.{Row, row_of, rows, only, of_key}
use Rattle.leaf.specs.declared.find.Run.{Run}
use Rattle.leaf.proofs.Chain.{Chain, chain-cells, chain_back, chain_left, chain-right, chain_grows, end-append, Rising, judged-leaf}
use Rattle.leaf.proofs.Filtering.{filt_app}
use Rattle.leaf.proofs.Finding.{order_le, running-below, running-same, running_above}
use Rattle.leaf.proofs.Rowing.{end_of}

-- ---- in cells whose keys never fall

module _ (key : ℕ) where
  -- each is of the key; or none is
  abbrev Keyed : Bool → List Cell → Type 0
  Keyed b [] = Unit
  Keyed b (c ∷ cs) = (eqb c.key key ≡ b) × Keyed b cs

  -- past the key the run stays
  run-stays : (k c : ℕ) (here : Run) (cs : List Cell) → key < k → Rising k c cs → (fold_cells (running key) here cs ≡ here) × Keyed false cs
  unfolding fold_cells
  run-stays k c here [] h r = (refl, tt)
  run-stays k c here (x ∷ xs) h r =
      let le : k ≤ x.key = order_le k c x.key x.version.creator r.0 in
      let i = run-stays x.key x.version.creator here xs (omega arith) r.1 in
      let n : x.key ≡ key → ⊥ = λ e. omega arith in
      let s : here ≡ running key here x = running_above key here x (omega arith) n in
      (rw (← s) i.0, (ne_eqb x.key key n, i.1))

  -- from a on, up to at, n cells of the key were met
  record InRun (a at n : ℕ) (cs : List Cell) : Type 0 where
    out : List Cell
    after : List Cell
    is : cs ≡ out ++ after
    same : Keyed true out
    other : Keyed false after
    told : fold_cells (running key) (record { from = a; to = at; count = n }) cs ≡ record { from = a; to = end_of at out; count = n + length out }

  in_run : (k c a at n : ℕ) (cs : List Cell) → key ≤ k → Rising k c cs → InRun a at n cs
  unfolding fold_cells end_of
  in_run k c a at n [] h r =
      let z : n ≡ n + 0 = omega arith in
      record { out = []; after = []; is = refl; same = tt; other = tt; told = ap (λ (m : ℕ). record { from = a; to = at; count = m }) z }
  in_run k c a at n (x ∷ xs) h r = by_key (eqb x.key key) refl (in_run x.key x.version.creator a x.next (n + 1) xs)
    where
      le : k ≤ x.key
      le = order_le k c x.key x.version.creator r.0

      here : Run
      here = record { from = a; to = at; count = n }

      by_key : (b : Bool) → eqb x.key key ≡ b → (key ≤ x.key → Rising x.key x.version.creator xs → InRun a x.next (n + 1) xs) → InRun a at n (x ∷ xs)
      by_key true e ih =
          let i = ih (omega (arith, le)) r.1 in
          let s = running-same key here x (eqb-true x.key key e) in
          let z : n + 1 + length i.out ≡ n + suc (length i.out) = omega arith in
          record {
            out = x ∷ i.out;
            after = i.after;
            is = ap (λ (l : List Cell). x ∷ l) i.is;
            same = (e, i.same);
            other = i.other;
            told = rw (← s) (i.told ∙ ap (λ (m : ℕ). record { from = a; to = end_of x.next i.out; count = m }) z);
          }
      by_key false e ih =
          let ne : x.key ≡ key → ⊥ = eqb-false x.key key e in
          let s : here ≡ running key here x = running_above key here x (omega (arith, le)) ne in
          let l : key < x.key = omega (arith, le) in
          let i = run-stays x.key x.version.creator here xs l r.1 in
          let z : n ≡ n + 0 = omega arith in
          record {
            out = [];
            after = x ∷ xs;
            is = refl;
            same = tt;
            other = (e, i.1);
            told = rw (← s) (i.0 ∙ ap (λ (m : ℕ). record { from = a; to = at; count = m }) z);
          }

  record Splits (at : ℕ) (cs : List Cell) : Type 0 where
    before : List Cell
    out : List Cell
    after : List Cell
    is : cs ≡ before ++ (out ++ after)
    first : Keyed false before
    same : Keyed true out
    other : Keyed false after
    told : fold_cells (running key) (record { from = at; to = at; count = 0 }) cs ≡ record { from = end_of at before; to = end_of (end_of at before) out; count = length out }

  order_self : (k c : ℕ) → in_order k c k c ≡ true
  unfolding in_order
  order_self k c = rw (le-ltb k k (omega arith), eq-eqb k k refl, le-leb c c (omega arith))

  splits : (k c at : ℕ) (cs : List Cell) → Rising k c cs → Splits at cs
  unfolding fold_cells end_of
  splits k c at [] r = record { before = []; out = []; after = []; is = refl; first = tt; same = tt; other = tt; told = refl }
  splits k c at (x ∷ xs) r = by_less (ltb x.key key) refl (splits x.key x.version.creator x.next xs r.1)
    where
      here : Run
      here = record { from = at; to = at; count = 0 }

      by_less : (b : Bool) → ltb x.key key ≡ b → Splits x.next xs → Splits at (x ∷ xs)
      by_less true e i =
          let l : x.key < key = ltb-true x.key key e in
          let s = running-below key here x l in
          record {
            before = x ∷ i.before;
            out = i.out;
            after = i.after;
            is = ap (λ (l : List Cell). x ∷ l) i.is;
            first = (ne_eqb x.key key (λ q. omega arith), i.first);
            same = i.same;
            other = i.other;
            told = rw (← s) i.told;
          }
      by_less false e i =
          let l : key ≤ x.key = ltb-false x.key key e in
          let j = in_run x.key x.version.creator at at 0 (x ∷ xs) l (order_self x.key x.version.creator, r.1) in
          let z : 0 + length j.out ≡ length j.out = omega arith in
          record {
            before = [];
            out = j.out;
            after = j.after;
            is = j.is;
            first = tt;
            same = j.same;
            other = j.other;
            told = j.told ∙ ap (λ (m : ℕ). record { from = at; to = end_of at j.out; count = m }) z;
          }

  -- what a test by the key keeps of them
  module _ (pg : List ℕ) (f : Bool → Bool) where
    kept : (b : Bool) (cs : List Cell) → Keyed b cs → only (λ r. f (of_key key r)) (map (row_of pg) cs) ≡ pick (f b) (map (row_of pg) cs) []
    kept b [] h = by_test (f b)
      where
        by_test : (t : Bool) → [] ≡ pick t (map (row_of pg) []) []
        by_test true = refl
        by_test false = refl
    kept b (c ∷ cs) h = rw (h.0, kept b cs h.1) (by_test (f b))
      where
        by_test : (t : Bool) → pick t (row_of pg c ∷ pick t (map (row_of pg) cs) []) (pick t (map (row_of pg) cs) []) ≡ pick t (row_of pg c ∷ map (row_of pg) cs) []
        by_test true = refl
        by_test false = refl

    kept_of : (s : Splits 12 (cells pg))
        → only (λ r. f (of_key key r)) (rows pg)
        ≡ pick (f false) (map (row_of pg) s.before) [] ++ (pick (f true) (map (row_of pg) s.out) [] ++ pick (f false) (map (row_of pg) s.after) [])
    kept_of s =
        let g : Row → Bool = λ r. f (of_key key r) in
        let m = map (row_of pg) in
        ap (λ (cs : List Cell). only g (m cs)) s.is
        ∙ rw (map-append (row_of pg) s.before (s.out ++ s.after), map-append (row_of pg) s.out s.after, filt_app g (m s.before) (m s.out ++ m s.after), filt_app g (m s.out) (m s.after), kept false s.before s.first, kept true s.out s.same, kept false s.after s.other)

-- ---- in a judged leaf

-- the cells before the run, in it and after it; where it stands; and the rows of the key and of the others
pub record RunIs (pg : List ℕ) (p key : ℕ) (run : Run) (e : ℕ) (larger : Bool) : Type 0 where
  pub judged : judge_leaf pg p ≡ Ok e
  pub last : has_larger key (cells pg) ≡ larger
  pub before : List Cell
  pub out : List Cell
  pub after : List Cell
  pub is : cells pg ≡ before ++ (out ++ after)
  pub from : end_of 12 before ≡ run.from
  pub to : end_of run.from out ≡ run.to
  pub count : length out ≡ run.count
  pub chain : Chain pg run.from out
  pub low : 12 ≤ run.from
  pub grows : run.from ≤ run.to
  pub within : run.to ≤ e
  pub few : run.count ≤ cell_count pg
  pub of_the_key : only (of_key key) (rows pg) ≡ map (row_of pg) out
  pub others : only (λ r. not (of_key key r)) (rows pg) ≡ map (row_of pg) before ++ map (row_of pg) after

pub run_is : (pg : List ℕ) (p key e : ℕ) (run : Run) (larger : Bool) → run_leaf pg p key ≡ Ok (run, e, larger) → RunIs pg p key run e larger
unfolding run_leaf
run_is pg p key e run larger told = by_judged (judge_leaf pg p) refl told
  where
    by_judged : (j : Result ℕ Fault) → judge_leaf pg p ≡ j
        → on_judged {A = Result (Run × ℕ × Bool) Fault} (λ d. Ok (fold_cells (running key) (record { from = 12; to = 12; count = 0 }) (cells pg), d, has_larger key (cells pg))) (λ f. Err f) j ≡ Ok (run, e, larger)
        → RunIs pg p key run e larger
    by_judged (Err f) t w = absurd (let z : ◌≡◌ {A = ℕ} 0 1 = cc in omega arith)
    by_judged (Ok d) t w =
        let there = judged-leaf p pg d t in
        let s = splits key 0 0 12 (cells pg) there.rising in
        let same : ◌≡◌ {A = Run × ℕ × Bool} (fold_cells (running key) (record { from = 12; to = 12; count = 0 }) (cells pg), d, has_larger key (cells pg)) (run, e, larger) = cc (w) in
        let ends : d ≡ e = ap (λ (x : Run × ℕ × Bool). x.1) same in
        let is : run ≡ record { from = end_of 12 s.before; to = end_of (end_of 12 s.before) s.out; count = length s.out } = sym (ap (λ (x : Run × ℕ × Bool). x.0) same) ∙ s.told in
        let all : Chain pg 12 (s.before ++ (s.out ++ s.after)) = subst (Chain pg 12) s.is (chain-cells pg (cell_count pg) 12) in
        let back = chain-right pg 12 s.before (s.out ++ s.after) all in
        let run_on = chain_left pg (end_of 12 s.before) s.out s.after back in
        let rest = chain-right pg (end_of 12 s.before) s.out s.after back in
        let low = chain_grows pg 12 s.before (chain_left pg 12 s.before (s.out ++ s.after) all) in
        let grows = chain_grows pg (end_of 12 s.before) s.out run_on in
        let within = chain_grows pg (end_of (end_of 12 s.before) s.out) s.after rest in
        let end : end_of (end_of (end_of 12 s.before) s.out) s.after ≡ e =
        sym (end-append (end_of 12 s.before) s.out s.after) ∙ (sym (end-append 12 s.before (s.out ++ s.after)) ∙ (sym (ap (end_of 12) s.is) ∙ (there.end ∙ ends))) in
        rw is
        (record {
          judged = t ∙ ap (λ (i : ℕ). Ok i) ends;
          last = ap (λ (x : Run × ℕ × Bool). x.2) same;
          before = s.before;
          out = s.out;
          after = s.after;
          is = s.is;
          from = refl;
          to = refl;
          count = refl;
          chain = run_on;
          low = low;
          grows = grows;
          within = omega arith;
          few = omega (arith, simp length-append at (ap length s.is), there.count);
          of_the_key = kept_of key pg (λ b. b) s ∙ append-nil (map (row_of pg) s.out);
          others = kept_of key pg not s;
        })

-- a fault is the judgement's
pub run_bad : (pg : List ℕ) (p key : ℕ) (f : Fault) → run_leaf pg p key ≡ Err f → judge_leaf pg p ≡ Err f
unfolding run_leaf
run_bad pg p key f told = by_judged (judge_leaf pg p) told
  where
    by_judged : (j : Result ℕ Fault)
        → on_judged {A = Result (Run × ℕ × Bool) Fault} (λ d. Ok (fold_cells (running key) (record { from = 12; to = 12; count = 0 }) (cells pg), d, has_larger key (cells pg))) (λ g. Err g) j ≡ Err f
        → j ≡ Err f
    by_judged (Ok d) w = absurd (let z : ◌≡◌ {A = ℕ} 0 1 = cc in omega arith)
    by_judged (Err g) w = cc

pub run-is_keys : RunIsKeys
run-is_keys pg p key e run larger told =
    let r = run_is pg p key e run larger told in
    rw (← r.count, chain_back pg run.from r.out r.chain) (sym r.of_the_key)

-- how many they are
pub run-count : {pg : List ℕ} {p key e : ℕ} {run : Run} {larger : Bool} → RunIs pg p key run e larger → run.count ≡ length (only (of_key key) (rows pg))
run-count {pg} r = sym (ap length r.of_the_key ∙ (length-map r.out (row_of pg) ∙ r.count))
