-- What a lookup finds is met: its page is in use, was judged, and the cell is among its cells; and what stands beside it is
-- how many cells are before it and where the page's cells end. Assumes nothing.
use Rattle.std.proofs.Common.{Some, None, Result, Ok, Err}
use Rattle.row.specs.declared.Fault.{Fault}
use mathlib.Core.Path.{◌≡◌, refl, sym, ap, ◌∙◌, subst}
use mathlib.Core.Bool.{Bool, true, false, ◌&&◌}
use mathlib.Core.List.{List, [], ◌∷◌, ◌++◌, append_assoc}
use Prim.Native.Nat.{ℕ, zero, suc, ◌+◌, ◌≤◌, ◌<◌}
use native.Mathlib.Omega.{arith}
use borrow.Author.Tests.{ltb-true, lt-ltb, le-ltb, eqb-true}
use lib.Dec.{ltb, eqb}
use lib.ListN.{length, length-append}
use Rattle.store.specs.Pick.{pick}
use Rattle.page.specs.Page.{page}
use Rattle.page.specs.Header.{node_type, next_leaf, cell_count}
use Rattle.row.specs.Read.{cell_at}
use Rattle.row.specs.declared.Cell.{Cell}
use Rattle.row.specs.Fault.{structural}
use Rattle.mvcc.specs.Rules.{visible}
use Rattle.leaf.specs.Cells.{cells, fold_cells, judge_cells, judge_leaf, on_judged, has_larger}
use Rattle.leaf.specs.Find.{later, newest, find_leaf, Best}
use Rattle.tree.specs.Descend.{descend_of, on_leaf}
use Rattle.tree.specs.Chain.{on_seen, along, seen_best, look_best, best_along}
use Rattle.tree.specs.Lookup.{best_in_tree}
use Rattle.tree.specs.declared.Route.{Route}
use Rattle.tree_stamp.specs.Target.{beside_step, beside_of, target_of}
use Rattle.tree_stamp.specs.Steps.Target.{CellMet}
use Rattle.tree_stamp.specs.declared.Beside.{Beside}
use Rattle.tree_stamp.specs.declared.Target.{Target}
use Rattle.mvcc.specs.Snapshot.{Snapshot}
use Rattle.page.proofs.PageLaws.{page_short}
use Rattle.row.proofs.Exact.{CellPlaced, cell_placed}
use Rattle.leaf.proofs.Rowing.{end_of}
use Rattle.leaf.proofs.Chain.{Chain, chain-cells, chain-right, chain-inside, end-append, judged-leaf, chain-few}

-- ---- what a lookup finds

abbrev BestMet : List ℕ → ℕ → Best → Type 0
BestMet s used None = Unit
BestMet s used (Some (p, c)) = CellMet used p c s

either : {A : Type 0} (P : A → Type 0) (b : Bool) {x y : A} → P x → P y → P (pick b x y)
either P true p q = p
either P false p q = q

module _ (s : List ℕ) (used p : ℕ) (low : p < used) {e : ℕ} (judged : judge_leaf (page s p) p ≡ Ok e) where
  later-met : (best : Best) (xs : List Cell) (c : Cell) (ys : List Cell) → cells (page s p) ≡ xs ++ (c ∷ ys) → BestMet s used best → BestMet s used (later p best c)
  later-met None xs c ys w b = record { in_use = low; end = e; judged = judged; before = xs; after = ys; among = w }
  later-met (Some (q, o)) xs c ys w b =
      either (BestMet s used) (ltb c.version.creator o.version.creator) b (record { in_use = low; end = e; judged = judged; before = xs; after = ys; among = w })

  module _ (sn : Snapshot) (st : ℕ → ℕ) (key : ℕ) where
    newest-met : (best : Best) (xs : List Cell) (c : Cell) (ys : List Cell) → cells (page s p) ≡ xs ++ (c ∷ ys) → BestMet s used best
        → BestMet s used (newest p key sn st best c)
    unfolding newest
    newest-met best xs c ys w b =
        either (BestMet s used) (eqb c.key key && visible sn st c.version.creator c.version.stamp) (later-met best xs c ys w b) b

    fold-met : (xs ys : List Cell) (best : Best) → cells (page s p) ≡ xs ++ ys → BestMet s used best → BestMet s used (fold_cells (newest p key sn st) best ys)
    unfolding fold_cells
    fold-met xs [] best w b = b
    fold-met xs (c ∷ ys) best w b =
        fold-met (xs ++ (c ∷ [])) ys (newest p key sn st best c) (w ∙ simp append_assoc) (newest-met best xs c ys w b)

module _ (sn : Snapshot) (st : ℕ → ℕ) (used key : ℕ) (s : List ℕ) where
  find-met : (p : ℕ) → p < used → (best : Best) {b : Best} {l : Bool} → find_leaf (page s p) p key sn st best ≡ Ok (b, l) → BestMet s used best → BestMet s used b
  unfolding find_leaf
  find-met p low best {b} {l} e i = by_judged (judge_leaf (page s p) p) refl e
    where
      all : Best
      all = fold_cells (newest p key sn st) best (cells (page s p))

      by_judged : (j : Result ℕ Fault) → judge_leaf (page s p) p ≡ j → on_judged {A = Result (Best × Bool) Fault} (λ e. Ok (all, has_larger key (cells (page s p)))) (λ f. Err f) j ≡ Ok (b, l)
          → BestMet s used b
      by_judged (Ok n) j q =
          let t : ◌≡◌ {A = Best × Bool} (all, has_larger key (cells (page s p))) (b, l) = cc in
          let u : all ≡ b = ap (λ (x : Best × Bool). x.0) t in
          subst (BestMet s used) u (fold-met s used p low j sn st key [] (cells (page s p)) best refl i)
      by_judged (Err f) j q = absurd (cc)

  abbrev go : ℕ → Best → ℕ → Result Best Fault
  go m a p = along s used p (look_best key sn st) m a

  along-met : (m : ℕ) (a : Best) (p : ℕ) {b : Best} → go m a p ≡ Ok b → BestMet s used a → BestMet s used b
  unfolding along
  along-met zero a p e i = absurd (cc)
  along-met (suc m) a p {b} e i = by_use (ltb p used) refl (λ d n q j. along-met m d n q j) e
    where
      next : ℕ
      next = next_leaf (page s p)

      by_next : ((d : Best) (n : ℕ) → go m d n ≡ Ok b → BestMet s used d → BestMet s used b) → (t : Bool) (d : Best) → BestMet s used d → pick t (Ok d) (go m d next) ≡ Ok b
          → BestMet s used b
      by_next ih true d j q = let u : d ≡ b = cc in subst (BestMet s used) u j
      by_next ih false d j q = ih d next q j

      by_leaf : ((d : Best) (n : ℕ) → go m d n ≡ Ok b → BestMet s used d → BestMet s used b) → p < used → (r : Result (Best × Bool) Fault) → find_leaf (page s p) p key sn st a ≡ r
          → on_seen (λ d. Ok d) (λ d. pick (eqb next 0) (Ok d) (go m d next)) (λ f. Err f) (seen_best r) ≡ Ok b → BestMet s used b
      by_leaf ih h (Ok (d, true)) f q = let u : d ≡ b = cc in subst (BestMet s used) u (find-met p h a f i)
      by_leaf ih h (Ok (d, false)) f q = by_next ih (eqb next 0) d (find-met p h a f i) q
      by_leaf ih h (Err g) f q = absurd (cc)

      by_use : (t : Bool) → ltb p used ≡ t → ((d : Best) (n : ℕ) → go m d n ≡ Ok b → BestMet s used d → BestMet s used b)
          → pick t (on_seen (λ d. Ok d) (λ d. pick (eqb next 0) (Ok d) (go m d next)) (λ f. Err f) (look_best key sn st a p (page s p))) (Err (structural p)) ≡ Ok b
          → BestMet s used b
      by_use true t ih q = by_leaf ih (ltb-true p used t) (find_leaf (page s p) p key sn st a) refl q
      by_use false t ih q = absurd (cc)

  chain-met : (p : ℕ) {q : ℕ} {c : Cell} → best_along s used p key sn st ≡ Ok (Some (q, c)) → CellMet used q c s
  unfolding best_along
  chain-met p {q} {c} e = by_told (go used None p) refl e
    where
      by_told : (t : Result Best Fault) → go used None p ≡ t → t ≡ Ok (Some (q, c)) → CellMet used q c s
      by_told (Ok b) f u = let v : b ≡ Some (q, c) = cc in along-met used None p (f ∙ ap (λ (x : Best). Ok x) v) tt
      by_told (Err g) f u = absurd (cc)

  pub best-met : (root : ℕ) {p : ℕ} {c : Cell} → best_in_tree s used root key sn st ≡ Ok (Some (p, c)) → CellMet used p c s
  unfolding best_in_tree
  best-met root {p} {c} e = by_way (descend_of s used root (Route.Search key) 3) e
    where
      by_way : (d : Result ℕ Fault) → on_leaf (λ q. best_along s used q key sn st) (λ f. Err f) d ≡ Ok (Some (p, c)) → CellMet used p c s
      by_way (Ok q) u = chain-met q u
      by_way (Err f) u = absurd (cc)

-- ---- what stands beside it

pub chain_front : (pg : List ℕ) (at : ℕ) (xs ys : List Cell) → Chain pg at (xs ++ ys) → Chain pg at xs
chain_front pg at [] ys h = tt
chain_front pg at (x ∷ xs) ys h = (h.0, chain_front pg x.next xs ys h.1)

module _ (pg : List ℕ) (at : ℕ) where
  -- cells that start before `at`, and cells from `at` on
  beside_front : (j from : ℕ) (cs : List Cell) → Chain pg from cs → end_of from cs ≤ at
      → fold_cells (beside_step at) (record { before = j; end = from }) cs ≡ record { before = j + length cs; end = end_of from cs }
  unfolding fold_cells end_of
  beside_front j from [] h l = ap (λ (k : ℕ). record { before = k; end = from }) (omega arith)
  beside_front j from (c ∷ cs) h l =
      let p = cell_placed pg from c h.0 in
      let r = chain-few pg c.next cs h.1 in
      let t = lt-ltb from at (omega (arith, p.past_head, p.whole)) in
      let i : j + 1 + length cs ≡ j + suc (length cs) = omega arith in
      rw (t, ← i) (beside_front (j + 1) c.next cs h.1 l)

  beside_back : (j from : ℕ) (cs : List Cell) → Chain pg from cs → at ≤ from
      → fold_cells (beside_step at) (record { before = j; end = from }) cs ≡ record { before = j; end = end_of from cs }
  unfolding fold_cells end_of
  beside_back j from [] h l = refl
  beside_back j from (c ∷ cs) h l =
      let p = cell_placed pg from c h.0 in
      let t = le-ltb from at l in
      let i : j + 0 ≡ j = omega arith in
      rw (t, i) (beside_back j c.next cs h.1 (omega (arith, p.past_head, p.whole)))

  fold-append : (b : Beside) (xs ys : List Cell) → fold_cells (beside_step at) b (xs ++ ys) ≡ fold_cells (beside_step at) (fold_cells (beside_step at) b xs) ys
  unfolding fold_cells
  fold-append b [] ys = refl
  fold-append b (x ∷ xs) ys = fold-append (beside_step at b x) xs ys

-- the cell c of a leaf, with what stands beside it
pub record Stands (pg : List ℕ) (c : Cell) (b : Beside) : Type 0 where
  pub kind : node_type pg ≡ 1
  pub there : cell_at pg c.at ≡ Ok c
  pub first : List Cell
  pub rest : List Cell
  pub chain : Chain pg 12 first
  pub chain_on : Chain pg c.next rest
  pub at : end_of 12 first ≡ c.at
  pub end : end_of c.next rest ≡ b.end
  pub before : length first ≡ b.before
  pub count : b.before + suc (length rest) ≡ cell_count pg
  pub low : 12 ≤ c.at
  pub size : c.at + 19 ≤ c.next
  pub inside : c.next ≤ b.end
  pub within : b.end ≤ 4096
  pub few : cell_count pg < 16384

judged_kind : (p : ℕ) (pg : List ℕ) {e : ℕ} → judge_leaf pg p ≡ Ok e → node_type pg ≡ 1
unfolding judge_leaf
judged_kind p pg {e} j = by_type (eqb (node_type pg) 1) refl j
  where
    by_type : (b : Bool) → eqb (node_type pg) 1 ≡ b → pick b (judge_cells pg p 0 0 (cell_count pg) 12) (Err (structural p)) ≡ Ok e → node_type pg ≡ 1
    by_type true t w = eqb-true (node_type pg) 1 t
    by_type false t w = absurd (cc)

module _ (pg : List ℕ) (short : length pg ≤ 4096) (p e : ℕ) (judged : judge_leaf pg p ≡ Ok e) (xs : List Cell) (c : Cell) (ys : List Cell) (among : cells pg ≡ xs ++ (c ∷ ys)) where
  all_chain : Chain pg 12 (xs ++ (c ∷ ys))
  all_chain = subst (Chain pg 12) among (chain-cells pg (cell_count pg) 12)

  chain_first : Chain pg 12 xs
  chain_first = chain_front pg 12 xs (c ∷ ys) all_chain

  here : CellPlaced pg (end_of 12 xs) c
  here = cell_placed pg (end_of 12 xs) c (chain-right pg 12 xs (c ∷ ys) all_chain).0

  at_is : end_of 12 xs ≡ c.at
  at_is = sym here.here

  chain-rest : Chain pg c.at (c ∷ ys)
  chain-rest = rw at_is at (chain-right pg 12 xs (c ∷ ys) all_chain)

  end_is : end_of c.next ys ≡ e
  unfolding end_of
  end_is = sym (end-append 12 xs (c ∷ ys)) ∙ (sym (ap (end_of 12) among) ∙ (judged-leaf p pg e judged).end)

  pub beside_is : beside_of c.at (cells pg) ≡ record { before = length xs; end = e }
  unfolding beside_of end_of
  beside_is =
      let start : Beside = record { before = 0; end = 12 } in
      let z : 0 + length xs ≡ length xs = omega arith in
      let is₁ : fold_cells (beside_step c.at) start xs ≡ record { before = length xs; end = c.at } =
      beside_front pg c.at 0 12 xs chain_first (omega (arith, at_is)) ∙ rw (z, at_is) in
      let is₂ : fold_cells (beside_step c.at) (record { before = length xs; end = c.at }) (c ∷ ys) ≡ record { before = length xs; end = e } =
      beside_back pg c.at (length xs) c.at (c ∷ ys) chain-rest (omega arith) ∙ rw end_is in
      ap (fold_cells (beside_step c.at) start) among ∙ (fold-append pg c.at start xs (c ∷ ys) ∙ (rw is₁ is₂))

  beside_stands : Stands pg c (record { before = length xs; end = e })
  beside_stands =
      let count : length xs + suc (length ys) ≡ cell_count pg = sym (length-append xs (c ∷ ys)) ∙ (sym (ap length among) ∙ (judged-leaf p pg e judged).count) in
      let low = chain-few pg 12 xs chain_first in
      let high = chain-few pg c.next ys chain-rest.1 in
      let size : c.at + 19 ≤ c.next = omega (arith, at_is, here.past_head, here.whole) in
      let within : e ≤ 4096 = omega (arith, chain-inside pg c.next ys here.inside chain-rest.1, short, end_is) in
      record {
        kind = judged_kind p pg judged;
        there = chain-rest.0;
        first = xs;
        rest = ys;
        chain = chain_first;
        chain_on = chain-rest.1;
        at = at_is;
        end = end_is;
        before = refl;
        count = count;
        low = omega (arith, at_is);
        size = size;
        inside = omega (arith, end_is);
        within = within;
        few = omega (arith, at_is, end_is);
      }

-- what a lookup found, with what stands beside it
pub target_stands : (used : ℕ) (s : List ℕ) (t : Target) → CellMet used t.leaf t.cell s → t ≡ target_of (page s t.leaf) t.leaf t.cell
    → Stands (page s t.leaf) t.cell t.beside
target_stands used s t m is =
    let pg = page s t.leaf in
    let b : t.beside ≡ record { before = length m.before; end = m.end } =
    ap (λ (x : Target). x.beside) is ∙ beside_is pg (page_short t.leaf s) t.leaf m.end m.judged m.before t.cell m.after m.among in
    subst (Stands pg t.cell) (sym b) (beside_stands pg (page_short t.leaf s) t.leaf m.end m.judged m.before t.cell m.after m.among)
