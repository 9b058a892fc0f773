-- What a loop over a leaf answers at its end, said of the judgement and the fold: one set of laws for every loop that
-- looks for something. Assumes nothing.
use Rattle.row.specs.declared.CellFault.{CellFault}
use Rattle.std.proofs.Common.{Some, None, Result, Ok, Err}
use mathlib.Core.Path.{◌≡◌, refl, sym, ap, ◌∙◌}
use mathlib.Core.Bool.{Bool, true, false, ◌&&◌, ◌||◌}
use mathlib.Core.List.{List, [], ◌∷◌}
use Prim.Native.Nat.{ℕ, zero, suc, ◌+◌, ◌≤◌, ◌<◌}
use native.Mathlib.Omega.{arith}
use borrow.Author.Tests.{ltb-true, ltb-false, lt-ltb, le-ltb, eq-eqb, ne_eqb, eqb-true}
use lib.Dec.{ltb, leb, eqb}
use Rattle.page.specs.Header.{node_type, cell_count}
use Rattle.row.specs.Read.{cell_at}
use Rattle.row.specs.declared.Cell.{Cell}
use Rattle.row.specs.declared.Fault.{Fault}
use Rattle.leaf.specs.Cells.{Step, on_cell, cells_of, cells, fold_cells, in_order, step_of, on_step, judge_cells, judge_leaf, on_judged, has_larger}
use Rattle.row.specs.Fault.{structural}
use Rattle.store.specs.Pick.{pick}
use Rattle.mvcc.specs.Rules.{visible, conflicting, claim_conflicting}
use Rattle.leaf.specs.Find.{later, newest, joined, run_past, running, Best}
use Rattle.leaf.specs.declared.find.Run.{Run}
use Rattle.mvcc.specs.Snapshot.{Snapshot}
use Rattle.leaf.proofs.Walking.{Walked, done, bad, walk, last_key, on_walked, walked, step-cell, leaf-cells, leaf-other}

or_same : (b : Bool) → (b || true) ≡ true
or_same true = refl
or_same false = refl

pub order_le : (k₀ c₀ k c : ℕ) → in_order k₀ c₀ k c ≡ true → k₀ ≤ k
unfolding in_order
order_le k₀ c₀ k c e = by_less (ltb k₀ k) (eqb k₀ k) refl refl e
  where
    by_less : (a b : Bool) → ltb k₀ k ≡ a → eqb k₀ k ≡ b → (a || (b && leb c₀ c)) ≡ true → k₀ ≤ k
    by_less true b p q t = let l = ltb-true k₀ k p in omega arith
    by_less false true p q t = let l = eqb-true k₀ k q in omega arith
    by_less false false p q t = absurd (let z : ◌≡◌ {A = ℕ} 0 1 = cc in omega arith)

-- a later key that is not smaller decides whether there is a larger one
larger_join : (key k l : ℕ) → k ≤ l → (ltb key k || ltb key l) ≡ ltb key l
larger_join key k l h = by_test (ltb key l) refl
  where
    by_test : (b : Bool) → ltb key l ≡ b → (ltb key k || ltb key l) ≡ ltb key l
    by_test true e = rw e (or_same (ltb key k))
    by_test false e = let m = ltb-false key l e in rw (e, le-ltb key k (omega arith))

-- keys that never fall: the last one is the largest
larger_from : (key : ℕ) (s : List ℕ) (p k c n at : ℕ) {e : ℕ} → judge_cells s p k c n at ≡ Ok e
    → fold_cells (λ b x. b || ltb key x.key) (ltb key k) (cells_of s n at) ≡ ltb key (last_key k (cells_of s n at))
unfolding judge_cells cells_of fold_cells last_key
larger_from key s p k c zero at j = refl
larger_from key s p k c (suc n) at {e} j = by_step (step_of s p k c at) refl j (λ x q. larger_from key s p x.key x.version.creator n x.next q)
  where
    by_step : (r : Step) → step_of s p k c at ≡ r → on_step (λ x. judge_cells s p x.key x.version.creator n x.next) (λ f. Err f) r ≡ Ok e
        → ((x : Cell) → judge_cells s p x.key x.version.creator n x.next ≡ Ok e
        → fold_cells (λ b y. b || ltb key y.key) (ltb key x.key) (cells_of s n x.next) ≡ ltb key (last_key x.key (cells_of s n x.next)))
        → fold_cells (λ b x. b || ltb key x.key) (ltb key k) (on_cell (λ x. x ∷ cells_of s n x.next) (λ kind. []) (cell_at s at))
        ≡ ltb key (last_key k (on_cell (λ x. x ∷ cells_of s n x.next) (λ kind. []) (cell_at s at)))
    by_step (Step.Bad f) q t ih = absurd (let z : ◌≡◌ {A = ℕ} 0 1 = cc in omega arith)
    by_step (Step.Got x) q t ih =
        let u = step-cell s p k c at (sym q) refl in
        rw u.0
        (ap (λ (b : Bool). fold_cells (λ d y. d || ltb key y.key) b (cells_of s n x.next)) (larger_join key k x.key (order_le k c x.key x.version.creator u.1))
        ∙ ih x t)

larger_last : (key : ℕ) (s : List ℕ) (p n at : ℕ) {e : ℕ} → judge_cells s p 0 0 n at ≡ Ok e → ltb key (last_key 0 (cells_of s n at)) ≡ has_larger key (cells_of s n at)
unfolding has_larger
larger_last key s p n at j = let z : ltb key 0 ≡ false = le-ltb key 0 (omega arith) in sym (rw z at (larger_from key s p 0 0 n at j))

-- ---- the ends of a loop

module _ {A B : Type 0} (good : ℕ → A → Bool → B) (ill : Fault → B) (f : A → Cell → A) (p key : ℕ) (pg : List ℕ) (a : A) where
  -- what the contract says
  abbrev pub answer : B
  answer = on_judged (λ e. good e (fold_cells f a (cells pg)) (has_larger key (cells pg))) ill (judge_leaf pg p)

  pub loop_type : {g : Fault} → (node_type pg ≡ 1 → ⊥) → g ≡ structural p → ill g ≡ answer
  loop_type h e = rw (← leaf-other p pg {f = structural p} h refl, e)

  module _ {n : ℕ} (leaf : node_type pg ≡ 1) (count : n ≡ cell_count pg) where
    said : {w : Walked A} → w ≡ walk f p 0 0 n 12 a pg → on_walked (λ e k b. good e b (ltb key k)) ill w ≡ answer
    said {w} q =
        ap (on_walked (λ e k b. good e b (ltb key k)) ill) q
        ∙ (walked (λ e k b. good e b (ltb key k)) ill f pg p 0 0 n 12 a
        ∙ (by_judged (judge_cells pg p 0 0 n 12) refl ∙ rw (count, leaf-cells p pg leaf refl refl)))
      where
        by_judged : (j : Result ℕ Fault) → judge_cells pg p 0 0 n 12 ≡ j
            → on_judged (λ e. good e (fold_cells f a (cells_of pg n 12)) (ltb key (last_key 0 (cells_of pg n 12)))) ill j
            ≡ on_judged (λ e. good e (fold_cells f a (cells_of pg n 12)) (has_larger key (cells_of pg n 12))) ill j
        by_judged (Ok e) t = ap (good e (fold_cells f a (cells_of pg n 12))) (larger_last key pg p n 12 t)
        by_judged (Err g) t = refl

    pub loop_bad : {g : Fault} → bad g ≡ walk f p 0 0 n 12 a pg → ill g ≡ answer
    loop_bad q = said q

    pub loop_done : {e k : ℕ} {b : A} → done e k b ≡ walk f p 0 0 n 12 a pg → good e b (ltb key k) ≡ answer
    loop_done q = said q

-- ---- the steps of the folds

-- what is asked of the cell at an offset
module _ {A : Type 0} (good : Cell → A) (bad₀ : CellFault → A) {r t : Result Cell CellFault} (e : r ≡ t) where
  pub read_bad : {kind : CellFault} → r ≡ Err kind → bad₀ kind ≡ on_cell good bad₀ t
  read_bad q = rw (sym e ∙ q)

  pub read_got : {x : Cell} {y : A} → r ≡ Ok x → y ≡ good x → y ≡ on_cell good bad₀ t
  read_got q u = u ∙ rw (sym e ∙ q)

pub read_is : {A : Type 0} (good : Cell → A) (bad₀ : CellFault → A) {r : Result Cell CellFault} {x : Cell} {y : A} → r ≡ Ok x → y ≡ on_cell good bad₀ r → y ≡ good x
read_is good bad₀ q u = u ∙ ap (on_cell good bad₀) q

module _ (p : ℕ) (best : Best) (x : Cell) where
  pub later_first : best ≡ None → Some (p, x) ≡ later p best x
  later_first e = rw e

  module _ {q : ℕ} {o : Cell} (e : best ≡ Some (q, o)) where
    pub later_old : x.version.creator < o.version.creator → Some (q, o) ≡ later p best x
    later_old h = rw (e, lt-ltb _ _ h)

    pub later-new : o.version.creator ≤ x.version.creator → Some (p, x) ≡ later p best x
    later-new h = rw (e, le-ltb _ _ h)

module _ (sn : Snapshot) (st : ℕ → ℕ) (key : ℕ) (x : Cell) where
  module _ (p : ℕ) (best : Best) where
    pub newest-other : (x.key ≡ key → ⊥) → best ≡ newest p key sn st best x
    unfolding newest
    newest-other h = rw (ne_eqb _ _ h)

    module _ {b : Bool} (h : x.key ≡ key) (u : b ≡ visible sn st x.version.creator x.version.stamp) where
      pub newest-seen : {r : Best} → b ≡ true → r ≡ later p best x → r ≡ newest p key sn st best x
      unfolding newest
      newest-seen t q = q ∙ rw (eq-eqb _ _ h, sym u ∙ t)

      pub newest_unseen : b ≡ false → best ≡ newest p key sn st best x
      unfolding newest
      newest_unseen t = rw (eq-eqb _ _ h, sym u ∙ t)

  module _ (claiming : Bool) (seen : ℕ) where
    pub joined_skip : (found : Bool) → (x.key ≡ key → ⊥) → found ≡ joined key sn st claiming seen found x
    unfolding joined
    joined_skip true h = refl
    joined_skip false h = rw (ne_eqb _ _ h)

  module _ (claiming : Bool) (seen : ℕ) (found : Bool) where
    pub joined_found : found ≡ true → true ≡ joined key sn st claiming seen found x
    unfolding joined
    joined_found e = rw e

    module _ (e : found ≡ false) where
      pub joined-other : (x.key ≡ key → ⊥) → false ≡ joined key sn st claiming seen found x
      unfolding joined
      joined-other h = rw (e, ne_eqb _ _ h)

      module _ {b : Bool} (h : x.key ≡ key) where
        pub joined-claim : claiming ≡ true → b ≡ claim_conflicting sn st seen x.version.creator x.version.stamp
            → b ≡ joined key sn st claiming seen found x
        unfolding joined
        joined-claim t q = q ∙ rw (e, eq-eqb _ _ h, t)

        pub joined_ported : claiming ≡ false → b ≡ conflicting sn seen x.version.creator x.version.stamp
            → b ≡ joined key sn st claiming seen found x
        unfolding joined
        joined_ported t q = q ∙ rw (e, eq-eqb _ _ h, t)

module _ (key : ℕ) (here : Run) (k next : ℕ) where
  pub past-below : k < key → record { from = next; to = next; count = 0 } ≡ run_past key here k next
  unfolding run_past
  past-below h = rw (lt-ltb _ _ h)

  pub past_same : k ≡ key → record { from = here.from; to = next; count = here.count + 1 } ≡ run_past key here k next
  unfolding run_past
  past_same h = rw (le-ltb k key (omega arith), eq-eqb _ _ h)

  pub past_above : key ≤ k → (k ≡ key → ⊥) → here ≡ run_past key here k next
  unfolding run_past
  past_above h z = rw (le-ltb _ _ h, ne_eqb _ _ z)

  pub past-count : {r : Run} → r ≡ run_past key here k next → r.count ≤ here.count + 1
  unfolding run_past
  past-count e = rw e (by_tests (ltb k key) (eqb k key))
    where
      by_tests : (a b : Bool) → (pick a (record { from = next; to = next; count = 0 }) (pick b (record { from = here.from; to = next; count = here.count + 1 }) here)).count ≤ here.count + 1
      by_tests true b = omega arith
      by_tests false true = omega arith
      by_tests false false = omega arith

module _ (key : ℕ) (here : Run) (x : Cell) where
  pub running-past : {r : Run} {k next : ℕ} → k ≡ x.key → next ≡ x.next → r ≡ run_past key here k next → r ≡ running key here x
  unfolding running
  running-past u v q = q ∙ rw (u, v)

  pub running-below : x.key < key → record { from = x.next; to = x.next; count = 0 } ≡ running key here x
  unfolding running
  running-below h = past-below key here x.key x.next h

  pub running-same : x.key ≡ key → record { from = here.from; to = x.next; count = here.count + 1 } ≡ running key here x
  unfolding running
  running-same h = past_same key here x.key x.next h

  pub running_above : key ≤ x.key → (x.key ≡ key → ⊥) → here ≡ running key here x
  unfolding running
  running_above h z = past_above key here x.key x.next h z
