-- A walk over the cells of a leaf by offset that judges them and folds them in one pass: one set of laws for every
-- loop, and the law that it is the judgement and then the fold. Assumes nothing.
use Rattle.row.specs.declared.CellFault.{CellFault}
use Rattle.std.proofs.Common.{Option, Some, None, Result, Ok, Err}
use mathlib.Core.Path.{◌≡◌, refl, sym, ap, ◌∙◌}
use mathlib.Core.Bool.{Bool, true, false}
use mathlib.Core.List.{List, [], ◌∷◌}
use mathlib.Core.Logic.{◌⊎◌, inl, inr}
use Prim.Native.Nat.{ℕ, zero, suc, ◌+◌, ◌-◌, ◌≤◌, ◌<◌}
use native.Mathlib.Omega.{arith}
use lib.ListN.{length}
use borrow.Author.Tests.{lt-ltb, le-ltb, eq-eqb, ne_eqb}
use lib.Dec.{leb}
use Rattle.store.specs.Pick.{pick}
use Rattle.page.specs.Header.{node_type, cell_count}
use Rattle.row.specs.Read.{cell_at}
use Rattle.row.specs.Steps.Read.{end_of, end_at}
use Rattle.store.specs.Le.{le_at}
use Rattle.page.specs.Key.{rank_at}
use Rattle.row.specs.declared.Cell.{Cell}
use Rattle.row.specs.declared.Fault.{Fault}
use Rattle.leaf.specs.Cells.{Step, on_cell, cells_of, fold_cells, in_order, step_of, on_step, judge_cells, judge_leaf, on_judged}
use Rattle.row.specs.Fault.{structural, cell_fault}
use Rattle.leaf.specs.Steps.Cells.{step_end, step_fault}
use Rattle.row.proofs.Exact.{cell_placed, cell_fields}

-- where the walk ended, the last key, and what the fold gave; or the first fault
pub data Walked (A : Type 0) : Type 0 where
  done : (e k : ℕ) → A → Walked A
  bad : Fault → Walked A

unfoldable pub walk : {A : Type 0} → (A → Cell → A) → (p k c n at : ℕ) → A → List ℕ → Walked A
walk f p k c zero at a s = done at k a
walk f p k c (suc n) at a s = on_step (λ x. walk f p x.key x.version.creator n x.next (f a x) s) (λ g. bad g) (step_of s p k c at)

module _ {A : Type 0} (f : A → Cell → A) (s : List ℕ) (p k c at : ℕ) (a : A) where
  pub walk-done : (n : ℕ) → n ≤ 0 → walk f p k c n at a s ≡ done at k a
  unfolding walk
  walk-done zero h = refl
  walk-done (suc n) h = absurd (omega arith)

  pub walk_bad : (n : ℕ) {r : Step} {g : Fault} → 0 < n → r ≡ step_of s p k c at → r ≡ Step.Bad g → walk f p k c n at a s ≡ bad g
  unfolding walk
  walk_bad zero h e q = absurd (omega arith)
  walk_bad (suc n) h e q = simp (sym e ∙ q)

  pub walk_in : (n : ℕ) {r : Step} {x : Cell} {y : A} → 0 < n → r ≡ step_of s p k c at → r ≡ Step.Got x → y ≡ f a x
      → walk f p x.key x.version.creator (n - 1) x.next y s ≡ walk f p k c n at a s
  unfolding walk
  walk_in zero h e q w = absurd (omega arith)
  walk_in (suc n) h e q w =
      let m : suc n - 1 ≡ n = omega arith in
      simp (sym e ∙ q, m, w)

-- the last key that the walk met
unfoldable pub last_key : ℕ → List Cell → ℕ
last_key k [] = k
last_key k (c ∷ cs) = last_key c.key cs

-- what a step says of the cell there
module _ (s : List ℕ) (p k c at : ℕ) where
  step_got : (r : Result Cell CellFault) {x : Cell}
      → on_cell (λ y. pick (in_order k c y.key y.version.creator) (Step.Got y) (Step.Bad (structural p))) (λ kind. Step.Bad (cell_fault p at kind)) r ≡ Step.Got x
      → (r ≡ Ok x) × (in_order k c x.key x.version.creator ≡ true)
  step_got (Err kind) e = absurd (let z : ◌≡◌ {A = ℕ} 0 1 = cc in omega arith)
  step_got (Ok y) {x} e = by_order (in_order k c y.key y.version.creator) refl e
    where
      by_order : (b : Bool) → in_order k c y.key y.version.creator ≡ b → pick b (Step.Got y) (Step.Bad (structural p)) ≡ Step.Got x
          → (◌≡◌ {A = Result Cell CellFault} (Ok y) (Ok x)) × (in_order k c x.key x.version.creator ≡ true)
      by_order true t q = let u : y ≡ x = cc in (ap (λ (z : Cell). Ok z) u, rw u at t)
      by_order false t q = absurd (let z : ◌≡◌ {A = ℕ} 0 1 = cc in omega arith)

  pub step-cell : {r : Step} {x : Cell} → r ≡ step_of s p k c at → r ≡ Step.Got x → (cell_at s at ≡ Ok x) × (in_order k c x.key x.version.creator ≡ true)
  unfolding step_of
  step-cell e q = step_got (cell_at s at) (sym e ∙ q)

-- one pass is the judgement and then the fold
pub walk_is : {A : Type 0} (f : A → Cell → A) (s : List ℕ) (p k c n at : ℕ) (a : A)
    → walk f p k c n at a s ≡ on_judged (λ e. done e (last_key k (cells_of s n at)) (fold_cells f a (cells_of s n at))) bad (judge_cells s p k c n at)
unfolding walk judge_cells cells_of fold_cells last_key
walk_is {A = A} f s p k c zero at a = refl
walk_is {A = A} f s p k c (suc n) at a = by_step (step_of s p k c at) refl (λ x b. walk_is f s p x.key x.version.creator n x.next b)
  where
    by_step : (r : Step) → step_of s p k c at ≡ r
        → ((x : Cell) (b : A)
        → walk f p x.key x.version.creator n x.next b s
        ≡ on_judged (λ e. done e (last_key x.key (cells_of s n x.next)) (fold_cells f b (cells_of s n x.next))) bad (judge_cells s p x.key x.version.creator n x.next))
        → on_step (λ x. walk f p x.key x.version.creator n x.next (f a x) s) (λ g. bad g) r
        ≡ on_judged
        (λ e.
        done e (last_key k (on_cell (λ x. x ∷ cells_of s n x.next) (λ kind. []) (cell_at s at))) (fold_cells f a (on_cell (λ x. x ∷ cells_of s n x.next) (λ kind. []) (cell_at s at))))
        bad
        (on_step (λ x. judge_cells s p x.key x.version.creator n x.next) (λ g. Err g) r)
    by_step (Step.Bad g) q ih = refl
    by_step (Step.Got x) q ih = rw (step-cell s p k c at (sym q) refl).0 (ih x (f a x))

abbrev pub on_walked : {A B : Type 0} → (ℕ → ℕ → A → B) → (Fault → B) → Walked A → B
on_walked good ill (done e k a) = good e k a
on_walked good ill (bad f) = ill f

-- what a loop answers at its end, said of the judgement
pub walked : {A B : Type 0} (good : ℕ → ℕ → A → B) (ill : Fault → B) (f : A → Cell → A) (s : List ℕ) (p k c n at : ℕ) (a : A)
    → on_walked good ill (walk f p k c n at a s)
    ≡ on_judged (λ e. good e (last_key k (cells_of s n at)) (fold_cells f a (cells_of s n at))) ill (judge_cells s p k c n at)
walked {A = A} {B = B} good ill f s p k c n at a =
    ap (on_walked good ill) (walk_is f s p k c n at a) ∙ through (last_key k (cells_of s n at)) (fold_cells f a (cells_of s n at)) (judge_cells s p k c n at)
  where
    through : (l : ℕ) (b : A) (j : Result ℕ Fault) → on_walked good ill (on_judged (λ e. done e l b) bad j) ≡ on_judged (λ e. good e l b) ill j
    through l b (Ok e) = refl
    through l b (Err g) = refl

-- the judgement alone
abbrev pub nothing : ℕ → Cell → ℕ
nothing a x = a

module _ (s : List ℕ) (p n : ℕ) where
  whole : {w : Walked ℕ} → w ≡ walk nothing p 0 0 n 12 0 s → on_walked (λ e k a. Ok e) (λ f. Err f) w ≡ judge_cells s p 0 0 n 12
  whole q =
      ap (on_walked (λ e k a. Ok e) (λ f. Err f)) q
      ∙ (walked (λ e k a. Ok e) (λ f. Err f) nothing s p 0 0 n 12 0 ∙ same (judge_cells s p 0 0 n 12))
    where
      same : (j : Result ℕ Fault) → on_judged (λ e. Ok e) (λ f. Err f) j ≡ j
      same (Ok e) = refl
      same (Err f) = refl

  pub judged-ok : {e k : ℕ} {a : ℕ} → done e k a ≡ walk nothing p 0 0 n 12 0 s → Ok e ≡ judge_cells s p 0 0 n 12
  judged-ok q = whole q

  pub judged_bad : {f : Fault} → bad f ≡ walk nothing p 0 0 n 12 0 s → Err f ≡ judge_cells s p 0 0 n 12
  judged_bad q = whole q

-- ---- the order of two cells

module _ (k₀ c₀ k c : ℕ) where
  pub order_less : k₀ < k → true ≡ in_order k₀ c₀ k c
  unfolding in_order
  order_less h = rw (lt-ltb k₀ k h)

  pub order_more : k ≤ k₀ → (k₀ ≡ k → ⊥) → false ≡ in_order k₀ c₀ k c
  unfolding in_order
  order_more h z = rw (le-ltb k₀ k h, ne_eqb k₀ k z)

  pub order_same : k₀ ≡ k → leb c₀ c ≡ in_order k₀ c₀ k c
  unfolding in_order
  order_same e = rw (le-ltb k₀ k (omega arith), eq-eqb k₀ k e)

-- ---- a step

module _ (s : List ℕ) (p k c at : ℕ) where
  pub step_in : {r : Result Cell CellFault} {x : Cell} {b : Bool} → r ≡ cell_at s at → r ≡ Ok x → b ≡ in_order k c x.key x.version.creator → b ≡ true
      → Step.Got x ≡ step_of s p k c at
  unfolding step_of
  step_in e q u t = rw (sym e ∙ q, sym u ∙ t)

-- ---- a step by where its cell ends

-- the cell there, in order, and its fields that a walk reads
pub record Stepped (s : List ℕ) (p k c at e : ℕ) : Type 0 where
  pub cell : Cell
  pub step : step_of s p k c at ≡ Step.Got cell
  pub read : cell_at s at ≡ Ok cell
  pub key-is : rank_at s at ≡ cell.key
  pub creator-is : le_at 8 s (at + 8 + 1) ≡ cell.version.creator
  pub next-is : e ≡ cell.next
  pub low : at + 19 ≤ e
  pub inside : e ≤ length s

end_read : (s : List ℕ) (at : ℕ) {x : Cell} → cell_at s at ≡ Ok x → at + 19 ≤ x.next
end_read s at {x} e = let q = cell_placed s at x e in omega (arith, q.past_head, q.whole)

module _ (s : List ℕ) (at : ℕ) where
  pub record Ended (e : ℕ) : Type 0 where
    pub cell : Cell
    pub read : cell_at s at ≡ Ok cell
    pub next-is : e ≡ cell.next

  -- where a cell ends that can be read, and that it cannot
  pub end_some : {r : Option ℕ} {e : ℕ} → r ≡ end_at s at → r ≡ Some e → Ended e
  unfolding end_at
  end_some {r} {e} is q = by_read (cell_at s at) refl (sym is ∙ q)
    where
      by_read : (x : Result Cell CellFault) → cell_at s at ≡ x → end_of x ≡ Some e → Ended e
      by_read (Ok x) m n = record { cell = x; read = m; next-is = let z : x.next ≡ e = cc in sym z }
      by_read (Err kind) m n = absurd (cc)

  pub end_none : {r : Option ℕ} → r ≡ end_at s at → r ≡ None → (x : Cell) → cell_at s at ≡ Ok x → ⊥
  unfolding end_at
  end_none is q x m = let z : Some x.next ≡ None = sym (ap end_of m) ∙ (sym is ∙ q) in cc

  pub end_low : {r : Option ℕ} {e : ℕ} → r ≡ end_at s at → r ≡ Some e → (at + 19 ≤ e) × (e ≤ length s)
  end_low is q =
      let d = end_some is q in
      let m = d.next-is in
      (omega (arith, end_read s at d.read), omega (arith, (cell_placed s at d.cell d.read).inside))

module _ (s : List ℕ) (p at : ℕ) where
  pub fault_bad : {r : Result Cell CellFault} {kind : CellFault} {f : Fault} → r ≡ cell_at s at → r ≡ Err kind → f ≡ cell_fault p at kind → f ≡ step_fault s p at
  unfolding step_fault
  fault_bad e q u = u ∙ rw (sym e ∙ q)

  pub fault-order : {r : Result Cell CellFault} {x : Cell} {f : Fault} → r ≡ cell_at s at → r ≡ Ok x → f ≡ structural p → f ≡ step_fault s p at
  unfolding step_fault
  fault-order e q u = u ∙ rw (sym e ∙ q)

module _ (s : List ℕ) (p k c at : ℕ) where
  -- the ways out of `next_cell`
  pub step-end-none : {r : Option ℕ} {f : Fault} → r ≡ end_at s at → r ≡ None → f ≡ step_fault s p at → Err f ≡ step_end s p k c at
  unfolding step_end step_of step_fault
  step-end-none {r} {f} is z u = by_read (cell_at s at) refl u
    where
      by_read : (x : Result Cell CellFault) → cell_at s at ≡ x → f ≡ on_cell (λ y. structural p) (λ kind. cell_fault p at kind) x
          → Err f ≡ on_step (λ y. Ok y.next) (λ g. Err g) (on_cell (λ y. pick (in_order k c y.key y.version.creator) (Step.Got y) (Step.Bad (structural p))) (λ kind. Step.Bad (cell_fault p at kind)) x)
      by_read (Ok x) q v = absurd (end_none s at is z x q)
      by_read (Err kind) q v = rw v

  module _ {r : Option ℕ} {e : ℕ} (is : r ≡ end_at s at) (some : r ≡ Some e) {b : Bool} {k₁ c₁ : ℕ} (key : k₁ ≡ rank_at s at) (creator : c₁ ≡ le_at 8 s (at + 8 + 1)) (order : b ≡ in_order k c k₁ c₁) where
    pub step-end_in : b ≡ true → Ok e ≡ step_end s p k c at
    unfolding step_end step_of
    step-end_in t =
        let d = end_some s at is some in
        let f = cell_fields s at d.cell d.read in
        let o : in_order k c d.cell.key d.cell.version.creator ≡ true = rw (f.key-is, f.creator-is, sym key, sym creator) (sym order ∙ t) in
        rw (d.next-is, d.read, o)

    pub step-end-out : {g : Fault} → b ≡ false → g ≡ structural p → Err g ≡ step_end s p k c at
    unfolding step_end step_of
    step-end-out t v =
        let d = end_some s at is some in
        let f = cell_fields s at d.cell d.read in
        let o : in_order k c d.cell.key d.cell.version.creator ≡ false = rw (f.key-is, f.creator-is, sym key, sym creator) (sym order ∙ t) in
        rw (d.read, o, v)

-- what the end says of the step
module _ (s : List ℕ) (p k c at : ℕ) {r : Result ℕ Fault} (is : r ≡ step_end s p k c at) where
  pub stepped : {e : ℕ} → r ≡ Ok e → Stepped s p k c at e
  unfolding step_end
  stepped {e} q = by_step (step_of s p k c at) refl (sym is ∙ q)
    where
      by_step : (x : Step) → step_of s p k c at ≡ x → on_step (λ y. Ok y.next) (λ f. Err f) x ≡ Ok e → Stepped s p k c at e
      by_step (Step.Bad f) t m = absurd (cc)
      by_step (Step.Got x) t m =
          let z : x.next ≡ e = cc in
          let u = (step-cell s p k c at refl t).0 in
          let f = cell_fields s at x u in
          record {
            cell = x;
            step = t;
            read = u;
            key-is = sym f.key-is;
            creator-is = sym f.creator-is;
            next-is = sym z;
            low = rw (← z) (end_read s at u);
            inside = rw (← z) (cell_placed s at x u).inside;
          }

  pub unstepped : {g : Fault} → r ≡ Err g → step_of s p k c at ≡ Step.Bad g
  unfolding step_end
  unstepped {g} q = by_step (step_of s p k c at) refl (sym is ∙ q)
    where
      by_step : (x : Step) → step_of s p k c at ≡ x → on_step (λ y. Ok y.next) (λ f. Err f) x ≡ Err g → step_of s p k c at ≡ Step.Bad g
      by_step (Step.Bad f) t m = let z : f ≡ g = cc in t ∙ ap (λ (y : Fault). Step.Bad y) z
      by_step (Step.Got x) t m = absurd (cc)

  by_end : (x : Result Cell CellFault) → cell_at s at ≡ x
      → ((r ≡ Err (step_fault s p at)) × (step_of s p k c at ≡ Step.Bad (step_fault s p at))) ⊎ ((e : ℕ) × ((r ≡ Ok e) × Stepped s p k c at e))
  unfolding step_end step_of step_fault
  by_end (Err kind) q = inl (is ∙ rw q, rw q)
  by_end (Ok x) q = by_order (in_order k c x.key x.version.creator) refl
    where
      by_order : (b : Bool) → in_order k c x.key x.version.creator ≡ b
          → ((r ≡ Err (step_fault s p at)) × (step_of s p k c at ≡ Step.Bad (step_fault s p at))) ⊎ ((e : ℕ) × ((r ≡ Ok e) × Stepped s p k c at e))
      by_order false t = inl (is ∙ rw (q, t), rw (q, t))
      by_order true t = let n : r ≡ Ok x.next = is ∙ rw (q, t) in inr (x.next, (n, stepped n))

  -- one of the two, and the fault is the one that stands there
  pub step_by : ((r ≡ Err (step_fault s p at)) × (step_of s p k c at ≡ Step.Bad (step_fault s p at))) ⊎ ((e : ℕ) × ((r ≡ Ok e) × Stepped s p k c at e))
  step_by = by_end (cell_at s at) refl

walk_same : {A : Type 0} (f : A → Cell → A) (s : List ℕ) (p m : ℕ) (a : A) {k k' c c' e e' : ℕ} → k ≡ k' → c ≡ c' → e ≡ e' → walk f p k c m e a s ≡ walk f p k' c' m e' a s
walk_same f s p m a u v w = rw (u, v, w)

-- the walk by the end alone, of n cells of which i are passed
module _ {A : Type 0} (f : A → Cell → A) (s : List ℕ) (p k c at : ℕ) (a : A) {r : Result ℕ Fault} (is : r ≡ step_end s p k c at) (n i : ℕ) (left : i < n) where
  pub walk_stuck : {g : Fault} → r ≡ Err g → walk f p k c (n - i) at a s ≡ bad g
  walk_stuck q = walk_bad f s p k c at a (n - i) (omega arith) refl (unstepped s p k c at is q)

  pub walk_on : {e k₁ c₁ : ℕ} {y : A} → r ≡ Ok e → k₁ ≡ rank_at s at → c₁ ≡ le_at 8 s (at + 8 + 1)
      → ((x : Cell) → cell_at s at ≡ Ok x → rank_at s at ≡ x.key → le_at 8 s (at + 8 + 1) ≡ x.version.creator → e ≡ x.next → y ≡ f a x)
      → walk f p k₁ c₁ (n - (i + 1)) e y s ≡ walk f p k c (n - i) at a s
  walk_on {e} {k₁} {c₁} {y} some key creator step =
      let d = stepped s p k c at is some in
      let x = d.cell in
      let m : n - (i + 1) ≡ n - i - 1 = omega arith in
      rw m
      (walk_same f s p (n - i - 1) y (key ∙ d.key-is) (creator ∙ d.creator-is) d.next-is
      ∙ (walk_in f s p k c at a (n - i) (omega arith) refl d.step (step x d.read d.key-is d.creator-is d.next-is)))

-- ---- the page

module _ (p : ℕ) (pg : List ℕ) where
  pub leaf-other : {f : Fault} → (node_type pg ≡ 1 → ⊥) → f ≡ structural p → Err f ≡ judge_leaf pg p
  unfolding judge_leaf
  leaf-other h e = rw (ne_eqb (node_type pg) 1 h, e)

  pub leaf-cells : {n : ℕ} {j : Result ℕ Fault} → node_type pg ≡ 1 → n ≡ cell_count pg → j ≡ judge_cells pg p 0 0 n 12 → j ≡ judge_leaf pg p
  unfolding judge_leaf
  leaf-cells h e q = q ∙ rw (eq-eqb (node_type pg) 1 h, e)
