-- Two walks along one chain that judge each leaf go on together: what each leaf keeps between what they gathered, the walks
-- keep; and what each row keeps, the rows of the chain keep. Assumes nothing.
use Rattle.row.specs.declared.CellFault.{CellFault}
use Rattle.std.proofs.Common.{Result, Ok, Err}
use Rattle.row.specs.declared.Fault.{Fault}
use mathlib.Core.Path.{◌≡◌, refl, ap, ◌∙◌}
use mathlib.Core.Bool.{Bool, true, false}
use mathlib.Core.List.{List, [], ◌∷◌, ◌++◌, map, append_assoc, append-nil}
use Prim.Native.Nat.{ℕ, zero, suc, ◌<◌}
use borrow.Author.Tests.{ltb-true}
use lib.Dec.{ltb, eqb}
use Rattle.store.specs.Pick.{pick}
use Rattle.page.specs.Page.{page}
use Rattle.page.specs.Header.{cell_count, next_leaf}
use Rattle.row.specs.Read.{cell_at}
use Rattle.row.specs.declared.Cell.{Cell}
use Rattle.row.specs.Fault.{structural}
use Rattle.leaf.specs.Cells.{on_cell, cells_of, cells, fold_cells, judge_leaf, on_judged}
use Rattle.leaf.specs.Rows.{Row, row_of, rows_of, rows}
use Rattle.tree.specs.Chain.{Seen, go, broken, on_seen, along}
use Rattle.list_visible.specs.Visible.{look_all, chain_rows}
use Rattle.list_visible.specs.Steps.Fast.{goes_on}
use Rattle.row.proofs.Exact.{cell_placed}

-- both found the same fault, or Q holds of what they gathered
abbrev pub Alike : {A B : Type 0} → (A → B → Type 0) → Result A Fault → Result B Fault → Type 0
Alike Q (Ok a) (Ok b) = Q a b
Alike Q (Ok a) (Err g) = ⊥
Alike Q (Err f) (Ok b) = ⊥
Alike Q (Err f) (Err g) = f ≡ g

-- a look at page p of s judges it, and then gathers by f
abbrev pub Judging : {A : Type 0} → (A → ℕ → List ℕ → Seen A) → (ℕ → A → A) → List ℕ → Type 0
Judging {A} look f s = (a : A) (p : ℕ) → look a p (page s p) ≡ on_judged (λ e. go (f p a)) (λ g. broken g) (judge_leaf (page s p) p)

-- such a look, by its leaf's answer
pub goes-judged : {A : Type 0} (a : A) (j : Result ℕ Fault) → goes_on (on_judged (λ e. Ok a) (λ f. Err f) j) ≡ on_judged (λ e. go a) (λ f. broken f) j
goes-judged a (Ok e) = refl
goes-judged a (Err f) = refl

-- R may speak of the pages that are left to meet
module _ {A B : Type 0} (look : A → ℕ → List ℕ → Seen A) (view : B → ℕ → List ℕ → Seen B) (f : ℕ → A → A) (g : ℕ → B → B) (used : ℕ) (s : List ℕ) (ja : Judging look f s) (jb : Judging view g s) (R : ℕ → A → B → Type 0) (Q : A → B → Type 0) (last : (m : ℕ) (a : A) (b : B) → R m a b → Q a b) (keeps : (m p : ℕ) (a : A) (b : B) → p < used → R (suc m) a b → R m (f p a) (g p b)) where
  pub in_step : (m p : ℕ) (a : A) (b : B) → R m a b → Alike Q (along s used p look m a) (along s used p view m b)
  unfolding along
  in_step zero p a b r = refl
  in_step (suc m) p a b r =
      rw (ja a p, jb b p) (by_use (ltb p used) refl (judge_leaf (page s p) p) (eqb (next_leaf (page s p)) 0) (in_step m (next_leaf (page s p)) (f p a) (g p b)))
    where
      by_use : (t : Bool) → ltb p used ≡ t → (j : Result ℕ Fault) (z : Bool)
          → (R m (f p a) (g p b) → Alike Q (along s used (next_leaf (page s p)) look m (f p a)) (along s used (next_leaf (page s p)) view m (g p b)))
          → Alike Q
          (pick t
          (on_seen (λ d. Ok d) (λ d. pick z (Ok d) (along s used (next_leaf (page s p)) look m d)) (λ h. Err h) (on_judged (λ e. go (f p a)) (λ h. broken h) j))
          (Err (structural p)))
          (pick t
          (on_seen (λ d. Ok d) (λ d. pick z (Ok d) (along s used (next_leaf (page s p)) view m d)) (λ h. Err h) (on_judged (λ e. go (g p b)) (λ h. broken h) j))
          (Err (structural p)))
      by_use false t j z ih = refl
      by_use true t (Err h) z ih = refl
      by_use true t (Ok e) true ih = last m (f p a) (g p b) (keeps m p a b (ltb-true p used t) r)
      by_use true t (Ok e) false ih = ih (keeps m p a b (ltb-true p used t) r)

-- beside the rows of the chain any fold over the cells
module _ {B : Type 0} (look : B → ℕ → List ℕ → Seen B) (g : ℕ → B → Cell → B) (used : ℕ) (s : List ℕ) (jb : Judging look (λ p b. fold_cells (g p) b (cells (page s p))) s) (P : List Row → B → Type 0) (keeps : (p : ℕ) (c : Cell) (rs : List Row) (b : B) → p < used → cell_at (page s p) c.at ≡ Ok c → P rs b → P (rs ++ (row_of (page s p) c ∷ [])) (g p b c)) where
  pub fold-rows : (p : ℕ) → p < used → (n at : ℕ) (rs : List Row) (b : B) → P rs b → P (rs ++ rows_of (page s p) n at) (fold_cells (g p) b (cells_of (page s p) n at))
  unfolding cells_of fold_cells
  fold-rows p h zero at rs b k = rw append-nil k
  fold-rows p h (suc n) at rs b k = by_read (cell_at (page s p) at) refl (λ c. fold-rows p h n c.next (rs ++ (row_of (page s p) c ∷ [])) (g p b c))
    where
      by_read : (r : Result Cell CellFault) → cell_at (page s p) at ≡ r
          → ((c : Cell) → P (rs ++ (row_of (page s p) c ∷ [])) (g p b c)
          → P ((rs ++ (row_of (page s p) c ∷ [])) ++ rows_of (page s p) n c.next) (fold_cells (g p) (g p b c) (cells_of (page s p) n c.next)))
          → P (rs ++ map (row_of (page s p)) (on_cell (λ c. c ∷ cells_of (page s p) n c.next) (λ kind. []) r)) (fold_cells (g p) b (on_cell (λ c. c ∷ cells_of (page s p) n c.next) (λ kind. []) r))
      by_read (Err kind) e ih = rw append-nil k
      by_read (Ok c) e ih =
          rw append_assoc at (ih c (keeps p c rs b h (ap (cell_at (page s p)) (cell_placed (page s p) at c e).here ∙ e) k))

  pub rows_beside : (p : ℕ) (b : B) → P [] b → Alike P (chain_rows s used p) (along s used p look used b)
  unfolding chain_rows
  rows_beside p b k =
      in_step look_all look (λ q rs. rs ++ rows (page s q)) (λ q d. fold_cells (g q) d (cells (page s q))) used s (λ a q. refl) jb (λ m. P) P (λ m rs d h. h)
      (λ m q rs d h. fold-rows q h (cell_count (page s q)) 12 rs d)
      used p [] b k
