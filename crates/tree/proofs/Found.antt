-- What a lookup finds stands in the tree: the page is in use, and the cell is read there. Assumes nothing.
use Rattle.row.specs.declared.CellFault.{CellFault}
use Rattle.std.proofs.Common.{Some, None, Result, Ok, Err}
use Rattle.row.specs.declared.Fault.{Fault}
use mathlib.Core.Path.{◌≡◌, refl, ap, ◌∙◌, subst}
use mathlib.Core.Bool.{Bool, true, false, ◌&&◌}
use mathlib.Core.List.{List, [], ◌∷◌}
use Prim.Native.Nat.{ℕ, zero, suc, ◌<◌}
use borrow.Author.Tests.{ltb-true}
use lib.Dec.{ltb, eqb}
use Rattle.store.specs.Pick.{pick}
use Rattle.page.specs.Page.{page}
use Rattle.page.specs.Header.{next_leaf, cell_count}
use Rattle.row.specs.Read.{cell_at}
use Rattle.row.specs.declared.Cell.{Cell}
use Rattle.row.specs.Fault.{structural}
use Rattle.mvcc.specs.Rules.{visible}
use Rattle.leaf.specs.Cells.{on_cell, cells_of, cells, fold_cells, judge_leaf, on_judged, has_larger}
use Rattle.leaf.specs.Find.{later, newest, find_leaf}
use Rattle.leaf.specs.Find.{Best}
use Rattle.tree.specs.Chain.{on_seen, along, seen_best, look_best, best_along}
use Rattle.mvcc.specs.Snapshot.{Snapshot}
use Rattle.row.proofs.Exact.{cell_placed}

pub record FoundIn (s : List ℕ) (used p : ℕ) (c : Cell) : Type 0 where
  pub in_use : p < used
  pub there : cell_at (page s p) c.at ≡ Ok c

abbrev pub BestIn : List ℕ → ℕ → Best → Type 0
BestIn s used None = Unit
BestIn s used (Some (p, c)) = FoundIn s used p c

-- the cells of a page are read where they say
abbrev AllThere : List ℕ → List Cell → Type 0
AllThere pg [] = Unit
AllThere pg (c ∷ cs) = (cell_at pg c.at ≡ Ok c) × AllThere pg cs

all_there : (pg : List ℕ) (n at : ℕ) → AllThere pg (cells_of pg n at)
unfolding cells_of
all_there pg zero at = tt
all_there pg (suc n) at = by_read (cell_at pg at) refl (λ c. all_there pg n c.next)
  where
    by_read : (r : Result Cell CellFault) → cell_at pg at ≡ r → ((c : Cell) → AllThere pg (cells_of pg n c.next)) → AllThere pg (on_cell (λ c. c ∷ cells_of pg n c.next) (λ kind. []) r)
    by_read (Err kind) e ih = tt
    by_read (Ok c) e ih = (ap (cell_at pg) (cell_placed pg at c e).here ∙ e, ih c)

either : {A : Type 0} (P : A → Type 0) (b : Bool) {x y : A} → P x → P y → P (pick b x y)
either P true p q = p
either P false p q = q

module _ (s : List ℕ) (used p : ℕ) (h : p < used) where
  later_in : (best : Best) (c : Cell) → cell_at (page s p) c.at ≡ Ok c → BestIn s used best → BestIn s used (later p best c)
  later_in None c e b = record { in_use = h; there = e }
  later_in (Some (q, o)) c e b = either (BestIn s used) (ltb c.version.creator o.version.creator) b (record { in_use = h; there = e })

  module _ (sn : Snapshot) (st : ℕ → ℕ) (key : ℕ) where
    newest_in : (best : Best) (c : Cell) → cell_at (page s p) c.at ≡ Ok c → BestIn s used best → BestIn s used (newest p key sn st best c)
    unfolding newest
    newest_in best c e b =
        either (BestIn s used) (eqb c.key key && visible sn st c.version.creator c.version.stamp) (later_in best c e b) b

    fold_in : (cs : List Cell) (best : Best) → AllThere (page s p) cs → BestIn s used best → BestIn s used (fold_cells (newest p key sn st) best cs)
    unfolding fold_cells
    fold_in [] best t b = b
    fold_in (c ∷ cs) best t b = fold_in cs (newest p key sn st best c) t.1 (newest_in best c t.0 b)

    find_in : (best : Best) {b : Best} {l : Bool} → find_leaf (page s p) p key sn st best ≡ Ok (b, l) → BestIn s used best → BestIn s used b
    unfolding find_leaf
    find_in best {b} {l} e i = by_judged (judge_leaf (page s p) p) e
      where
        all : Best
        all = fold_cells (newest p key sn st) best (cells (page s p))

        by_judged : (j : Result ℕ Fault) → ◌≡◌ {A = Result (Best × Bool) Fault} (on_judged (λ e. Ok (all, has_larger key (cells (page s p)))) (λ f. Err f) j) (Ok (b, l)) → BestIn s used b
        by_judged (Ok e) q =
            let t : ◌≡◌ {A = Best × Bool} (all, has_larger key (cells (page s p))) (b, l) = cc in
            let u : all ≡ b = ap (λ (x : Best × Bool). x.0) t in
            subst (BestIn s used) u (fold_in (cells (page s p)) best (all_there (page s p) (cell_count (page s p)) 12) i)
        by_judged (Err f) q = absurd cc

module _ (sn : Snapshot) (st : ℕ → ℕ) (used key : ℕ) (s : List ℕ) where
  along_in : (m : ℕ) (a : Best) (p : ℕ) {b : Best} → along s used p (look_best key sn st) m a ≡ Ok b → BestIn s used a → BestIn s used b
  unfolding along
  along_in zero a p e i = absurd cc
  along_in (suc m) a p {b} e i = by_use (ltb p used) refl (λ d n q j. along_in m d n q j) e
    where
      by_next : ((d : Best) (n : ℕ) → along s used n (look_best key sn st) m d ≡ Ok b → BestIn s used d → BestIn s used b) → (t : Bool) (d : Best) → BestIn s used d → pick t (Ok d) (along s used (next_leaf (page s p)) (look_best key sn st) m d) ≡ Ok b → BestIn s used b
      by_next ih true d j q = let u : d ≡ b = cc in subst (BestIn s used) u j
      by_next ih false d j q = ih d (next_leaf (page s p)) q j

      by_leaf : ((d : Best) (n : ℕ) → along s used n (look_best key sn st) m d ≡ Ok b → BestIn s used d → BestIn s used b) → p < used → (r : Result (Best × Bool) Fault) → find_leaf (page s p) p key sn st a ≡ r
          → on_seen (λ d. Ok d) (λ d. pick (eqb (next_leaf (page s p)) 0) (Ok d) (along s used (next_leaf (page s p)) (look_best key sn st) m d)) (λ f. Err f) (seen_best r) ≡ Ok b
          → BestIn s used b
      by_leaf ih h (Ok (d, true)) f q = let u : d ≡ b = cc in subst (BestIn s used) u (find_in s used p h sn st key a f i)
      by_leaf ih h (Ok (d, false)) f q = by_next ih (eqb (next_leaf (page s p)) 0) d (find_in s used p h sn st key a f i) q
      by_leaf ih h (Err g) f q = absurd cc

      by_use : (t : Bool) → ltb p used ≡ t → ((d : Best) (n : ℕ) → along s used n (look_best key sn st) m d ≡ Ok b → BestIn s used d → BestIn s used b)
          → pick t
          (on_seen (λ d. Ok d) (λ d. pick (eqb (next_leaf (page s p)) 0) (Ok d) (along s used (next_leaf (page s p)) (look_best key sn st) m d)) (λ f. Err f)
          (look_best key sn st a p (page s p)))
          (Err (structural p))
          ≡ Ok b
          → BestIn s used b
      by_use true t ih q = by_leaf ih (ltb-true p used t) (find_leaf (page s p) p key sn st a) refl q
      by_use false t ih q = absurd cc

  -- what a lookup finds
  pub best_in : (p : ℕ) {q : ℕ} {c : Cell} → best_along s used p key sn st ≡ Ok (Some (q, c)) → FoundIn s used q c
  unfolding best_along
  best_in p {q} {c} e = by_told (along s used p (look_best key sn st) used None) refl e
    where
      by_told : (t : Result Best Fault) → along s used p (look_best key sn st) used None ≡ t → t ≡ Ok (Some (q, c)) → FoundIn s used q c
      by_told (Ok b) f u = let v : b ≡ Some (q, c) = cc in along_in used None p (f ∙ ap (λ (x : Best). Ok x) v) tt
      by_told (Err g) f u = absurd cc
