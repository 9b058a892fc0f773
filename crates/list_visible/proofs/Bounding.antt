-- The first pass: its step over a leaf and along the chain, and how far the sum grows. Assumes nothing.
use Rattle.row.specs.declared.CellFault.{CellFault}
use Rattle.std.proofs.Common.{Result, Ok, Err}
use mathlib.Core.Path.{◌≡◌, refl, sym, ◌∙◌}
use mathlib.Core.Bool.{Bool, ◌||◌}
use mathlib.Core.List.{List, [], ◌∷◌}
use Prim.Native.Nat.{ℕ, zero, suc, ◌+◌, ◌*◌, ◌-◌, ◌≤◌}
use native.Mathlib.Omega.{arith}
use lib.Dec.{ltb}
use Rattle.page.specs.Page.{page}
use Rattle.page.specs.Header.{cell_count}
use Rattle.row.specs.Read.{cell_at}
use Rattle.row.specs.declared.Cell.{Cell}
use Rattle.row.specs.declared.Fault.{Fault}
use Rattle.leaf.specs.Cells.{on_cell, cells_of, cells, fold_cells, judge_leaf, on_judged}
use Rattle.tree.specs.Chain.{along}
use Rattle.list_visible.specs.Steps.Fast.{bound_cell, bound_leaf, look_bound, start_bound, bound_along}
use Rattle.list_visible.specs.declared.Bound.{Bound}
use Rattle.page.proofs.PageLaws.{page_short}
use Rattle.row.proofs.Exact.{cell_placed}
use Rattle.list_visible.proofs.Beside.{Alike, Judging, goes-judged, in_step}

pub bound-step : (pg : List ℕ) (b : Bound) (x : Cell) (at : ℕ) {k e : ℕ} {t : Bool} → cell_at pg at ≡ Ok x → k ≡ x.key → e ≡ x.next → t ≡ (b.falls || ltb k b.last)
    → ◌≡◌ {A = Bound} (record { last = k; size = b.size + (6 + (e - at)); falls = t }) (bound_cell b x)
bound-step pg b x at r u v w = let h : x.at ≡ at = (cell_placed pg at x r).here in rw (w, u, v, h)

-- a record takes less than twice its cell's bytes
module _ (p : ℕ) (s : List ℕ) where
  fold-few : (n at : ℕ) (b : Bound) → at ≤ 4096 → (fold_cells bound_cell b (cells_of (page s p) n at)).size + at * 2 ≤ b.size + 8192
  unfolding cells_of fold_cells
  fold-few zero at b h = omega arith
  fold-few (suc n) at b h = by_read (cell_at (page s p) at) refl (λ c. fold-few n c.next (bound_cell b c))
    where
      by_read : (r : Result Cell CellFault) → cell_at (page s p) at ≡ r
          → ((c : Cell) → c.next ≤ 4096 → (fold_cells bound_cell (bound_cell b c) (cells_of (page s p) n c.next)).size + c.next * 2 ≤ (bound_cell b c).size + 8192)
          → (fold_cells bound_cell b (on_cell (λ c. c ∷ cells_of (page s p) n c.next) (λ kind. []) r)).size + at * 2 ≤ b.size + 8192
      by_read (Err kind) e ih = omega arith
      by_read (Ok c) e ih =
          let a = cell_placed (page s p) at c e in
          let l = page_short p s in
          let low : at + 19 ≤ c.next = omega (arith, a.past_head, a.whole) in
          let i = ih c (omega (arith, a.inside)) in
          omega (arith, a.here, i)

  fold_more : (b : Bound) → (fold_cells bound_cell b (cells (page s p))).size ≤ b.size + 8192
  fold_more b = omega (arith, fold-few (cell_count (page s p)) 12 b (omega arith))

  -- after one leaf
  pub leaf_more : (b : Bound) {pg : List ℕ} {r : Result Bound Fault} {d : Bound} → pg ≡ page s p → r ≡ bound_leaf p b pg → r ≡ Ok d → d.size ≤ b.size + 8192
  unfolding bound_leaf
  leaf_more b {pg} {r} {d} here e q = by_judged (judge_leaf (page s p) p) (sym (rw here at e) ∙ q)
    where
      by_judged : (j : Result ℕ Fault) → on_judged (λ i. Ok (fold_cells bound_cell b (cells (page s p)))) (λ f. Err f) j ≡ Ok d → d.size ≤ b.size + 8192
      by_judged (Ok i) u = let same : fold_cells bound_cell b (cells (page s p)) ≡ d = cc in rw same at (fold_more b)
      by_judged (Err f) u = absurd (cc)

-- the walk judges, and bounds the cells
pub judging_bound : (s : List ℕ) → Judging look_bound (λ p b. fold_cells bound_cell b (cells (page s p))) s
unfolding bound_leaf
judging_bound s b p = goes-judged _ (judge_leaf (page s p) p)

-- after the chain
pub along-few : (used p : ℕ) (s : List ℕ) {b : Bound} → bound_along s used p ≡ Ok b → b.size ≤ used * 8192
unfolding bound_along
along-few used p s {b} e =
    by_told (along s used p look_bound used start_bound) e
    (in_step look_bound look_bound (λ q a. fold_cells bound_cell a (cells (page s q))) (λ q a. fold_cells bound_cell a (cells (page s q))) used s (judging_bound s) (judging_bound s)
    (λ m a d. a.size + m * 8192 ≤ used * 8192) (λ a d. a.size ≤ used * 8192) (λ m a d h. omega arith) (λ m q a d h k. omega (arith, fold_more q s a)) used p start_bound start_bound (omega arith))
  where
    by_told : (t : Result Bound Fault) → t ≡ Ok b → Alike (λ (a : Bound) (d : Bound). a.size ≤ used * 8192) t t → b.size ≤ used * 8192
    by_told (Ok d) u k = let same : d ≡ b = cc in rw same at k
    by_told (Err f) u k = absurd (cc)
