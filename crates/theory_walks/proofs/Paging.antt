-- The pages of a tree are judged good: a leaf page whose rows are sorted, and an internal page whose keys never fall.
-- Assumes nothing.
use Rattle.row.specs.declared.CellFault.{CellFault}
use Rattle.std.proofs.Common.{Result, Ok, Err}
use mathlib.Core.Path.{◌≡◌, refl, sym, ap, ◌∙◌}
use mathlib.Core.Bool.{Bool, true, false}
use mathlib.Core.List.{List, [], ◌∷◌, ◌++◌, map}
use Prim.Native.Nat.{ℕ, zero, suc, ◌≤◌}
use native.Mathlib.Omega.{arith}
use native.Mathlib.Nat.{le_trans}
use lib.Dec.{leb, ltb}
use lib.ListN.{length, length-map}
use borrow.Author.Tests.{le-leb, leb-true, eq-eqb, ltb-false}
use Rattle.page.specs.Page.{page}
use Rattle.page.specs.Header.{node_type, cell_count}
use Rattle.row.specs.Read.{cell_at}
use Rattle.row.specs.declared.Cell.{Cell}
use Rattle.leaf.specs.Cells.{on_cell, cells_of, cells, in_order, step_of, on_step, judge_cells, judge_leaf}
use Rattle.leaf.specs.Rows.{Row, row_of, rows}
use Rattle.inner.specs.Inner.{keys_from, keys_of, children_of, never_falls, judge_inner}
use Rattle.theory_tree.specs.Pages.{leaf_page, inner_page}
use Rattle.theory_tree.specs.View.{view}
use Rattle.theory_tree.specs.Shape.{Shape, leaf, node, pair, head, rest, All, Sorted, Bounded}
use Rattle.leaf.proofs.Walking.{step_in, leaf-cells}
use Rattle.leaf.proofs.Rowing.{end_of}
use Rattle.leaf.proofs.Chain.{Rising}
use Rattle.inner.proofs.Routing.{judge_ok}
use Rattle.theory_tree.proofs.Says.{LeafSays, InnerSays, leaf_says, inner_says, entries_length, entries_of_lem, kids_of_lem}
use Rattle.theory_tree.proofs.Entries.{kids}
use Rattle.theory_tree.proofs.Order.{bnd_le}
use Rattle.theory_tree.proofs.Seek.{seps_below}
use Rattle.store.proofs.Tests.{and_both}

-- ---- what a page of the pool says

pub leaf_at : (s : List ℕ) (p par nxt : ℕ) (rs : List Row) → view s p ≡ leaf_page par nxt rs → LeafSays (page s p) par nxt rs
unfolding view
leaf_at s p par nxt rs e = leaf_says (page s p) e

pub inner_at : (s : List ℕ) (p par j h : ℕ) (r : List (ℕ × ℕ)) → view s p ≡ inner_page par j h r → InnerSays (page s p) par j h r
unfolding view
inner_at s p par j h r e = inner_says (page s p) e

-- ---- leaves

order_in : (k c k' c' : ℕ) → k ≤ k' → (k ≡ k' → c ≤ c') → in_order k c k' c' ≡ true
unfolding in_order
order_in k c k' c' l h = by_less (ltb k k') refl
  where
    by_less : (b : Bool) → ltb k k' ≡ b → in_order k c k' c' ≡ true
    by_less true e = rw e
    by_less false e =
        let m : k' ≤ k = ltb-false k k' e in
        let q : k ≡ k' = omega arith in
        rw (e, eq-eqb k k' q, le-leb c c' (h q))

rising_of : (pg : List ℕ) (k c : ℕ) (cs : List Cell) → All (λ (r : Row). (k ≤ r.key) × (k ≡ r.key → c ≤ r.creator)) (map (row_of pg) cs) → Sorted (map (row_of pg) cs)
    → Rising k c cs
rising_of pg k c [] a o = tt
rising_of pg k c (x ∷ xs) a o =
    (order_in k c x.key x.version.creator a.0.0 a.0.1, rising_of pg x.key x.version.creator xs o.0 o.1)

-- cells that are all there, in order, are judged good
cells-judged : (pg : List ℕ) (p k c n at : ℕ) → length (cells_of pg n at) ≡ n → Rising k c (cells_of pg n at)
    → judge_cells pg p k c n at ≡ Ok (end_of at (cells_of pg n at))
unfolding judge_cells cells_of end_of
cells-judged pg p k c zero at e o = refl
cells-judged pg p k c (suc n) at e o = by_read (cell_at pg at) refl (λ x. cells-judged pg p x.key x.version.creator n x.next) e o
  where
    by_read : (d : Result Cell CellFault) → cell_at pg at ≡ d
        → ((x : Cell) → length (cells_of pg n x.next) ≡ n → Rising x.key x.version.creator (cells_of pg n x.next)
        → judge_cells pg p x.key x.version.creator n x.next ≡ Ok (end_of x.next (cells_of pg n x.next)))
        → length (on_cell (λ x. x ∷ cells_of pg n x.next) (λ kind. []) d) ≡ suc n → Rising k c (on_cell (λ x. x ∷ cells_of pg n x.next) (λ kind. []) d)
        → on_step (λ x. judge_cells pg p x.key x.version.creator n x.next) (λ f. Err f) (step_of pg p k c at)
        ≡ Ok (end_of at (on_cell (λ x. x ∷ cells_of pg n x.next) (λ kind. []) d))
    by_read (Err kind) q ih e o = absurd (let z : 0 ≡ suc n = e in omega arith)
    by_read (Ok x) q ih e o =
        let m : length (cells_of pg n x.next) ≡ n = (let z : suc (length (cells_of pg n x.next)) ≡ suc n = e in omega arith) in
        rw (← step_in pg p k c at (sym q) refl (sym o.0) refl) (ih x m o.1)

pub sorted_rising : (pg : List ℕ) → Sorted (rows pg) → Rising 0 0 (cells pg)
sorted_rising pg o = rising_of pg 0 0 (cells pg) (any (rows pg)) o
  where
    any : (rs : List Row) → All (λ (r : Row). (0 ≤ r.key) × (0 ≡ r.key → 0 ≤ r.creator)) rs
    any [] = tt
    any (r ∷ rs) = ((omega arith, λ e. omega arith), any rs)

-- a leaf page whose rows are all there and sorted
pub leaf-judged : (p : ℕ) (pg : List ℕ) → node_type pg ≡ 1 → length (rows pg) ≡ cell_count pg → Sorted (rows pg) → (e : ℕ) × (judge_leaf pg p ≡ Ok e)
leaf-judged p pg t n o =
    let j = cells-judged pg p 0 0 (cell_count pg) 12 (sym (length-map (cells pg) (row_of pg)) ∙ n) (sorted_rising pg o) in
    (end_of 12 (cells pg), sym (leaf-cells p pg t refl (sym j)))

pub judged-leaf_of : (s : List ℕ) (p par nxt : ℕ) (rs : List Row) → view s p ≡ leaf_page par nxt rs → Sorted rs → (e : ℕ) × (judge_leaf (page s p) p ≡ Ok e)
judged-leaf_of s p par nxt rs v o =
    let a = leaf_at s p par nxt rs v in
    leaf-judged p (page s p) a.type (ap length a.rows_are ∙ a.count) (rw a.rows_are o)

-- ---- internal pages

abbrev pub keys_in : List (ℕ × ℕ) → List ℕ
keys_in r = map (λ (x : ℕ × ℕ). x.0) r

falls-join : (x k h : ℕ) (r r' : List (ℕ × ℕ)) → x ≤ k → All (λ (y : ℕ × ℕ). y.0 ≤ k) r → never_falls x (keys_in r) ≡ true → never_falls k (keys_in r') ≡ true
    → never_falls x (keys_in (r ++ ((k, h) ∷ r'))) ≡ true
unfolding never_falls
falls-join x k h [] r' l a e f = rw (le-leb x k l, f)
falls-join x k h (y ∷ r) r' l a e f =
    let b = and_both (leb x y.0) (never_falls y.0 (keys_in r)) e in
    rw (b.0, falls-join y.0 k h r r' a.0 a.1 b.1 f)

falls_weak : (x y : ℕ) (l : List ℕ) → x ≤ y → never_falls y l ≡ true → never_falls x l ≡ true
unfolding never_falls
falls_weak x y [] h e = refl
falls_weak x y (z ∷ l) h e =
    let b = and_both (leb y z) (never_falls z l) e in
    rw (le-leb x z (le_trans h (leb-true y z b.0)), b.1)

seps_from : (lo hi : ℕ) (g : Shape) → Bounded lo hi g → never_falls lo (keys_in (rest g)) ≡ true
unfolding never_falls
seps_from lo hi (leaf p rs) b = refl
seps_from lo hi (node p f) b = refl
seps_from lo hi (pair a k g) b =
    falls-join lo k (head g) (rest a) (rest g) (bnd_le lo k a b.0) (seps_below lo k a b.0) (seps_from lo k a b.0) (seps_from k hi g b.1)

-- the separators of a run in bounds never fall
pub seps_rise : (lo hi : ℕ) (g : Shape) → Bounded lo hi g → never_falls 0 (keys_in (rest g)) ≡ true
seps_rise lo hi g b = falls_weak 0 lo (keys_in (rest g)) (omega arith) (seps_from lo hi g b)

module _ (s : List ℕ) (p par j h : ℕ) (r : List (ℕ × ℕ)) (v : view s p ≡ inner_page par j h r) where
  pub count_of : cell_count (page s p) ≡ length r
  count_of = let a = inner_at s p par j h r v in sym (entries_length 0 (cell_count (page s p)) (page s p)) ∙ ap length a.entries

  pub keys_of_lem : keys_of (page s p) ≡ keys_in r
  keys_of_lem = let a = inner_at s p par j h r v in entries_of_lem (page s p) ∙ ap keys_in a.entries

  pub children_of_lem : children_of (page s p) ≡ kids h r
  children_of_lem = let a = inner_at s p par j h r v in kids_of_lem (page s p) ∙ rw (a.child, a.entries)

  pub judged_inner_of : never_falls 0 (keys_in r) ≡ true → judge_inner (page s p) p ≡ Ok (length r)
  judged_inner_of e =
      let a = inner_at s p par j h r v in
      let rises : never_falls 0 (keys_from (page s p) 0 (length r)) ≡ true = rw (← count_of) (ap (never_falls 0) keys_of_lem ∙ e) in
      sym (judge_ok p (page s p) a.type (sym count_of) (rw (← count_of) a.low) (rw (← count_of) a.high) refl rises)
