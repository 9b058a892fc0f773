-- The cut of a leaf with one cell more is between two cells: the sizes before it, the new cell's and the sizes after it add
-- up to the cut's bytes, so that both sides are those of a division. Assumes nothing.
use mathlib.Core.Path.{◌≡◌, refl, sym, ap, ◌∙◌, subst}
use mathlib.Core.Bool.{true}
use mathlib.Core.List.{List, [], ◌∷◌, ◌++◌}
use mathlib.Core.Logic.{⊎_elim}
use Prim.Native.Nat.{ℕ, suc, ◌+◌, ◌-◌, ◌≤◌, ◌<◌}
use native.Mathlib.Omega.{arith}
use lib.ListN.{length, take, drop, length-append, length-map, length-take, length-drop, take-append-drop}
use Rattle.store.proofs.PartLaws.{le_or_lt}
use Rattle.page.specs.Page.{page}
use Rattle.page.specs.Header.{cell_count}
use Rattle.row.specs.declared.Cell.{Cell}
use Rattle.leaf.specs.Cells.{cells_of, cells}
use Rattle.leaf.specs.Place.{cut_of, sizes_of, cut_leaf, cut_fits}
use Rattle.leaf.specs.CutFacts.{sum, Between, BestCut}
use Rattle.leaf.specs.declared.place.Cut.{Cut}
use Rattle.tree_insert.specs.Insert.{bytes_with, cut_with}
use Rattle.tree_insert.specs.Steps.Insert.{InsertCutStands}
use Rattle.tree_insert.specs.declared.Spot.{Spot}
use Rattle.row.proofs.Exact.{cell_placed}
use Rattle.leaf.proofs.CutFacts.{cut_is-best, sum-append, sum-take, sum_front, sum_past, between_append, fits-is}
use Rattle.leaf.proofs.Rowing.{end_of}
use Rattle.leaf.proofs.Chain.{Chain, chain-cells, chain_back, chain-right, end-append, judged-leaf}
use Rattle.tree_insert.proofs.Spotting.{SpotIs}

-- ---- sums

sum-none : (xs : List ℕ) → length xs ≡ 0 → sum xs ≡ 0
sum-none [] h = refl
sum-none (x ∷ xs) h = absurd (omega arith)

-- ---- sizes of cells

module _ (pg : List ℕ) where
  chain_front : (at : ℕ) (xs ys : List Cell) → Chain pg at (xs ++ ys) → Chain pg at xs
  chain_front at [] ys h = tt
  chain_front at (x ∷ xs) ys h = (h.0, chain_front x.next xs ys h.1)

  pub sizes_sum : (at : ℕ) (cs : List Cell) → Chain pg at cs → at + sum (sizes_of cs) ≡ end_of at cs
  unfolding end_of
  sizes_sum at [] h = omega arith
  sizes_sum at (c ∷ cs) h =
      let p = cell_placed pg at c h.0 in
      omega (arith, sizes_sum c.next cs h.1, p.here, p.past_head, p.whole)

  pub sizes_between : (at : ℕ) (cs : List Cell) → Chain pg at cs → Between 1 (length pg) (sizes_of cs)
  sizes_between at [] h = tt
  sizes_between at (c ∷ cs) h =
      let p = cell_placed pg at c h.0 in
      (omega (arith, p.here, p.past_head, p.whole), omega (arith, p.inside), sizes_between c.next cs h.1)

-- ---- the cut

-- the cells before the place and those from it on
pub record Sides (x : Spot) (pg : List ℕ) : Type 0 where
  pub first : List Cell
  pub rest : List Cell
  pub whole : cells pg ≡ first ++ rest
  pub front : cells_of pg x.place.before 12 ≡ first
  pub back : cells_of pg (cell_count pg - x.place.before) x.place.at ≡ rest
  pub chain : Chain pg 12 first
  pub chain_on : Chain pg x.place.at rest
  pub before : length first ≡ x.place.before
  pub after : length rest ≡ cell_count pg - x.place.before
  pub at : end_of 12 first ≡ x.place.at
  pub end : end_of x.place.at rest ≡ x.end

pub sides : (used key creator : ℕ) (s : List ℕ) (x : Spot) → SpotIs used key creator s x → Sides x (page s x.leaf)
sides used key creator s x is =
    let pg = page s x.leaf in
    let cs = cells pg in
    let n = is.split.count in
    let count : x.place.before ≡ n = ap (λ y. y.before) is.place in
    let at : end_of 12 (take n cs) ≡ x.place.at = sym (ap (λ y. y.at) is.place) in
    let all = judged-leaf 0 pg x.end is.sound.judged in
    let whole : cs ≡ take n cs ++ drop n cs = sym (take-append-drop n cs) in
    let chain : Chain pg 12 (take n cs ++ drop n cs) = subst (Chain pg 12) whole (chain-cells pg (cell_count pg) 12) in
    let c₁ = chain_front pg 12 (take n cs) (drop n cs) chain in
    let c₂ : Chain pg x.place.at (drop n cs) = rw at at (chain-right pg 12 (take n cs) (drop n cs) chain) in
    let l₁ : length (take n cs) ≡ n = length-take n cs ∙ omega (arith, all.count, is.among) in
    let l₂ : length (drop n cs) ≡ cell_count pg - n = length-drop n cs ∙ ap (λ (k : ℕ). k - n) all.count in
    record {
      first = take n cs;
      rest = drop n cs;
      whole = whole;
      front = ap (λ (k : ℕ). cells_of pg k 12) (count ∙ sym l₁) ∙ chain_back pg 12 (take n cs) c₁;
      back = ap (λ (k : ℕ). cells_of pg k x.place.at) (ap (λ (k : ℕ). cell_count pg - k) count ∙ sym l₂) ∙ chain_back pg x.place.at (drop n cs) c₂;
      chain = c₁;
      chain_on = c₂;
      before = l₁ ∙ sym count;
      after = l₂ ∙ ap (λ (k : ℕ). cell_count pg - k) (sym count);
      at = at;
      end = rw (← at) (sym (end-append 12 (take n cs) (drop n cs)) ∙ (sym (ap (end_of 12) whole) ∙ all.end));
    }

pub cut_stands : (used key creator : ℕ) (s : List ℕ) (x : Spot) (m : ℕ) → SpotIs used key creator s x → 19 ≤ m → m ≤ 4084 → 4084 < bytes_with x m
    → cut_fits (bytes_with x m) (cut_with (page s x.leaf) x m) ≡ true → InsertCutStands x m (cell_count (page s x.leaf)) (cut_with (page s x.leaf) x m)
unfolding cut_leaf
cut_stands used key creator s x m is lo hi over fits =
    let pg = page s x.leaf in
    let d = sides used key creator s x is in
    let xs = sizes_of d.first in
    let ys = sizes_of d.rest in
    let all = xs ++ (m ∷ ys) in
    let same : sizes_of (cells_of pg x.place.before 12) ++ (m ∷ sizes_of (cells_of pg (cell_count pg - x.place.before) x.place.at)) ≡ all = rw (d.front, d.back) in
    let n₁ : length xs ≡ x.place.before = length-map d.first (λ c. c.next - c.at) ∙ d.before in
    let n₂ : length ys ≡ cell_count pg - x.place.before = length-map d.rest (λ c. c.next - c.at) ∙ d.after in
    let s₁ : 12 + sum xs ≡ x.place.at = sizes_sum pg 12 d.first d.chain ∙ d.at in
    let s₂ : x.place.at + sum ys ≡ x.end = sizes_sum pg x.place.at d.rest d.chain_on ∙ d.end in
    let t : bytes_with x m ≡ sum all = omega (arith, sum-append xs (m ∷ ys), is.low) in
    let cut_is : cut_with pg x m ≡ cut_of (sum all) all = rw (same, t) in
    let long : length all ≡ length xs + suc (length ys) = length-append xs (m ∷ ys) in
    let some : 2 ≤ length all =
    ⊎_elim
    (λ (h : 2 ≤ length all). h)
    (λ (h : length all < 2). absurd (omega (arith, sum-none xs (omega arith), sum-none ys (omega arith), is.low)))
    (le_or_lt 2 (length all)) in
    let between : Between 1 4096 all =
    between_append 1 4096 xs (m ∷ ys) (rw is.sound.whole at (sizes_between pg 12 d.first d.chain))
    (omega arith, omega arith, rw is.sound.whole at (sizes_between pg x.place.at d.rest d.chain_on)) in
    let ch : BestCut all (cut_with pg x m) = subst (BestCut all) (sym cut_is) (cut_is-best all 4096 some between) in
    let i = (cut_with pg x m).cells in
    let bytes : (cut_with pg x m).bytes ≡ sum (take i all) = ap (λ (c : Cut). c.bytes) ch.place in
    let side = (fits-is (bytes_with x m) (cut_with pg x m) fits).1 in
    record {
      low = is.low;
      inside = is.inside;
      within = is.within;
      few = is.few;
      cells = omega (arith, ch.right, is.among);
      left = omega (arith, side);
      right = omega (arith, side, is.low, is.inside);
      whole = omega (arith, sum-take i all, is.low);
      before = λ h. omega (arith, sum_front i xs (m ∷ ys) (omega arith));
      after = λ h. omega (arith, sum_past i xs m ys (omega arith));
    }
