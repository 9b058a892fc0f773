-- The walk that cuts keeps the best cut among those it passed: the invariant from cell to cell. Assumes nothing.
use mathlib.Core.Path.{◌≡◌, refl, sym, ap, ◌∙◌}
use mathlib.Core.Bool.{Bool, true, false}
use mathlib.Core.List.{List, [], ◌∷◌}
use mathlib.Core.Logic.{⊎_elim}
use Prim.Native.Nat.{ℕ, zero, suc, ◌+◌, ◌-◌, ◌≤◌, ◌<◌}
use native.Mathlib.Omega.{arith}
use borrow.Author.Tests.{ltb-true, ltb-false}
use lib.Dec.{ltb}
use lib.ListN.{length, take, drop, length-drop}
use Rattle.store.specs.Pick.{pick}
use Rattle.leaf.specs.Place.{larger_side, better_cut, cut_step, cut_after}
use Rattle.leaf.specs.CutFacts.{sum, cut_at}
use Rattle.leaf.specs.declared.place.Cut.{Cut}
use Rattle.leaf.specs.declared.place.Cutting.{Cutting}
use Rattle.store.proofs.PartLaws.{le_or_lt}

-- of the cuts before cell i, none is better, and none earlier is as good
pub record Best (t : ℕ) (xs : List ℕ) (i : ℕ) (cut : Cut) : Type 0 where
  pub place : cut ≡ cut_at cut.cells xs
  pub before : cut.cells < i
  pub smallest : (j : ℕ) → j < i → larger_side t cut ≤ larger_side t (cut_at j xs)
  pub earliest : (j : ℕ) → j < cut.cells → larger_side t cut < larger_side t (cut_at j xs)

pub record Passing (t : ℕ) (xs : List ℕ) (i : ℕ) (h : Cutting) : Type 0 where
  pub so_far : h.left ≡ cut_at i xs
  pub upto : i ≤ length xs
  pub best : Best t xs i h.best

-- the cut after one cell more
sum-next : (i : ℕ) (xs : List ℕ) (x : ℕ) (rest : List ℕ) → drop i xs ≡ x ∷ rest → (sum (take (i + 1) xs) ≡ sum (take i xs) + x) × (drop (i + 1) xs ≡ rest)
sum-next zero (y ∷ xs) x rest e =
    let p : y ≡ x = cc in
    let q : xs ≡ rest = cc in
    (omega arith, q)
sum-next zero [] x rest e = absurd (let z : ◌≡◌ {A = ℕ} 0 1 = cc in omega arith)
sum-next (suc i) [] x rest e = absurd (let z : ◌≡◌ {A = ℕ} 0 1 = cc in omega arith)
sum-next (suc i) (y ∷ xs) x rest e =
    let n : suc i + 1 ≡ suc (i + 1) = omega arith in
    let h = sum-next i xs x rest e in
    rw n (omega (arith, h.0), h.1)

-- the choice between the best so far and the next cut
better-best : (t : ℕ) (xs : List ℕ) (i : ℕ) (best : Cut) → Best t xs i best → Best t xs (i + 1) (better_cut t best (cut_at i xs))
unfolding better_cut
better-best t xs i best b = by_test (ltb (larger_side t (cut_at i xs)) (larger_side t best)) refl
  where
    by_test : (d : Bool) → ltb (larger_side t (cut_at i xs)) (larger_side t best) ≡ d → Best t xs (i + 1) (pick d (cut_at i xs) best)
    by_test true e =
        let l = ltb-true (larger_side t (cut_at i xs)) (larger_side t best) e in
        record {
          place = refl;
          before = omega arith;
          smallest =
              λ j h.
              ⊎_elim
              (λ (k : i ≤ j). let q : j ≡ i = omega arith in rw q (omega arith))
              (λ (k : j < i). omega (arith, b.smallest j k))
              (le_or_lt i j);
          earliest = λ j h. omega (arith, b.smallest j h);
        }
    by_test false e =
        let l = ltb-false (larger_side t (cut_at i xs)) (larger_side t best) e in
        record {
          place = b.place;
          before = omega (arith, b.before);
          smallest =
              λ j h.
              ⊎_elim
              (λ (k : i ≤ j). let q : j ≡ i = omega arith in rw q (omega arith))
              (λ (k : j < i). b.smallest j k)
              (le_or_lt i j);
          earliest = b.earliest;
        }

step_passing : (t : ℕ) (xs : List ℕ) (i : ℕ) (h : Cutting) (x : ℕ) (rest : List ℕ) → drop i xs ≡ x ∷ rest → Passing t xs i h → Passing t xs (i + 1) (cut_step t h x)
unfolding cut_step
step_passing t xs i h x rest e p =
    let n = sum-next i xs x rest e in
    let l : length xs - i ≡ suc (length rest) = sym (length-drop i xs) ∙ ap length e in
    record {
      so_far = rw (p.so_far, n.0);
      upto = omega (arith, p.upto);
      best = rw p.so_far (better-best t xs i h.best p.best);
    }

pub walk-best : (t : ℕ) (xs : List ℕ) (rest : List ℕ) (i : ℕ) (h : Cutting) → drop i xs ≡ rest → Passing t xs i h → Best t xs (length xs) (cut_after t h rest).best
unfolding cut_after
walk-best t xs [] i h e p =
    let l : length xs - i ≡ 0 = sym (length-drop i xs) ∙ ap length e in
    let n : i ≡ length xs = omega (arith, p.upto) in
    rw n at p.best
walk-best t xs (x ∷ rest) i h e p = walk-best t xs rest (i + 1) (cut_step t h x) (sum-next i xs x rest e).1 (step_passing t xs i h x rest e p)
