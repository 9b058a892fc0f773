-- The facts of specs/CutFacts: the cut that the walk keeps is the best one, a stamp always divides, and the three cases
-- by computation. Assumes nothing.
use mathlib.Core.Path.{◌≡◌, refl, ap, ◌∙◌}
use mathlib.Core.Bool.{true}
use mathlib.Core.List.{List, [], ◌∷◌, ◌++◌}
use mathlib.Core.Logic.{⊎_elim}
use Prim.Native.Nat.{ℕ, zero, suc, ◌+◌, ◌≤◌, ◌<◌}
use native.Mathlib.Omega.{arith}
use borrow.Author.Tests.{le-leb, le-ltb, leb-true}
use lib.Dec.{leb}
use Rattle.store.proofs.Tests.{and_both}
use lib.ListN.{length, take}
use Rattle.store.proofs.PartLaws.{le_or_lt}
use Rattle.leaf.specs.Place.{larger_side, better_cut, cut_step, cut_after, cut_of, cut_fits, no_cut, uncut}
use Rattle.leaf.specs.CutFacts.{sum, Between, CutIsBest, StampDivides, CutCases}
use Rattle.leaf.specs.declared.place.Cut.{Cut}
use Rattle.leaf.proofs.Cutting.{Best, Passing, walk-best}

-- before the first cell there is no choice
same_cut : (t : ℕ) → better_cut t no_cut no_cut ≡ no_cut
unfolding better_cut
same_cut t = rw (le-ltb (larger_side t no_cut) (larger_side t no_cut) (omega arith))

first_passing : (t x : ℕ) (rest : List ℕ) → Passing t (x ∷ rest) 1 (cut_step t uncut x)
unfolding cut_step
first_passing t x rest =
    record {
      so_far = ap (λ (n : ℕ). record { cells = 1; bytes = n }) {x = 0 + x} {y = x + 0} (omega arith);
      upto = omega arith;
      best =
          rw same_cut
          (record { place = refl; before = omega arith; smallest = λ j l. let z : j ≡ 0 = omega arith in rw z (omega arith); earliest = λ j l. absurd (omega arith) });
    }

-- with a cell on each side something is on each side, so that no cut is worse than any
not_first : (t x y : ℕ) (rest : List ℕ) (cut : Cut) → t ≡ sum (x ∷ (y ∷ rest)) → 1 ≤ x → 1 ≤ y → Best t (x ∷ (y ∷ rest)) (length (x ∷ (y ∷ rest))) cut → 1 ≤ cut.cells
not_first t x y rest cut e hx hy b =
    ⊎_elim
    (λ (h : 1 ≤ cut.cells). h)
    (λ (h : cut.cells < 1).
    let z : cut.cells ≡ 0 = omega arith in
    let none : cut.bytes ≡ 0 = ap (λ (c : Cut). c.bytes) b.place ∙ ap (λ (i : ℕ). sum (take i (x ∷ (y ∷ rest)))) z in
    let one : 1 < length (x ∷ (y ∷ rest)) = omega arith in
    absurd (omega (arith, b.smallest 1 one)))
    (le_or_lt 1 cut.cells)

pub cut_is-best : CutIsBest
unfolding cut_of cut_after
cut_is-best (x ∷ (y ∷ rest)) n h b =
    let w = walk-best (sum (x ∷ (y ∷ rest))) (x ∷ (y ∷ rest)) (y ∷ rest) 1 (cut_step (sum (x ∷ (y ∷ rest))) uncut x) refl (first_passing (sum (x ∷ (y ∷ rest))) x (y ∷ rest)) in
    record {
      place = w.place;
      left = not_first (sum (x ∷ (y ∷ rest))) x y rest _ refl b.0 b.2.0 w;
      right = w.before;
      smallest = λ i l k. w.smallest i k;
      earliest = λ i l k. w.earliest i k;
    }
cut_is-best (x ∷ []) n h b = absurd (omega arith)
cut_is-best [] n h b = absurd (omega arith)

-- sizes of 19 and more are sizes of 1 and more
between_one : (xs : List ℕ) → Between 19 4084 xs → Between 1 4084 xs
between_one [] b = tt
between_one (x ∷ xs) b = (omega arith, b.1, between_one xs b.2)

-- both sides hold at least 19 bytes
pub stamp_divides : StampDivides
unfolding cut_fits
stamp_divides [] b lo hi = absurd (omega arith)
stamp_divides (x ∷ []) b lo hi = absurd (omega arith)
stamp_divides (x ∷ (y ∷ rest)) b lo hi =
    let ch = cut_is-best (x ∷ (y ∷ rest)) 4084 (omega arith) (between_one (x ∷ (y ∷ rest)) b) in
    let one = ch.smallest 1 (omega arith) (omega arith) in
    rw (le-leb 1 (cut_of (sum (x ∷ (y ∷ rest))) (x ∷ (y ∷ rest))).cells ch.left)
    (le-leb (larger_side (sum (x ∷ (y ∷ rest))) (cut_of (sum (x ∷ (y ∷ rest))) (x ∷ (y ∷ rest)))) 4084 (omega (arith, one)))

pub cut_cases : CutCases
unfolding cut_of cut_after cut_step better_cut cut_fits
cut_cases = record { p4 = refl; p5 = refl; p6 = refl }

pub sum-append : (xs ys : List ℕ) → sum (xs ++ ys) ≡ sum xs + sum ys
sum-append [] ys = omega arith
sum-append (x ∷ xs) ys = omega (arith, sum-append xs ys)

pub sum-take : (i : ℕ) (xs : List ℕ) → sum (take i xs) ≤ sum xs
sum-take zero xs = omega arith
sum-take (suc i) [] = omega arith
sum-take (suc i) (x ∷ xs) = omega (arith, sum-take i xs)

-- the first i of xs, m and ys, where m is not among them, and where it is
pub sum_front : (i : ℕ) (xs ys : List ℕ) → i ≤ length xs → sum (take i (xs ++ ys)) ≤ sum xs
sum_front zero xs ys h = omega arith
sum_front (suc i) [] ys h = absurd (omega arith)
sum_front (suc i) (x ∷ xs) ys h = omega (arith, sum_front i xs ys (omega arith))

pub sum_past : (i : ℕ) (xs : List ℕ) (m : ℕ) (ys : List ℕ) → length xs < i → sum xs + m ≤ sum (take i (xs ++ (m ∷ ys)))
sum_past zero xs m ys h = absurd (omega arith)
sum_past (suc i) [] m ys h = omega arith
sum_past (suc i) (x ∷ xs) m ys h = omega (arith, sum_past i xs m ys (omega arith))

pub between_append : (lo hi : ℕ) (xs ys : List ℕ) → Between lo hi xs → Between lo hi ys → Between lo hi (xs ++ ys)
between_append lo hi [] ys a b = b
between_append lo hi (x ∷ xs) ys a b = (a.0, a.1, between_append lo hi xs ys a.2 b)

pub fits-is : (t : ℕ) (cut : Cut) → cut_fits t cut ≡ true → (1 ≤ cut.cells) × (larger_side t cut ≤ 4084)
unfolding cut_fits
fits-is t cut e =
    let b = and_both (leb 1 cut.cells) (leb (larger_side t cut) 4084) e in
    (leb-true 1 cut.cells b.0, leb-true (larger_side t cut) 4084 b.1)
