-- The steps of the place and of the cut: one law for each way out, and how far a walk that cuts gets. Assumes nothing.
use Rattle.row.specs.declared.CellFault.{CellFault}
use Rattle.std.proofs.Common.{Result, Ok, Err}
use mathlib.Core.Path.{◌≡◌, refl, sym, ap, ◌∙◌}
use mathlib.Core.Bool.{Bool, true, false}
use mathlib.Core.List.{List, [], ◌∷◌, ◌++◌}
use Prim.Native.Nat.{ℕ, zero, suc, ◌+◌, ◌-◌, ◌≤◌, ◌<◌}
use native.Mathlib.Omega.{arith}
use borrow.Author.Tests.{lt-ltb, le-ltb, le-leb, lt-leb}
use lib.Dec.{leb}
use lib.ListN.{length}
use Rattle.store.specs.Pick.{pick}
use Rattle.row.specs.Read.{cell_at}
use Rattle.row.specs.declared.Cell.{Cell}
use Rattle.leaf.specs.Cells.{on_cell, cells_of, in_order}
use Rattle.leaf.specs.Place.{past_cell, place_step, larger_side, better_cut, cut_step, cut_after, cut_of, sizes_of, cut_leaf, cut_fits, uncut}
use Rattle.leaf.specs.declared.place.Place.{Place}
use Rattle.leaf.specs.declared.place.Cut.{Cut}
use Rattle.leaf.specs.declared.place.Cutting.{Cutting}
use Rattle.row.proofs.Exact.{cell_placed}

-- ---- the place

module _ {b r : Bool} (x y : Place) (e : b ≡ r) where
  pub past_on : b ≡ true → x ≡ pick r x y
  past_on t = rw (sym e ∙ t)

  pub past_not : b ≡ false → y ≡ pick r x y
  past_not t = rw (sym e ∙ t)

module _ (key creator : ℕ) (here : Place) where
  pub place-count : {r : Place} (k c next : ℕ) → r ≡ past_cell key creator here k c next → r.before ≤ here.before + 1
  place-count k c next e = rw e (by_test (in_order k c key creator))
    where
      by_test : (b : Bool) → (pick b (record { at = next; before = here.before + 1 }) here).before ≤ here.before + 1
      by_test true = omega arith
      by_test false = omega arith

  pub place-past : {r : Place} {k c next : ℕ} (x : Cell) → k ≡ x.key → c ≡ x.version.creator → next ≡ x.next → r ≡ past_cell key creator here k c next
      → r ≡ place_step key creator here x
  place-past x u v w q = q ∙ rw (u, v, w)

-- ---- one choice

module _ (t : ℕ) (earlier later : Cut) where
  pub better-later : larger_side t later < larger_side t earlier → later ≡ better_cut t earlier later
  unfolding better_cut
  better-later h = rw (lt-ltb _ _ h)

  pub better_earlier : larger_side t earlier ≤ larger_side t later → earlier ≡ better_cut t earlier later
  unfolding better_cut
  better_earlier h = rw (le-ltb _ _ h)

module _ (t : ℕ) (cut : Cut) where
  pub fits-none : cut.cells < 1 → false ≡ cut_fits t cut
  unfolding cut_fits
  fits-none h = rw (lt-leb _ _ h)

  pub fits_some : 1 ≤ cut.cells → leb (larger_side t cut) 4084 ≡ cut_fits t cut
  unfolding cut_fits
  fits_some h = rw (le-leb _ _ h)

-- ---- the walk

after-append : (t : ℕ) (h : Cutting) (xs ys : List ℕ) → cut_after t h (xs ++ ys) ≡ cut_after t (cut_after t h xs) ys
unfolding cut_after
after-append t h [] ys = refl
after-append t h (x ∷ xs) ys = after-append t (cut_step t h x) xs ys

module _ (t : ℕ) (pg : List ℕ) (at : ℕ) (here : Cutting) where
  pub cut_done : (n : ℕ) → n ≤ 0 → cut_after t here (sizes_of (cells_of pg n at)) ≡ here
  unfolding cells_of cut_after
  cut_done zero h = refl
  cut_done (suc n) h = absurd (omega arith)

  pub cut_bad : (n : ℕ) {r : Result Cell CellFault} {kind : CellFault} → r ≡ cell_at pg at → r ≡ Err kind → cut_after t here (sizes_of (cells_of pg n at)) ≡ here
  unfolding cells_of cut_after
  cut_bad zero e q = refl
  cut_bad (suc n) e q = rw (sym e ∙ q)

  cut_next : (n : ℕ) {r : Result Cell CellFault} {x : Cell} {y : Cutting} → r ≡ cell_at pg at → r ≡ Ok x → y ≡ cut_step t here (x.next - x.at)
      → cut_after t y (sizes_of (cells_of pg n x.next)) ≡ cut_after t here (sizes_of (cells_of pg (suc n) at))
  unfolding cells_of cut_after
  cut_next n e q w = rw (sym e ∙ q, w)

  -- of n cells i are passed
  pub cut_in : (n i : ℕ) {r : Result Cell CellFault} {x : Cell} {y : Cutting} → i < n → r ≡ cell_at pg at → r ≡ Ok x → y ≡ cut_step t here (x.next - x.at)
      → cut_after t y (sizes_of (cells_of pg (n - (i + 1)) x.next)) ≡ cut_after t here (sizes_of (cells_of pg (n - i) at))
  cut_in n i h e q w = let m : n - i ≡ suc (n - (i + 1)) = omega arith in rw m (cut_next (n - (i + 1)) e q w)

-- the walk goes forward, within the page
pub record Forward (pg : List ℕ) (at : ℕ) (x : Cell) : Type 0 where
  pub up : at ≤ x.next
  pub here : x.at ≡ at
  pub within : x.next ≤ length pg

pub forward : (pg : List ℕ) (at : ℕ) {r : Result Cell CellFault} {x : Cell} → r ≡ cell_at pg at → r ≡ Ok x → Forward pg at x
forward pg at {r} {x} e q =
    let p = cell_placed pg at x (sym e ∙ q) in
    record { up = omega (arith, p.past_head, p.whole); here = p.here; within = p.inside }

-- what is passed: no more than n cells and what is left of the page
pub record Passed (h r : Cutting) (n room : ℕ) : Type 0 where
  pub few : r.left.cells ≤ h.left.cells + n
  pub short : r.left.bytes ≤ h.left.bytes + room

pub step-passed : (t : ℕ) (here : Cutting) (x : ℕ) {r : Cutting} → r ≡ cut_step t here x → Passed here r 1 x
unfolding cut_step
step-passed t here x e = rw e (record { few = omega arith; short = omega arith })

pub walk-passed : (t : ℕ) (pg : List ℕ) (n at : ℕ) (here : Cutting) {r : Cutting} → at ≤ length pg → r ≡ cut_after t here (sizes_of (cells_of pg n at)) → Passed here r n (length pg - at)
unfolding cells_of cut_after
walk-passed t pg zero at here h e = rw e (record { few = omega arith; short = omega arith })
walk-passed t pg (suc n) at here h e = rw e (by_read (cell_at pg at) refl (λ x l. walk-passed t pg n x.next (cut_step t here (x.next - x.at)) l refl))
  where
    by_read : (r : Result Cell CellFault) → cell_at pg at ≡ r
        → ((x : Cell) → x.next ≤ length pg
        → Passed (cut_step t here (x.next - x.at)) (cut_after t (cut_step t here (x.next - x.at)) (sizes_of (cells_of pg n x.next))) n (length pg - x.next))
        → Passed here (cut_after t here (sizes_of (on_cell (λ x. x ∷ cells_of pg n x.next) (λ kind. []) r))) (suc n) (length pg - at)
    by_read (Err kind) q ih = record { few = omega arith; short = omega arith }
    by_read (Ok x) q ih =
        let f = forward pg at {r = cell_at pg at} refl q in
        let i = ih x f.within in
        let s = step-passed t here (x.next - x.at) refl in
        record { few = omega arith; short = omega (arith, f.up, f.here, f.within) }

pub leaf_cut : (t before b after m : ℕ) (pg : List ℕ) {first there last : Cutting} → first ≡ cut_after t uncut (sizes_of (cells_of pg before 12)) → there ≡ cut_step t first m
    → last ≡ cut_after t there (sizes_of (cells_of pg after b)) → last.best ≡ cut_leaf pg t before b after m
unfolding cut_leaf cut_of cut_after
leaf_cut t before b after m pg {first} {there} {last} e₁ e₂ e₃ =
    ap (λ (h : Cutting). h.best)
    {y = cut_after t uncut (sizes_of (cells_of pg before 12) ++ (m ∷ sizes_of (cells_of pg after b)))}
    (e₃ ∙ rw (e₂, e₁) (sym (after-append t uncut (sizes_of (cells_of pg before 12)) (m ∷ sizes_of (cells_of pg after b)))))
