-- The rows that a test keeps. Assumes nothing.
use mathlib.Core.Path.{◌≡◌, refl, ap}
use mathlib.Core.Bool.{Bool, true, false, not}
use mathlib.Core.List.{List, [], ◌∷◌, ◌++◌}
use Prim.Native.Nat.{◌≤◌}
use native.Mathlib.Omega.{arith}
use lib.ListN.{length}
use Rattle.store.specs.Pick.{pick}
use Rattle.leaf.specs.Rows.{Row, AllFit, rows_bytes, only}
use Rattle.leaf.proofs.Rowing.{length-rows}

module _ (f : Row → Bool) where
  pub filt_app : (a b : List Row) → only f (a ++ b) ≡ only f a ++ only f b
  filt_app [] b = refl
  filt_app (x ∷ xs) b = by_test (f x) (filt_app xs b)
    where
      by_test : (c : Bool) → only f (xs ++ b) ≡ only f xs ++ only f b
          → pick c (x ∷ only f (xs ++ b)) (only f (xs ++ b)) ≡ pick c (x ∷ only f xs) (only f xs) ++ only f b
      by_test true i = ap (λ r. x ∷ r) i
      by_test false i = i

  -- where it keeps none, its opposite keeps all
  pub only-others : (rs : List Row) → length (only f rs) ≡ 0 → only (λ r. not (f r)) rs ≡ rs
  only-others [] h = refl
  only-others (r ∷ rs) h = by_test (f r) h (only-others rs)
    where
      by_test : (b : Bool) → length (pick b (r ∷ only f rs) (only f rs)) ≡ 0 → (length (only f rs) ≡ 0 → only (λ x. not (f x)) rs ≡ rs)
          → pick (not b) (r ∷ only (λ x. not (f x)) rs) (only (λ x. not (f x)) rs) ≡ r ∷ rs
      by_test true z i = absurd (omega arith)
      by_test false z i = ap (λ l. r ∷ l) (i z)

  pub only-fits : (rs : List Row) → AllFit rs → AllFit (only f rs)
  only-fits [] h = tt
  only-fits (r ∷ rs) h = by_test (f r) (only-fits rs h.1)
    where
      by_test : (b : Bool) → AllFit (only f rs) → AllFit (pick b (r ∷ only f rs) (only f rs))
      by_test true i = (h.0, i)
      by_test false i = i

  pub only_short : (rs : List Row) → length (rows_bytes (only f rs)) ≤ length (rows_bytes rs)
  only_short [] = omega arith
  only_short (r ∷ rs) = by_test (f r) (only_short rs)
    where
      by_test : (b : Bool) → length (rows_bytes (only f rs)) ≤ length (rows_bytes rs) → length (rows_bytes (pick b (r ∷ only f rs) (only f rs))) ≤ length (rows_bytes (r ∷ rs))
      by_test true i = omega (arith, length-rows r rs, length-rows r (only f rs))
      by_test false i = omega (arith, length-rows r rs)
