-- Two walks that start from related logs end alike, whatever the relation is that every added page keeps. Assumes nothing.
use Rattle.std.proofs.Common.{Option, Some, None, Result, Ok, Err}
use Rattle.row.specs.declared.Fault.{Fault}
use mathlib.Core.Path.{◌≡◌, refl}
use mathlib.Core.Bool.{Bool}
use mathlib.Core.List.{List, [], ◌∷◌, ◌++◌}
use Prim.Native.Nat.{ℕ, zero, suc, ◌<◌}
use Rattle.page.specs.Page.{page}
use Rattle.inner.specs.Inner.{child_at}
use Rattle.list_pages.specs.Numbers.{top_at, on_top, on_told, visit_kids, visiting}
use Rattle.list_pages.proofs.Tops.{page-is, top_same}

-- the same fault, or related logs
abbrev pub Alike : {L M : Type 0} → (L → M → Type 0) → Result L Fault → Result M Fault → Type 0
Alike R (Ok l) (Ok m) = R l m
Alike R (Ok l) (Err g) = ⊥
Alike R (Err f) (Ok m) = ⊥
Alike R (Err f) (Err g) = f ≡ g

module _ {L M : Type 0} (R : L → M → Type 0) where
  kids_alike : (f : L → ℕ → Result L Fault) (g : M → ℕ → Result M Fault) → ((l : L) (m : M) (q : ℕ) → R l m → Alike R (f l q) (g m q)) → (j : ℕ) (pg : List ℕ) (l : L) (m : M)
      → R l m → Alike R (visit_kids pg f j l) (visit_kids pg g j m)
  unfolding visit_kids
  kids_alike f g h zero pg l m r = r
  kids_alike f g h (suc j) pg l m r = by_told (f l (child_at pg j)) (g m (child_at pg j)) (h l m (child_at pg j) r) (λ a b. kids_alike f g h j pg a b)
    where
      by_told : (t : Result L Fault) (u : Result M Fault) → Alike R t u → ((a : L) (b : M) → R a b → Alike R (visit_kids pg f j a) (visit_kids pg g j b))
          → Alike R (on_told (λ a. visit_kids pg f j a) (λ e. Err e) t) (on_told (λ b. visit_kids pg g j b) (λ e. Err e) u)
      by_told (Ok a) (Ok b) x k = k a b x
      by_told (Ok a) (Err e) x k = absurd x
      by_told (Err d) (Ok b) x k = absurd x
      by_told (Err d) (Err e) x k = x

  module _ (has₁ : L → ℕ → Bool) (add₁ : ℕ → L → L) (has₂ : M → ℕ → Bool) (add₂ : ℕ → M → M) (used : ℕ) (s : List ℕ)
      (same : (l : L) (m : M) (q : ℕ) → R l m → q < used → has₁ l q ≡ has₂ m q) (kept : (l : L) (m : M) (q : ℕ) → R l m → q < used → R (add₁ q l) (add₂ q m))
    where
      pub visit_alike : (k : ℕ) (up : List ℕ) (l : L) (m : M) (p : ℕ) → R l m → Alike R (visiting s used has₁ add₁ k up l p) (visiting s used has₂ add₂ k up m p)
      unfolding visiting
      visit_alike zero up l m p r =
          rw (top_same 0 used s up (has₁ l p) (has₂ m p) p (same l m p r)) (by_top (top_at s used 0 up (has₂ m p) p) refl)
        where
          by_top : (t : Result (Option ℕ) Fault) → t ≡ top_at s used 0 up (has₂ m p) p
              → Alike R (on_top (λ j. Ok (add₁ p l)) (Ok l) (λ f. Err f) t) (on_top (λ j. Ok (add₂ p m)) (Ok m) (λ f. Err f) t)
          by_top (Ok (Some j)) e = kept l m p r (page-is 0 used s up (has₂ m p) p e refl).in_use
          by_top (Ok None) e = r
          by_top (Err f) e = refl
      visit_alike (suc k) up l m p r =
          rw (top_same (suc k) used s up (has₁ l p) (has₂ m p) p (same l m p r))
          (by_top (top_at s used (suc k) up (has₂ m p) p) refl
          (kids_alike (visiting s used has₁ add₁ k (up ++ (p ∷ []))) (visiting s used has₂ add₂ k (up ++ (p ∷ []))) (λ a b q. visit_alike k (up ++ (p ∷ [])) a b q)))
        where
          kids₁ : ℕ → List ℕ → L → Result L Fault
          kids₁ j pg a = visit_kids pg (visiting s used has₁ add₁ k (up ++ (p ∷ []))) j a

          kids₂ : ℕ → List ℕ → M → Result M Fault
          kids₂ j pg b = visit_kids pg (visiting s used has₂ add₂ k (up ++ (p ∷ []))) j b

          by_top : (t : Result (Option ℕ) Fault) → t ≡ top_at s used (suc k) up (has₂ m p) p → ((j : ℕ) (pg : List ℕ) (a : L) (b : M) → R a b → Alike R (kids₁ j pg a) (kids₂ j pg b))
              → Alike R (on_top (λ j. kids₁ j (page s p) (add₁ p l)) (Ok l) (λ f. Err f) t) (on_top (λ j. kids₂ j (page s p) (add₂ p m)) (Ok m) (λ f. Err f) t)
          by_top (Ok (Some j)) e h = h j (page s p) (add₁ p l) (add₂ p m) (kept l m p r (page-is (suc k) used s up (has₂ m p) p e refl).in_use)
          by_top (Ok None) e h = r
          by_top (Err f) e h = refl
