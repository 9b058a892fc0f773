-- The number of versions of a key is told by its arrivals alone.
-- Assumes nothing.
use mathlib.Core.Path.{◌≡◌, refl, sym, ap, ◌∙◌, subst}
use mathlib.Core.Bool.{Bool, true, false, ◌&&◌}
use Rattle.store.specs.Pick.{pick}
use Rattle.leaf.specs.Rows.{Row, only, of_key}
use Rattle.theory_tree.specs.Versions.{arrivals}
use mathlib.Core.List.{List, [], ◌∷◌, ◌++◌, nil≢cons, tail-eq_of_cons-eq, head-eq_of_cons-eq}
use Prim.Native.Nat.{ℕ, suc}
use native.Mathlib.Omega.{arith}
use lib.ListN.{length, length-append}
use lib.Dec.{eqb}
use borrow.Author.Tests.{eq-eqb, eqb-true}
use Rattle.leaf.proofs.Filtering.{filt_app}

abbrev pub cr : ℕ → List Row → List Row
cr c l = only (λ x. eqb x.creator c) l

pub ver_cr : (k c : ℕ) (l : List Row) → arrivals k c l ≡ cr c (only (of_key k) l)
ver_cr k c [] = refl
ver_cr k c (x ∷ xs) = go (eqb x.key k) refl (eqb x.creator c) refl (ver_cr k c xs)
  where
    go : (a : Bool) → eqb x.key k ≡ a → (b : Bool) → eqb x.creator c ≡ b → arrivals k c xs ≡ cr c (only (of_key k) xs)
        → pick (a && b) (x ∷ arrivals k c xs) (arrivals k c xs) ≡ cr c (pick a (x ∷ only (of_key k) xs) (only (of_key k) xs))
    go true ea true eb i = rw (eb, i)
    go true ea false eb i = rw eb i
    go false ea b eb i = i

pub record Split (c : ℕ) (x : Row) (l : List Row) : Type 0 where
  pub pre : List Row
  pub post : List Row
  pub is : l ≡ pre ++ (x ∷ post)
  pub free : cr c pre ≡ []

pub split_first : (c : ℕ) (x : Row) (r l : List Row) → cr c l ≡ x ∷ r → Split c x l
split_first c x r [] e = absurd (nil≢cons e)
split_first c x r (y ∷ l) e = go (eqb y.creator c) refl (split_first c x r l)
  where
    go : (b : Bool) → eqb y.creator c ≡ b → (cr c l ≡ x ∷ r → Split c x l) → Split c x (y ∷ l)
    go true q i = record { pre = []; post = l; is = ap (λ z. z ∷ l) (head-eq_of_cons-eq (rw q at e)); free = refl }
    go false q i = let s : Split c x l = i (rw q at e) in
        record { pre = y ∷ s.pre; post = s.post; is = ap (λ m. y ∷ m) s.is; free = rw q s.free }

pub length-same : (l m : List Row) → ((c : ℕ) → cr c l ≡ cr c m) → length l ≡ length m
length-same [] [] e = refl
length-same [] (y ∷ m) e = absurd (let z : [] ≡ y ∷ cr y.creator m = e y.creator ∙ rw (eq-eqb y.creator y.creator refl) in nil≢cons z)
length-same (x ∷ l) m e = go (split_first x.creator x (cr x.creator l) m own) (length-same l)
  where
    own : cr x.creator m ≡ x ∷ cr x.creator l
    own = sym (e x.creator) ∙ rw (eq-eqb x.creator x.creator refl)

    go : Split x.creator x m → ((n : List Row) → ((c : ℕ) → cr c l ≡ cr c n) → length l ≡ length n) → suc (length l) ≡ length m
    go s i =
        let each_c : (c : ℕ) → cr c l ≡ cr c (s.pre ++ s.post) = λ c. one c (eqb x.creator c) refl in
        ap suc (i (s.pre ++ s.post) each_c) ∙ count
      where
        count : suc (length (s.pre ++ s.post)) ≡ length m
        count = omega (arith, length-append s.pre s.post, length-append s.pre (x ∷ s.post), ap length s.is)

        one : (c : ℕ) (b : Bool) → eqb x.creator c ≡ b → cr c l ≡ cr c (s.pre ++ s.post)
        one c true q =
            let h : x.creator ≡ c = eqb-true x.creator c q in
            let f : cr c s.pre ≡ [] = subst (λ d. cr d s.pre ≡ []) h s.free in
            let g : x ∷ cr c l ≡ x ∷ cr c s.post =
            sym (subst (λ d. cr d m ≡ x ∷ cr d l) h own) ∙ ap (cr c) s.is ∙ filt_app (λ z. eqb z.creator c) s.pre (x ∷ s.post) ∙ rw (f, q) in
            tail-eq_of_cons-eq g ∙ sym (filt_app (λ z. eqb z.creator c) s.pre s.post ∙ rw f)
        one c false q =
            sym (rw q) ∙ e c ∙ ap (cr c) s.is ∙ filt_app (λ z. eqb z.creator c) s.pre (x ∷ s.post) ∙ rw q (sym (filt_app (λ z. eqb z.creator c) s.pre s.post))

pub count_same : (k : ℕ) (l m : List Row) → ((c : ℕ) → arrivals k c l ≡ arrivals k c m) → length (only (of_key k) l) ≡ length (only (of_key k) m)
count_same k l m e = length-same (only (of_key k) l) (only (of_key k) m) (λ c. sym (ver_cr k c l) ∙ e c ∙ ver_cr k c m)
