-- Lists whose members all have a property, and lists with no number twice.
-- Assumes nothing.
use mathlib.Core.Path.{◌≡◌, refl, sym}
use mathlib.Core.Bool.{Bool, true, false, ◌||◌, false≢true}
use mathlib.Core.List.{List, [], ◌∷◌, ◌++◌}
use Prim.Native.Nat.{ℕ, ◌<◌}
use native.Mathlib.Omega.{arith}
use lib.Dec.{eqb}
use borrow.Author.Tests.{eqb-false, ne_eqb}
use Rattle.mvcc.specs.Lists.{mem}
use Rattle.theory_tree.specs.Shape.{All, NoneTwice}

module _ {A : Type 0} (P : A → Type 0) where
  pub all_app : (xs ys : List A) → All P xs → All P ys → All P (xs ++ ys)
  all_app [] ys h g = g
  all_app (x ∷ xs) ys h g = (h.0, all_app xs ys h.1 g)

  pub all_left : (xs ys : List A) → All P (xs ++ ys) → All P xs
  all_left [] ys h = tt
  all_left (x ∷ xs) ys h = (h.0, all_left xs ys h.1)

  pub all_right : (xs ys : List A) → All P (xs ++ ys) → All P ys
  all_right [] ys h = h
  all_right (x ∷ xs) ys h = all_right xs ys h.1

pub all_map : {A : Type 0} (P Q : A → Type 0) → ((x : A) → P x → Q x) → (xs : List A) → All P xs → All Q xs
all_map P Q f [] h = tt
all_map P Q f (x ∷ xs) h = (f x h.0, all_map P Q f xs h.1)

-- NoneTwice and ++
pub nd_left : (xs ys : List ℕ) → NoneTwice (xs ++ ys) → NoneTwice xs
nd_left [] ys h = tt
nd_left (x ∷ xs) ys h = (all_left (λ y. x ≡ y → ⊥) xs ys h.0, nd_left xs ys h.1)

pub nd_right : (xs ys : List ℕ) → NoneTwice (xs ++ ys) → NoneTwice ys
nd_right [] ys h = h
nd_right (x ∷ xs) ys h = nd_right xs ys h.1

-- x does not stand in l
abbrev pub Out : ℕ → List ℕ → Type 0
Out x l = All (λ y. x ≡ y → ⊥) l

-- the two parts of a list with no number twice are apart
pub nd_apart : (xs ys : List ℕ) → NoneTwice (xs ++ ys) → All (λ x. Out x ys) xs
nd_apart [] ys h = tt
nd_apart (x ∷ xs) ys h = (all_right (λ y. x ≡ y → ⊥) xs ys h.0, nd_apart xs ys h.1)

pub nd_join : (xs ys : List ℕ) → NoneTwice xs → NoneTwice ys → All (λ x. Out x ys) xs → NoneTwice (xs ++ ys)
nd_join [] ys h g a = g
nd_join (x ∷ xs) ys h g a = (all_app (λ y. x ≡ y → ⊥) xs ys h.0 a.0, nd_join xs ys h.1 g a.1)

pub out_fresh : (u : ℕ) (l : List ℕ) → All (λ p. p < u) l → Out u l
out_fresh u [] h = tt
out_fresh u (x ∷ xs) h = ((λ e. let l : x < u = h.0 in omega arith), out_fresh u xs h.1)

-- the same as a test
pub mem-out : (x : ℕ) (l : List ℕ) → mem x l ≡ false → Out x l
unfolding mem
mem-out x [] e = tt
mem-out x (y ∷ ys) e = by_test (eqb y x) refl e (mem-out x ys)
  where
    by_test : (b : Bool) → eqb y x ≡ b → (b || mem x ys) ≡ false → (mem x ys ≡ false → Out x ys) → Out x (y ∷ ys)
    by_test true t q ih = absurd (false≢true (sym q))
    by_test false t q ih = ((λ z. eqb-false y x t (sym z)), ih q)

pub out-mem : (x : ℕ) (l : List ℕ) → Out x l → mem x l ≡ false
unfolding mem
out-mem x [] h = refl
out-mem x (y ∷ ys) h = rw (ne_eqb y x (λ z. h.0 (sym z))) (out-mem x ys h.1)
