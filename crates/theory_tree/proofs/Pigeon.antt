-- A well-formed tree has at most as many pages as are in use: the fuel of every walk.
-- Assumes nothing.
use mathlib.Core.Path.{◌≡◌, refl, sym, subst}
use mathlib.Core.Bool.{Bool, true, false}
use Rattle.store.specs.Pick.{pick}
use Rattle.theory_tree.specs.Shape.{Shape, leaf, node, pair, pages_in, All, NoneTwice}
use mathlib.Core.List.{List, [], ◌∷◌, ◌++◌}
use Prim.Native.Nat.{ℕ, zero, suc, ◌+◌, ◌≤◌, ◌<◌}
use native.Mathlib.Omega.{arith}
use native.Mathlib.Nat.{le_refl}
use lib.ListN.{length, length-append}
use lib.Dec.{eqb, leb}
use borrow.Author.Tests.{ne_eqb, eqb-true, eqb-false}
use Rattle.theory_tree.proofs.Contexts.{Ctx, in_l, in_r, under}
use Rattle.theory_tree.proofs.Lists.{Out}
use Rattle.theory_tree.proofs.Walk.{locs, froms}

abbrev del : ℕ → List ℕ → List ℕ
del n [] = []
del n (x ∷ xs) = pick (eqb x n) (del n xs) (x ∷ del n xs)

del_out : (n : ℕ) (l : List ℕ) → Out n l → del n l ≡ l
del_out n [] o = refl
del_out n (x ∷ xs) o = rw (ne_eqb x n (λ e. o.0 (sym e)), del_out n xs o.1)

del_length : (n : ℕ) (l : List ℕ) → NoneTwice l → length l ≤ suc (length (del n l))
del_length n [] d = omega arith
del_length n (x ∷ xs) d = go (eqb x n) refl (del_length n xs d.1)
  where
    go : (b : Bool) → eqb x n ≡ b → length xs ≤ suc (length (del n xs)) → suc (length xs) ≤ suc (length (pick b (del n xs) (x ∷ del n xs)))
    go true e i = rw (del_out n xs (subst (λ z. Out z xs) (eqb-true x n e) d.0)) (le_refl (suc (length xs)))
    go false e i = omega arith

del_all : (P : ℕ → Type 0) (n : ℕ) (l : List ℕ) → All P l → All P (del n l)
del_all P n [] h = tt
del_all P n (x ∷ xs) h = go (eqb x n) (del_all P n xs h.1)
  where
    go : (b : Bool) → All P (del n xs) → All P (pick b (del n xs) (x ∷ del n xs))
    go true i = i
    go false i = (h.0, i)

del_nodup : (n : ℕ) (l : List ℕ) → NoneTwice l → NoneTwice (del n l)
del_nodup n [] d = tt
del_nodup n (x ∷ xs) d = go (eqb x n) (del_nodup n xs d.1)
  where
    go : (b : Bool) → NoneTwice (del n xs) → NoneTwice (pick b (del n xs) (x ∷ del n xs))
    go true i = i
    go false i = (del_all (λ y. x ≡ y → ⊥) n xs d.0, i)

del_below : (n : ℕ) (l : List ℕ) → All (λ p. p < suc n) l → All (λ p. p < n) (del n l)
del_below n [] h = tt
del_below n (x ∷ xs) h = go (eqb x n) refl (del_below n xs h.1)
  where
    go : (b : Bool) → eqb x n ≡ b → All (λ p. p < n) (del n xs) → All (λ p. p < n) (pick b (del n xs) (x ∷ del n xs))
    go true e i = i
    go false e i = (let q : x ≡ n → ⊥ = eqb-false x n e in let l : x < suc n = h.0 in omega arith, i)

pub pigeon : (n : ℕ) (l : List ℕ) → NoneTwice l → All (λ p. p < n) l → length l ≤ n
pigeon zero [] d h = le_refl 0
pigeon zero (x ∷ xs) d h = absurd (let l : x < 0 = h.0 in omega arith)
pigeon (suc n) l d h =
    let i : length (del n l) ≤ n = pigeon n (del n l) (del_nodup n l d) (del_below n l h) in let j : length l ≤ suc (length (del n l)) = del_length n l d in omega arith

pub locs_count : (t : Shape) (c : Ctx) → length (locs t c) ≤ length (pages_in t)
locs_count (leaf p cs) c = le_refl 1
locs_count (node p f) c = let i : length (locs f (under p c)) ≤ length (pages_in f) = locs_count f (under p c) in omega arith
locs_count (pair a k b) c =
    let i = locs_count a (in_l k b c) in let j = locs_count b (in_r a k c) in
    omega (arith, length-append (locs a (in_l k b c)) (locs b (in_r a k c)), length-append (pages_in a) (pages_in b))

pub froms_count : (k : ℕ) (t : Shape) (c : Ctx) → length (froms k t c) ≤ length (pages_in t)
froms_count k (leaf p cs) c = le_refl 1
froms_count k (node p f) c = let i : length (froms k f (under p c)) ≤ length (pages_in f) = froms_count k f (under p c) in omega arith
froms_count k (pair a s b) c = go (leb k s) (froms_count k a (in_l s b c)) (froms_count k b (in_r a s c))
  where
    total : length (pages_in a ++ pages_in b) ≡ length (pages_in a) + length (pages_in b)
    total = length-append (pages_in a) (pages_in b)

    go : (x : Bool) → length (froms k a (in_l s b c)) ≤ length (pages_in a) → length (froms k b (in_r a s c)) ≤ length (pages_in b)
        → length (pick x (froms k a (in_l s b c) ++ locs b (in_r a s c)) (froms k b (in_r a s c))) ≤ length (pages_in a ++ pages_in b)
    go true i j = omega (arith, total, length-append (froms k a (in_l s b c)) (locs b (in_r a s c)), locs_count b (in_r a s c))
    go false i j = omega (arith, total)
