-- The last row that a test accepts, changed or looked for, seen through the versions of one key and creator.
-- Assumes nothing.
use Rattle.std.proofs.Common.{Option, None, Some}
use mathlib.Core.Path.{◌≡◌, refl, sym, ap, ◌∙◌}
use mathlib.Core.Bool.{Bool, true, false, ◌&&◌, ◌||◌}
use mathlib.Core.List.{List, [], ◌∷◌}
use Prim.Native.Nat.{ℕ}
use Rattle.store.specs.Pick.{pick}
use Rattle.leaf.specs.Rows.{Row, only, of_key}
use Rattle.leaf_edit.specs.EditFacts.{stamp_row}
use Rattle.theory_tree.specs.Versions.{of_version, arrivals, or_else, when, last_of}
use Rattle.meaning.specs.Meant.{some_of, change_last}
use Rattle.theory_tree.proofs.Abs.{some?, some_same, wit_some}

-- the theory of trees calls it `some?`
pub some_is : (p : Row → Bool) (l : List Row) → some_of p l ≡ some? p l
some_is p [] = refl
some_is p (x ∷ xs) = ap (λ b. p x || b) (some_is p xs)

pub some_only : (g p : Row → Bool) (l : List Row) → some_of (λ x. g x && p x) l ≡ some_of p (only g l)
some_only g p [] = refl
some_only g p (x ∷ xs) = go (g x) (some_only g p xs)
  where
    go : (a : Bool) → some_of (λ x. g x && p x) xs ≡ some_of p (only g xs)
        → (a && p x) || some_of (λ x. g x && p x) xs ≡ some_of p (pick a (x ∷ only g xs) (only g xs))
    go true i = ap (λ b. p x || b) i
    go false i = i

-- some version of the key has p: told by the versions of the key alone
pub some_alike : (p : Row → Bool) (k : ℕ) (l m : List Row) → ((c : ℕ) → arrivals k c l ≡ arrivals k c m)
    → some_of (λ x. of_key k x && p x) l ≡ some_of (λ x. of_key k x && p x) m
some_alike p k l m e =
    some_only (of_key k) p l ∙ some_is p (only (of_key k) l) ∙ some_same p k l m e ∙ sym (some_only (of_key k) p m ∙ some_is p (only (of_key k) m))

pub some_version : (p : Row → Bool) (k c : ℕ) (l : List Row) → some_of p (arrivals k c l) ≡ true → some_of (λ x. of_key k x && p x) l ≡ true
some_version p k c l h =
    some_only (of_key k) p l ∙ some_is p (only (of_key k) l) ∙ wit_some p k c l (sym (some_is p (arrivals k c l)) ∙ h)

-- ---- changed

pub change_none : (v : Row → Bool) (f : Row → Row) (l : List Row) → some_of v l ≡ false → change_last v f l ≡ l
change_none v f [] e = refl
change_none v f (x ∷ xs) e = go (v x) (some_of v xs) e
  where
    go : (a b : Bool) → a || b ≡ false → pick b (x ∷ change_last v f xs) (pick a (f x ∷ xs) (x ∷ xs)) ≡ x ∷ xs
    go true b e = absurd (cc)
    go false true e = absurd (cc)
    go false false e = refl

module _ (d k c : ℕ) (s : Row → Bool) where
  -- in the versions of its key and creator it is the last that s accepts
  pub change_own : (l : List Row) → arrivals k c (change_last (λ x. of_version k c x && s x) (stamp_row d) l) ≡ change_last s (stamp_row d) (arrivals k c l)
  change_own [] = refl
  change_own (x ∷ xs) =
      rw (some_only (of_version k c) s xs) (go (of_version k c x) refl (some_of s (arrivals k c xs)) refl (s x) refl (change_own xs))
    where
      go : (a : Bool) → of_version k c x ≡ a → (b : Bool) → some_of s (arrivals k c xs) ≡ b → (e : Bool) → s x ≡ e
          → arrivals k c (change_last (λ x. of_version k c x && s x) (stamp_row d) xs) ≡ change_last s (stamp_row d) (arrivals k c xs)
          → arrivals k c (pick b (x ∷ change_last (λ x. of_version k c x && s x) (stamp_row d) xs) (pick (a && e) (stamp_row d x ∷ xs) (x ∷ xs)))
          ≡ change_last s (stamp_row d) (pick a (x ∷ arrivals k c xs) (arrivals k c xs))
      go true ea true eb e ee i = rw (ea, eb, i)
      go true ea false eb true ee i = rw (ea, eb, ee)
      go true ea false eb false ee i = rw (ea, eb, ee)
      go false ea true eb e ee i = rw ea i
      go false ea false eb e ee i = rw ea (sym (change_none s (stamp_row d) (arrivals k c xs) eb))

  -- and the versions of any other key or creator stay
  pub change_other : (i j : ℕ) → ((x : Row) → of_version k c x ≡ true → of_version i j x ≡ false)
      → (l : List Row) → arrivals i j (change_last (λ x. of_version k c x && s x) (stamp_row d) l) ≡ arrivals i j l
  change_other i j n [] = refl
  change_other i j n (x ∷ xs) = go (of_version k c x) refl (some_of (λ x. of_version k c x && s x) xs) (s x) (change_other i j n xs)
    where
      go : (a : Bool) → of_version k c x ≡ a → (b e : Bool)
          → arrivals i j (change_last (λ x. of_version k c x && s x) (stamp_row d) xs) ≡ arrivals i j xs
          → arrivals i j (pick b (x ∷ change_last (λ x. of_version k c x && s x) (stamp_row d) xs) (pick (a && e) (stamp_row d x ∷ xs) (x ∷ xs)))
          ≡ arrivals i j (x ∷ xs)
      go a ea true e h = rw h
      go true ea false true h = rw (n x ea)
      go true ea false false h = refl
      go false ea false e h = refl

-- ---- looked for

pub last-seen : (v : Row → Bool) (y : Row) (l : List Row) → last_of v l ≡ Some y → v y ≡ true
last-seen v y [] h = absurd (cc)
last-seen v y (x ∷ xs) h = go (last_of v xs) refl (v x) refl (last-seen v y xs) h
  where
    go : (o : Option Row) → last_of v xs ≡ o → (b : Bool) → v x ≡ b → (last_of v xs ≡ Some y → v y ≡ true) → or_else o (when b x) ≡ Some y → v y ≡ true
    go (Some w) eo b eb i q = i (eo ∙ q)
    go None eo true eb i q = let xy : x ≡ y = cc in ap v (sym xy) ∙ eb
    go None eo false eb i q = absurd (cc)

-- a row that is found is there for any other test
pub last-there : (v w : Row → Bool) (y : Row) (l : List Row) → w y ≡ true → last_of v l ≡ Some y → some_of w l ≡ true
last-there v w y [] g h = absurd (cc)
last-there v w y (x ∷ xs) g h = go (last_of v xs) refl (v x) (w x) refl (last-there v w y xs g) h
  where
    go : (o : Option Row) → last_of v xs ≡ o → (b d : Bool) → w x ≡ d → (last_of v xs ≡ Some y → some_of w xs ≡ true)
        → or_else o (when b x) ≡ Some y → d || some_of w xs ≡ true
    go o eo b true ed i q = refl
    go (Some u) eo b false ed i q = i (eo ∙ q)
    go None eo true false ed i q =
        absurd (let xy : x ≡ y = cc in let t : false ≡ true = sym ed ∙ ap w xy ∙ g in cc)
    go None eo false false ed i q = absurd (cc)

pub last_some : (v : Row → Bool) (l : List Row) → last_of v l ≡ None → some_of v l ≡ false
last_some v [] h = refl
last_some v (x ∷ xs) h = go (last_of v xs) refl (v x) (last_some v xs) h
  where
    go : (o : Option Row) → last_of v xs ≡ o → (b : Bool) → (last_of v xs ≡ None → some_of v xs ≡ false) → or_else o (when b x) ≡ None → b || some_of v xs ≡ false
    go (Some u) eo b i q = absurd (cc)
    go None eo true i q = absurd (cc)
    go None eo false i q = i eo

-- two tests with the same last row: changed for the one, it is the other's last still, if that accepts the changed row
pub last-changed : (v w : Row → Bool) (f : Row → Row) (y : Row) (l : List Row) → w (f y) ≡ true → last_of v l ≡ Some y → last_of w l ≡ Some y
    → last_of w (change_last v f l) ≡ Some (f y)
last-changed v w f y [] g h k = absurd (cc)
last-changed v w f y (x ∷ xs) g h k =
    go (last_of v xs) refl (last_of w xs) refl (v x) (last-changed v w f y xs g) h k
  where
    vy : v y ≡ true
    vy = last-seen v y (x ∷ xs) h

    wy : w y ≡ true
    wy = last-seen w y (x ∷ xs) k

    go : (o : Option Row) → last_of v xs ≡ o → (u : Option Row) → last_of w xs ≡ u → (b : Bool)
        → (last_of v xs ≡ Some y → last_of w xs ≡ Some y → last_of w (change_last v f xs) ≡ Some (f y))
        → or_else o (when b x) ≡ Some y → or_else u (when (w x) x) ≡ Some y
        → last_of w (pick (some_of v xs) (x ∷ change_last v f xs) (pick b (f x ∷ xs) (x ∷ xs))) ≡ Some (f y)
    go (Some p) eo (Some q) eu b i a c =
        rw (last-there v v y xs vy (eo ∙ a)) (ap (λ o. or_else o (when (w x) x)) (i (eo ∙ a) (eu ∙ c)))
    go (Some p) eo None eu b i a c =
        absurd (let t : true ≡ false = sym (last-there v w y xs wy (eo ∙ a)) ∙ last_some w xs eu in cc)
    go None eo (Some q) eu b i a c =
        absurd (let t : true ≡ false = sym (last-there w v y xs vy (eu ∙ c)) ∙ last_some v xs eo in cc)
    go None eo None eu true i a c =
        let xy : x ≡ y = cc in
        rw (last_some v xs eo, eu, xy, g)
    go None eo None eu false i a c = absurd (cc)
