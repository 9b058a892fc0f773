-- What each call does to the arrivals of a key and creator, and that its choice depends on the arrivals of its key alone.
-- Assumes nothing.
use mathlib.Core.Path.{◌≡◌, refl, sym, ap, ◌∙◌}
use mathlib.Core.Bool.{Bool, true, false, ◌&&◌, ◌||◌, not}
use Rattle.store.specs.Pick.{pick}
use Rattle.leaf.specs.Rows.{Row, only, of_key}
use Rattle.theory_tree.specs.Shape.{All}
use Rattle.theory_tree.specs.Versions.{of_version, arrivals, or_else, when, last_of, merge, best}
use mathlib.Core.List.{List, [], ◌∷◌, ◌++◌, append_assoc, append-nil}
use Rattle.std.proofs.Common.{Option, None, Some}
use Prim.Native.Nat.{ℕ, ◌≤◌, ◌<◌}
use native.Mathlib.Omega.{arith}
use lib.Dec.{eqb, ltb}
use borrow.Author.Tests.{eq-eqb, ne_eqb, ltb-true, ltb-false, eqb-true}
use Rattle.leaf.proofs.Filtering.{filt_app}
use Rattle.theory_tree.proofs.Order.{filt_none}

-- insert: x goes behind all of its key and creator
pub ver_insert : (k c : ℕ) (x : Row) (pre post : List Row) → All (λ y. of_version x.key x.creator y ≡ false) post
    → arrivals k c (pre ++ (x ∷ post)) ≡ arrivals k c (pre ++ post) ++ pick (of_version k c x) (x ∷ []) []
ver_insert k c x pre post h =
    filt_app (of_version k c) pre (x ∷ post) ∙ go (eqb x.key k) refl (eqb x.creator c) refl
    ∙ sym (ap (λ l. l ++ pick (of_version k c x) (x ∷ []) []) (filt_app (of_version k c) pre post)
    ∙ append_assoc (arrivals k c pre) (arrivals k c post) (pick (of_version k c x) (x ∷ []) []))
  where
    miss : arrivals k c pre ++ arrivals k c post ≡ arrivals k c pre ++ (arrivals k c post ++ [])
    miss = rw append-nil

    go : (a : Bool) → eqb x.key k ≡ a → (b : Bool) → eqb x.creator c ≡ b
        → arrivals k c pre ++ only (of_version k c) (x ∷ post) ≡ arrivals k c pre ++ (arrivals k c post ++ pick (of_version k c x) (x ∷ []) [])
    go true ea true eb =
        let none : arrivals k c post ≡ [] = filt_none (of_version k c) post (rw (eqb-true x.key k ea, eqb-true x.creator c eb) at h) in
        rw (ea, eb, none)
    go true ea false eb = rw (ea, eb) miss
    go false ea b eb = rw ea miss

-- remove
pub ver_remove : (k k' c : ℕ) (l : List Row) → (k ≡ k' → ⊥) → arrivals k c (only (λ x. not (of_key k' x)) l) ≡ arrivals k c l
ver_remove k k' c [] h = refl
ver_remove k k' c (x ∷ xs) h = go (eqb x.key k') refl (ver_remove k k' c xs h)
  where
    go : (a : Bool) → eqb x.key k' ≡ a → arrivals k c (only (λ x. not (of_key k' x)) xs) ≡ arrivals k c xs
        → arrivals k c (pick (not (eqb x.key k')) (x ∷ only (λ x. not (of_key k' x)) xs) (only (λ x. not (of_key k' x)) xs)) ≡ arrivals k c (x ∷ xs)
    go true e i = let q : x.key ≡ k' = eqb-true x.key k' e in rw (e, ne_eqb x.key k (λ g. h (sym g ∙ q))) i
    go false e i = rw (e, i)

pub ver_removed : (k c : ℕ) (l : List Row) → arrivals k c (only (λ x. not (of_key k x)) l) ≡ []
ver_removed k c [] = refl
ver_removed k c (x ∷ xs) = go (eqb x.key k) refl (ver_removed k c xs)
  where
    go : (a : Bool) → eqb x.key k ≡ a → arrivals k c (only (λ x. not (of_key k x)) xs) ≡ []
        → arrivals k c (pick (not (eqb x.key k)) (x ∷ only (λ x. not (of_key k x)) xs) (only (λ x. not (of_key k x)) xs)) ≡ []
    go true e i = rw e i
    go false e i = rw (e, e) i

-- the choice, told by the arrivals of the key alone
abbrev pub Chosen : (Row → Bool) → ℕ → List Row → Option Row → Type 0
Chosen v k l None = (c : ℕ) → last_of v (arrivals k c l) ≡ None
Chosen v k l (Some y) = (last_of v (arrivals k y.creator l) ≡ Some y) × ((c : ℕ) → y.creator < c → last_of v (arrivals k c l) ≡ None)

-- the arrivals with one more row in front
last_skip : (v : Row → Bool) (k c : ℕ) (x : Row) (xs : List Row) → of_key k x && v x ≡ false → last_of v (arrivals k c (x ∷ xs)) ≡ last_of v (arrivals k c xs)
last_skip v k c x xs = go (eqb x.key k) refl (eqb x.creator c) refl (v x) refl (last_of v (arrivals k c xs)) refl
  where
    go : (a : Bool) → eqb x.key k ≡ a → (b : Bool) → eqb x.creator c ≡ b → (d : Bool) → v x ≡ d → (o : Option Row) → last_of v (arrivals k c xs) ≡ o
        → a && d ≡ false → last_of v (arrivals k c (x ∷ xs)) ≡ last_of v (arrivals k c xs)
    go false ea b eb d ed o eo h = rw ea
    go true ea false eb d ed o eo h = rw (ea, eb)
    go true ea true eb true ed o eo h = absurd (let z : ◌≡◌ {A = ℕ} 0 1 = cc in omega arith)
    go true ea true eb false ed None eo h = rw (ea, eb, ed, eo)
    go true ea true eb false ed (Some y) eo h = rw (ea, eb, ed, eo)

last-other : (v : Row → Bool) (k c : ℕ) (x : Row) (xs : List Row) → (x.creator ≡ c → ⊥) → last_of v (arrivals k c (x ∷ xs)) ≡ last_of v (arrivals k c xs)
last-other v k c x xs h = go (eqb x.key k) refl
  where
    go : (a : Bool) → eqb x.key k ≡ a → last_of v (arrivals k c (x ∷ xs)) ≡ last_of v (arrivals k c xs)
    go true ea = rw (ea, ne_eqb x.creator c h)
    go false ea = rw ea

last_own : (v : Row → Bool) (k : ℕ) (x : Row) (xs : List Row) → of_key k x ≡ true → v x ≡ true
    → last_of v (arrivals k x.creator (x ∷ xs)) ≡ or_else (last_of v (arrivals k x.creator xs)) (Some x)
last_own v k x xs e f = rw (e, eq-eqb x.creator x.creator refl, f)

last-keep : (v : Row → Bool) (k c : ℕ) (x y : Row) (xs : List Row) → last_of v (arrivals k c xs) ≡ Some y → last_of v (arrivals k c (x ∷ xs)) ≡ Some y
last-keep v k c x y xs h = go (of_version k c x) refl
  where
    go : (a : Bool) → of_version k c x ≡ a → last_of v (arrivals k c (x ∷ xs)) ≡ Some y
    go true e = rw (e, h)
    go false e = rw e h

pub best_chosen : (v : Row → Bool) (k : ℕ) (l : List Row) → Chosen v k l (best v k l)
best_chosen v k [] = λ c. refl
best_chosen v k (x ∷ xs) = go (of_key k x) refl (v x) refl (best v k xs) (best_chosen v k xs)
  where
    go : (a : Bool) → of_key k x ≡ a → (b : Bool) → v x ≡ b → (o : Option Row) → Chosen v k xs o → Chosen v k (x ∷ xs) (merge o (when (a && b) x))
    go false ea b eb None h = λ c. last_skip v k c x xs (rw ea) ∙ h c
    go false ea b eb (Some y) h = (last_skip v k y.creator x xs (rw ea) ∙ h.0, λ c g. last_skip v k c x xs (rw ea) ∙ h.1 c g)
    go true ea false eb None h = λ c. last_skip v k c x xs (rw (ea, eb)) ∙ h c
    go true ea false eb (Some y) h = (last_skip v k y.creator x xs (rw (ea, eb)) ∙ h.0, λ c g. last_skip v k c x xs (rw (ea, eb)) ∙ h.1 c g)
    go true ea true eb None h =
        (last_own v k x xs ea eb ∙ ap (λ o. or_else o (Some x)) (h x.creator), λ c g. last-other v k c x xs (λ e. omega arith) ∙ h c)
    go true ea true eb (Some y) h = more (ltb y.creator x.creator) refl
      where
        more : (d : Bool) → ltb y.creator x.creator ≡ d → Chosen v k (x ∷ xs) (pick d (Some x) (Some y))
        more true ed = let g : y.creator < x.creator = ltb-true y.creator x.creator ed in
            (last_own v k x xs ea eb ∙ ap (λ o. or_else o (Some x)) (h.1 x.creator g), λ c l. last-other v k c x xs (λ e. omega arith) ∙ h.1 c (omega arith))
        more false ed = let g : x.creator ≤ y.creator = ltb-false y.creator x.creator ed in
            (last-keep v k y.creator x y xs h.0, λ c l. last-other v k c x xs (λ e. omega arith) ∙ h.1 c l)

-- and so determined by the arrivals of the key
pub chosen_same : (v : Row → Bool) (k : ℕ) (l l' : List Row) → ((c : ℕ) → arrivals k c l ≡ arrivals k c l') → (a b : Option Row) → Chosen v k l a
    → Chosen v k l' b → a ≡ b
chosen_same v k l l' e None None h g = refl
chosen_same v k l l' e None (Some y) h g = sym (h y.creator) ∙ ap (last_of v) (e y.creator) ∙ g.0
chosen_same v k l l' e (Some x) None h g = sym h.0 ∙ ap (last_of v) (e x.creator) ∙ g x.creator
chosen_same v k l l' e (Some x) (Some y) h g = go (ltb x.creator y.creator) refl (ltb y.creator x.creator) refl
  where
    go : (a : Bool) → ltb x.creator y.creator ≡ a → (b : Bool) → ltb y.creator x.creator ≡ b → Some x ≡ Some y
    go true ea b eb = absurd (none_some y (sym (h.1 y.creator (ltb-true x.creator y.creator ea)) ∙ ap (last_of v) (e y.creator) ∙ g.0))
      where
        none_some : (y : Row) → None ≡ Some y → ⊥
        none_some y q = let z : ◌≡◌ {A = ℕ} 0 1 = cc in omega arith
    go false ea true eb = absurd (none_some x (sym (g.1 x.creator (ltb-true y.creator x.creator eb)) ∙ ap (last_of v) (sym (e x.creator)) ∙ h.0))
      where
        none_some : (y : Row) → None ≡ Some y → ⊥
        none_some y q = let z : ◌≡◌ {A = ℕ} 0 1 = cc in omega arith
    go false ea false eb =
        let p : x.creator ≤ y.creator = ltb-false y.creator x.creator eb in
        let q : y.creator ≤ x.creator = ltb-false x.creator y.creator ea in
        let same : x.creator ≡ y.creator = omega arith in
        sym h.0 ∙ ap (last_of v) (ap (λ c. arrivals k c l) same ∙ e y.creator) ∙ g.0

pub best-same : (v : Row → Bool) (k : ℕ) (l l' : List Row) → ((c : ℕ) → arrivals k c l ≡ arrivals k c l') → best v k l ≡ best v k l'
best-same v k l l' e = chosen_same v k l l' e (best v k l) (best v k l') (best_chosen v k l) (best_chosen v k l')

-- some version of the key has p: told by the arrivals of the key alone
abbrev pub some? : (Row → Bool) → List Row → Bool
some? p [] = false
some? p (x ∷ xs) = p x || some? p xs

pub record Wit (p : Row → Bool) (k : ℕ) (l : List Row) : Type 0 where
  pub c : ℕ
  pub is : some? p (arrivals k c l) ≡ true

some_more : (p : Row → Bool) (k c : ℕ) (x : Row) (xs : List Row) → some? p (arrivals k c xs) ≡ true → some? p (arrivals k c (x ∷ xs)) ≡ true
some_more p k c x xs h = go (of_version k c x) refl (p x) refl
  where
    go : (a : Bool) → of_version k c x ≡ a → (b : Bool) → p x ≡ b → some? p (arrivals k c (x ∷ xs)) ≡ true
    go true e true f = rw (e, f)
    go true e false f = rw (e, f) h
    go false e b f = rw e h

pub some_wit : (p : Row → Bool) (k : ℕ) (l : List Row) → some? p (only (of_key k) l) ≡ true → Wit p k l
some_wit p k [] h = absurd (let z : ◌≡◌ {A = ℕ} 0 1 = cc in omega arith)
some_wit p k (x ∷ xs) t = go (of_key k x) refl (p x) refl (some_wit p k xs) t
  where
    go : (a : Bool) → of_key k x ≡ a → (b : Bool) → p x ≡ b → (some? p (only (of_key k) xs) ≡ true → Wit p k xs)
        → some? p (pick a (x ∷ only (of_key k) xs) (only (of_key k) xs)) ≡ true → Wit p k (x ∷ xs)
    go true e true f i h = record { c = x.creator; is = rw (e, eq-eqb x.creator x.creator refl, f) }
    go true e false f i h = let r : Wit p k xs = i (rw f at h) in record { c = r.c; is = some_more p k r.c x xs r.is }
    go false e b f i h = let r : Wit p k xs = i h in record { c = r.c; is = some_more p k r.c x xs r.is }

pub wit_some : (p : Row → Bool) (k c : ℕ) (l : List Row) → some? p (arrivals k c l) ≡ true → some? p (only (of_key k) l) ≡ true
wit_some p k c [] h = h
wit_some p k c (x ∷ xs) t = go (of_key k x) refl (eqb x.creator c) refl (p x) refl (wit_some p k c xs) t
  where
    go : (a : Bool) → of_key k x ≡ a → (b : Bool) → eqb x.creator c ≡ b → (d : Bool) → p x ≡ d
        → (some? p (arrivals k c xs) ≡ true → some? p (only (of_key k) xs) ≡ true)
        → some? p (pick (a && b) (x ∷ arrivals k c xs) (arrivals k c xs)) ≡ true → some? p (pick a (x ∷ only (of_key k) xs) (only (of_key k) xs)) ≡ true
    go true e true f true q i h = rw q
    go true e true f false q i h = rw q (i (rw q at h))
    go true e false f true q i h = rw q
    go true e false f false q i h = rw q (i h)
    go false e b f d q i h = i h

pub some_same : (p : Row → Bool) (k : ℕ) (l l' : List Row) → ((c : ℕ) → arrivals k c l ≡ arrivals k c l') → some? p (only (of_key k) l) ≡ some? p (only (of_key k) l')
some_same p k l l' e = go (some? p (only (of_key k) l)) refl (some? p (only (of_key k) l')) refl
  where
    over : (m m' : List Row) → ((c : ℕ) → arrivals k c m ≡ arrivals k c m') → some? p (only (of_key k) m) ≡ true → some? p (only (of_key k) m') ≡ true
    over m m' q h = let r : Wit p k m = some_wit p k m h in wit_some p k r.c m' (rw (q r.c) at r.is)

    go : (a : Bool) → some? p (only (of_key k) l) ≡ a → (b : Bool) → some? p (only (of_key k) l') ≡ b → a ≡ b
    go true ea true eb = refl
    go true ea false eb = sym (over l l' e ea) ∙ eb
    go false ea true eb = sym ea ∙ over l' l (λ c. sym (e c)) eb
    go false ea false eb = refl
