-- Keys in order along the chain; search meets exactly the cells of its key.
-- Assumes nothing.
use mathlib.Core.Path.{◌≡◌, refl, sym, ap, ◌∙◌}
use mathlib.Core.Bool.{Bool, true, false}
use Rattle.leaf.specs.Rows.{Row, only}
use Rattle.theory_tree.specs.Shape.{Shape, leaf, node, pair, chain, All, KeysIn, Bounded}
use mathlib.Core.List.{List, [], ◌∷◌, ◌++◌, append_assoc, append-nil}
use Prim.Native.Nat.{ℕ, ◌≤◌, ◌<◌}
use native.Mathlib.Omega.{arith}
use native.Mathlib.Nat.{le_trans}
use lib.Dec.{leb, ltb}
use borrow.Author.Tests.{leb-false, ltb-true}
use Rattle.theory_tree.proofs.Workers.{leaves, flat, from, larger}
use Rattle.theory_tree.proofs.Lists.{all_app, all_right, all_map}

pub btw_le : (lo hi : ℕ) (cs : List Row) → KeysIn lo hi cs → lo ≤ hi
btw_le lo hi [] h = h
btw_le lo hi (x ∷ xs) h = le_trans h.0 (btw_le x.key hi xs h.1)

pub btw_weak : (lo lo' hi : ℕ) (cs : List Row) → lo' ≤ lo → KeysIn lo hi cs → KeysIn lo' hi cs
btw_weak lo lo' hi [] l h = le_trans l h
btw_weak lo lo' hi (x ∷ xs) l h = (le_trans l h.0, h.1)

pub btw_app : (lo m hi : ℕ) (a b : List Row) → KeysIn lo m a → KeysIn m hi b → KeysIn lo hi (a ++ b)
btw_app lo m hi [] b h g = btw_weak m lo hi b h g
btw_app lo m hi (x ∷ xs) b h g = (h.0, btw_app x.key m hi xs b h.1 g)

pub btw_above : (lo hi : ℕ) (cs : List Row) → KeysIn lo hi cs → All (λ x. lo ≤ x.key) cs
btw_above lo hi [] h = tt
btw_above lo hi (x ∷ xs) h = (h.0, btw_above lo hi xs (btw_weak x.key lo hi xs h.0 h.1))

pub btw_below : (lo hi : ℕ) (cs : List Row) → KeysIn lo hi cs → All (λ x. x.key ≤ hi) cs
btw_below lo hi [] h = tt
btw_below lo hi (x ∷ xs) h = (btw_le x.key hi xs h.1, btw_below x.key hi xs h.1)

pub btw_right : (lo hi : ℕ) (a b : List Row) → KeysIn lo hi (a ++ b) → KeysIn lo hi b
btw_right lo hi [] b h = h
btw_right lo hi (x ∷ xs) b h = btw_weak x.key lo hi b h.0 (btw_right x.key hi xs b h.1)

-- the chain of a run in bounds is in order
pub bnd_chain : (lo hi : ℕ) (t : Shape) → Bounded lo hi t → KeysIn lo hi (chain t)
bnd_chain lo hi (leaf p cs) h = h.0
bnd_chain lo hi (node p f) h = bnd_chain lo hi f h
bnd_chain lo hi (pair a k b) h = btw_app lo k hi (chain a) (chain b) (bnd_chain lo k a h.0) (bnd_chain k hi b h.1)

pub bnd_le : (lo hi : ℕ) (t : Shape) → Bounded lo hi t → lo ≤ hi
bnd_le lo hi t h = btw_le lo hi (chain t) (bnd_chain lo hi t h)

pub flat_app : (a b : List (List Row)) → flat (a ++ b) ≡ flat a ++ flat b
flat_app [] b = refl
flat_app (l ∷ ls) b = ap (λ r. l ++ r) (flat_app ls b) ∙ sym (append_assoc l (flat ls) (flat b))

pub leaves_chain : (t : Shape) → flat (leaves t) ≡ chain t
leaves_chain (leaf p cs) = append-nil cs
leaves_chain (node p f) = leaves_chain f
leaves_chain (pair a k b) = rw (flat_app, leaves_chain a, leaves_chain b)

pub filt_none : (f : Row → Bool) (a : List Row) → All (λ x. f x ≡ false) a → only f a ≡ []
filt_none f [] h = refl
filt_none f (x ∷ xs) h = rw h.0 (filt_none f xs h.1)

-- what search skips is small
pub record Found (k : ℕ) (t : Shape) : Type 0 where
  pub pre : List Row
  pub small : All (λ x. x.key < k) pre
  pub all : chain t ≡ pre ++ flat (from k t)

pub found : (k lo hi : ℕ) (t : Shape) → Bounded lo hi t → Found k t
found k lo hi (leaf p cs) h = record { pre = []; small = tt; all = sym (append-nil cs) }
found k lo hi (node p f) h = let r : Found k f = found k lo hi f h in record { pre = r.pre; small = r.small; all = r.all }
found k lo hi (pair a s b) h = go (leb k s) refl (found k lo s a h.0) (found k s hi b h.1)
  where
    go : (c : Bool) → leb k s ≡ c → Found k a → Found k b → Found k (pair a s b)
    go true e ra rb = record {
      pre = ra.pre;
      small = ra.small;
      all = rw e (ap (λ l. l ++ chain b) ra.all ∙ append_assoc ra.pre (flat (from k a)) (chain b)
          ∙ ap (λ l. ra.pre ++ l) (ap (λ l. flat (from k a) ++ l) (sym (leaves_chain b)) ∙ sym (flat_app (from k a) (leaves b))));
    }
    go false e ra rb = record {
      pre = chain a ++ rb.pre;
      small = all_app (λ x. x.key < k) (chain a) rb.pre
          (all_map (λ x. x.key ≤ s) (λ x. x.key < k) (λ x l. let g : s < k = leb-false k s e in omega arith) (chain a)
          (btw_below lo s (chain a) (bnd_chain lo s a h.0)))
          rb.small;
      all = rw e (ap (λ l. chain a ++ l) rb.all ∙ sym (append_assoc (chain a) rb.pre (flat (from k b))));
    }

-- a leaf with a larger key ends the walk
pub larger_after : (k lo hi : ℕ) (l r : List Row) → KeysIn lo hi (l ++ r) → larger k l ≡ true → All (λ x. k < x.key) r
larger_after k lo hi (x ∷ xs) r h e = go (ltb k x.key) refl (larger_after k x.key hi xs r h.1)
  where
    go : (c : Bool) → ltb k x.key ≡ c → (larger k xs ≡ true → All (λ y. k < y.key) r) → All (λ y. k < y.key) r
    go true t i = all_map (λ y. x.key ≤ y.key) (λ y. k < y.key) (λ y m. let g : k < x.key = ltb-true k x.key t in omega arith) r
        (all_right (λ y. x.key ≤ y.key) xs r (btw_above x.key hi (xs ++ r) h.1))
    go false t i = i (rw t at e)
larger_after k lo hi [] r h e = absurd (let z : ◌≡◌ {A = ℕ} 0 1 = cc in omega arith)
