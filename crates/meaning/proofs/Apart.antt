-- Two changes of different keys, in either order: each is told what it is told alone, and the versions after both are the same.
-- Assumes nothing.
use mathlib.Core.Path.{◌≡◌, refl, sym, ◌∙◌}
use mathlib.Core.Bool.{Bool, true, false}
use mathlib.Core.List.{List}
use lib.Dec.{eqb}
use borrow.Author.Tests.{eqb-true, eqb-false}
use Rattle.leaf.specs.Rows.{Row}
use Rattle.theory_tree.specs.Versions.{arrivals, SameVersions}
use Rattle.meaning.specs.Change.{Change, key_of}
use Rattle.meaning.specs.Meant.{meant}
use Rattle.meaning.proofs.Local.{Alike, meant_alike, meant-keeps}

module _ (a b : Change) (apart : key_of a ≡ key_of b → ⊥) (l : List Row) where
  -- what a is told and does, after b or without it
  pub apart_alike : Alike (key_of a) (meant a (meant b l).rows) (meant a l)
  apart_alike = meant_alike a (meant b l).rows l (meant-keeps b l (key_of a) apart)

  pub meant-first : (meant a (meant b l).rows).number ≡ (meant a l).number
  meant-first = apart_alike.number

  pub meant-first-dropped : (meant a (meant b l).rows).dropped ≡ (meant a l).dropped
  meant-first-dropped = apart_alike.dropped

pub meant-apart : (a b : Change) → (key_of a ≡ key_of b → ⊥) → (l : List Row)
    → SameVersions (meant b (meant a l).rows).rows (meant a (meant b l).rows).rows
meant-apart a b n l k c = go (eqb k (key_of a)) refl (eqb k (key_of b)) refl
  where
    n' : key_of b ≡ key_of a → ⊥
    n' e = n (sym e)

    go : (x : Bool) → eqb k (key_of a) ≡ x → (y : Bool) → eqb k (key_of b) ≡ y
        → arrivals k c (meant b (meant a l).rows).rows ≡ arrivals k c (meant a (meant b l).rows).rows
    go true p y q = rw (eqb-true k (key_of a) p) (meant-keeps b (meant a l).rows (key_of a) n c ∙ sym ((apart_alike a b n l).rows c))
    go false p true q = rw (eqb-true k (key_of b) q) ((apart_alike b a n' l).rows c ∙ sym (meant-keeps a (meant b l).rows (key_of b) n' c))
    go false p false q =
        let na : k ≡ key_of a → ⊥ = eqb-false k (key_of a) p in
        let nb : k ≡ key_of b → ⊥ = eqb-false k (key_of b) q in
        meant-keeps b (meant a l).rows k nb c ∙ meant-keeps a l k na c ∙ sym (meant-keeps a (meant b l).rows k na c ∙ meant-keeps b l k nb c)
