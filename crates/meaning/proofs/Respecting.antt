-- What a change means is told by the versions of every key alone. Assumes nothing.
use mathlib.Core.Path.{◌≡◌, refl, sym, ◌∙◌}
use mathlib.Core.Bool.{Bool, true, false}
use mathlib.Core.List.{List}
use Prim.Native.Nat.{ℕ}
use lib.Dec.{eqb}
use borrow.Author.Tests.{eqb-true, eqb-false}
use Rattle.leaf.specs.Rows.{Row}
use Rattle.theory_tree.specs.Versions.{arrivals, SameVersions}
use Rattle.meaning.specs.Change.{Change, key_of}
use Rattle.meaning.specs.Meant.{meant}
use Rattle.meaning.proofs.Local.{Alike, meant_alike, meant-keeps}

pub meant-same : (a : Change) (l m : List Row) → SameVersions l m
    → ((meant a l).number ≡ (meant a m).number) × ((meant a l).dropped ≡ (meant a m).dropped) × SameVersions (meant a l).rows (meant a m).rows
meant-same a l m e = (alike.number, alike.dropped, λ k c. go k c (eqb k (key_of a)) refl)
  where
    alike : Alike (key_of a) (meant a l) (meant a m)
    alike = meant_alike a l m (e (key_of a))

    go : (k c : ℕ) (b : Bool) → eqb k (key_of a) ≡ b → arrivals k c (meant a l).rows ≡ arrivals k c (meant a m).rows
    go k c true q = rw (eqb-true k (key_of a) q) (alike.rows c)
    go k c false q =
        let n : k ≡ key_of a → ⊥ = eqb-false k (key_of a) q in
        meant-keeps a l k n c ∙ e k c ∙ sym (meant-keeps a m k n c)
