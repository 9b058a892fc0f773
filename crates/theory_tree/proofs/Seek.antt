-- The leaf that a search comes to, and the separators of a run in bounds.
-- Assumes nothing.
use Rattle.store.specs.Pick.{pick}
use Rattle.theory_tree.specs.Shape.{Shape, leaf, node, pair, head, rest, All, Bounded}
use mathlib.Core.List.{◌∷◌}
use Prim.Native.Nat.{ℕ, ◌≤◌}
use native.Mathlib.Nat.{le_trans}
use lib.Dec.{leb}
use Rattle.theory_tree.proofs.Lists.{all_app, all_map}
use Rattle.theory_tree.proofs.Order.{bnd_le}

-- the leaf of the search: left on key ≤ separator
abbrev pub leaf_of : ℕ → Shape → ℕ
leaf_of k (leaf p cs) = p
leaf_of k (node p f) = leaf_of k f
leaf_of k (pair a s b) = pick (leb k s) (leaf_of k a) (leaf_of k b)

pub seps_below : (lo hi : ℕ) (t : Shape) → Bounded lo hi t → All (λ x. x.0 ≤ hi) (rest t)
seps_below lo hi (leaf p cs) h = tt
seps_below lo hi (node p f) h = tt
seps_below lo hi (pair a k b) h =
    let l : k ≤ hi = bnd_le k hi b h.1 in
    all_app (λ (x : ℕ × ℕ). x.0 ≤ hi) (rest a) ((k, head b) ∷ rest b)
    (all_map (λ (x : ℕ × ℕ). x.0 ≤ k) (λ (x : ℕ × ℕ). x.0 ≤ hi) (λ x m. le_trans m l) (rest a) (seps_below lo k a h.0))
    (l, seps_below k hi b h.1)
