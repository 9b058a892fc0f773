-- The pages above a leaf of a well-formed tree: at most three, and the path of a climb begins at the leaf. Assumes nothing.
use mathlib.Core.Path.{◌≡◌, refl, ap}
use mathlib.Core.List.{List, ◌∷◌}
use Prim.Native.Nat.{ℕ, suc, ◌≤◌}
use native.Mathlib.Omega.{arith}
use lib.ListN.{length}
use Rattle.store.specs.Part.{pad}
use Rattle.leaf.specs.Rows.{Row}
use Rattle.tree.specs.Climb.{path_of}
use Rattle.tree_grow.specs.Path.{page_at}
use Rattle.theory_tree.specs.Pages.{Pages}
use Rattle.theory_tree.specs.Shape.{leaf, WellFormed}
use Rattle.theory_tree.proofs.Contexts.{Ctx, top, in_l, in_r, under, plug, high}
use Rattle.theory_tree.proofs.Entries.{path}
use Rattle.theory_tree.proofs.Leaf.{unplug_lvl}

-- a page for each level
pub path_length : (c : Ctx) → length (path c) ≡ high c
path_length top = refl
path_length (in_l k b c) = path_length c
path_length (in_r a k c) = path_length c
path_length (under p c) = ap suc (path_length c)

pub high_few : (w : Pages) (root used : ℕ) (c : Ctx) (p : ℕ) (rs : List Row) → WellFormed w root used (plug c (leaf p rs)) → high c ≤ 3
high_few w root used c p rs f =
    let l = f.level.1 in
    let e = (unplug_lvl f.level.0 c (leaf p rs) f.level.2).1 in
    omega arith

-- the path as it is handed on, read again
pub path_first : (p : ℕ) (ps : List ℕ) → page_at (path_of (p ∷ ps)) 0 ≡ p
unfolding pad
path_first p ps = refl
