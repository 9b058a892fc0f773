-- Sums of sizes: of two lists, of the first of them, and of the cells that stand one after another. Assumes nothing.
use mathlib.Core.Path.{◌≡◌}
use mathlib.Core.List.{List, [], ◌∷◌}
use Prim.Native.Nat.{ℕ, ◌+◌, ◌≤◌}
use native.Mathlib.Omega.{arith}
use lib.ListN.{length}
use Rattle.row.specs.declared.Cell.{Cell}
use Rattle.leaf.specs.Place.{sizes_of}
use Rattle.leaf.specs.CutFacts.{sum, Between}
use Rattle.row.proofs.Exact.{cell_placed}
use Rattle.leaf.proofs.Rowing.{end_of}
use Rattle.leaf.proofs.Chain.{Chain}

module _ (pg : List ℕ) where
  pub sizes_sum : (at : ℕ) (cs : List Cell) → Chain pg at cs → at + sum (sizes_of cs) ≡ end_of at cs
  unfolding end_of
  sizes_sum at [] h = omega arith
  sizes_sum at (c ∷ cs) h =
      let p = cell_placed pg at c h.0 in
      omega (arith, sizes_sum c.next cs h.1, p.here, p.past_head, p.whole)

  pub sizes_between : length pg ≤ 4096 → (at : ℕ) (cs : List Cell) → Chain pg at cs → Between 1 4096 (sizes_of cs)
  sizes_between short at [] h = tt
  sizes_between short at (c ∷ cs) h =
      let p = cell_placed pg at c h.0 in
      (omega (arith, p.here, p.past_head, p.whole), omega (arith, p.inside), sizes_between short c.next cs h.1)
