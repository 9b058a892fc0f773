-- The ways out of a lookup from the root on, one law each, and where what it found stands. Assumes nothing.
use Rattle.std.proofs.Common.{Some, Result, Ok, Err}
use mathlib.Core.Path.{◌≡◌, sym, ◌∙◌}
use mathlib.Core.Bool.{Bool}
use mathlib.Core.List.{List}
use Prim.Native.Nat.{ℕ, ◌≤◌}
use native.Mathlib.Omega.{arith}
use Rattle.page.specs.Page.{page}
use Rattle.row.specs.declared.Cell.{Cell}
use Rattle.row.specs.declared.Fault.{Fault}
use Rattle.leaf.specs.Find.{Best}
use Rattle.tree.specs.Descend.{descend_of, on_leaf}
use Rattle.tree.specs.Chain.{best_along, test_along}
use Rattle.tree.specs.Lookup.{best_in_tree, test_in_tree}
use Rattle.tree.specs.declared.Route.{Route}
use Rattle.mvcc.specs.Snapshot.{Snapshot}
use Rattle.page.proofs.PageLaws.{page_short}
use Rattle.row.proofs.Exact.{cell_placed}
use Rattle.tree.proofs.Found.{FoundIn, best_in}

module _ (sn : Snapshot) (st : ℕ → ℕ) (used root key : ℕ) (s : List ℕ) where
  module _ {d : Result ℕ Fault} (way : d ≡ descend_of s used root (Route.Search key) 3) where
    pub best-lost : {f : Fault} → d ≡ Err f → Err f ≡ best_in_tree s used root key sn st
    unfolding best_in_tree
    best-lost e = rw (sym way ∙ e)

    pub best-leaf : {p : ℕ} {r : Result Best Fault} → d ≡ Ok p → r ≡ best_along s used p key sn st → r ≡ best_in_tree s used root key sn st
    unfolding best_in_tree
    best-leaf e q = q ∙ rw (sym way ∙ e)

    module _ (claiming : Bool) (seen : ℕ) where
      pub test_lost : {f : Fault} → d ≡ Err f → Err f ≡ test_in_tree s used root key sn st claiming seen
      unfolding test_in_tree
      test_lost e = rw (sym way ∙ e)

      pub test_leaf_lem : {p : ℕ} {r : Result Bool Fault} → d ≡ Ok p → r ≡ test_along s used p key sn st claiming seen
          → r ≡ test_in_tree s used root key sn st claiming seen
      unfolding test_in_tree
      test_leaf_lem e q = q ∙ rw (sym way ∙ e)

  -- what a lookup found
  pub found_in : {p : ℕ} {c : Cell} → best_in_tree s used root key sn st ≡ Ok (Some (p, c)) → FoundIn s used p c
  unfolding best_in_tree
  found_in {p} {c} e = by_way (descend_of s used root (Route.Search key) 3) e
    where
      by_way : (d : Result ℕ Fault) → on_leaf (λ q. best_along s used q key sn st) (λ f. Err f) d ≡ Ok (Some (p, c)) → FoundIn s used p c
      by_way (Ok q) u = best_in sn st used key s q u
      by_way (Err f) u = absurd cc

-- what is found stands in its page
pub start_small : (s : List ℕ) (used p : ℕ) (c : Cell) → FoundIn s used p c → c.version.start ≤ 4096
start_small s used p c f = let q = cell_placed (page s p) c.at c f.there in omega (arith, q.whole, q.inside, page_short p s)
