-- Pools whose pages hold trees of two and of three levels, a row in each leaf. Assumes nothing.
use mathlib.Core.Path.{refl}
use mathlib.Core.List.{[], ◌∷◌}
use Prim.Native.Nat.{◌*◌}
use native.Mathlib.Omega.{arith}
use Rattle.store.specs.Part.{zeros}
use Rattle.page.specs.declared.pool.State.{State}
use Rattle.mvcc.specs.Lists.{mem}
use Rattle.tree.specs.Distinct.{distinct}
use Rattle.page.specs.Pool.{grown}
use Rattle.theory_tree.specs.Pages.{Pages, leaf_page, inner_page, with_page}
use Rattle.theory_tree.specs.View.{view}
use Rattle.theory_tree.specs.Shape.{Shape, leaf, node, pair, pages_in, Deep, WellFormed}
use Rattle.meaning.specs.Example.{ManyLevels}
use Rattle.theory_check.proofs.Hanging.{none_twice}
use Rattle.meaning.proofs.ExistingPools.{row_for, row_made, inner_made, Pool, blank_pool, with_made, pool-tree}

-- ---- two levels: page 2 over the leaves 0 and 1

abbrev shape₂ : Shape
shape₂ = node 2 (pair (leaf 0 (row_for 3 ∷ [])) 7 (leaf 1 (row_for 7 ∷ [])))

abbrev pages₂ : Pages → Pages
pages₂ w = with_page (with_page (with_page w 0 (leaf_page 2 1 (row_for 3 ∷ []))) 1 (leaf_page 2 0 (row_for 7 ∷ []))) 2 (inner_page 0 0 0 ((7, 1) ∷ []))

pool₂ : Pool 3 (pages₂ (view (zeros (3 * 4096))))
pool₂ =
    with_made 2 (omega arith) (inner_made 1 0 0 7 1 (omega arith) (omega arith) (omega arith) (omega arith))
    (with_made 1 (omega arith) (row_made 0 2 0 7 (omega arith) (omega arith) (omega arith))
    (with_made 0 (omega arith) (row_made 0 2 1 3 (omega arith) (omega arith) (omega arith)) (blank_pool 3)))

deep₂ : Deep 1 shape₂
deep₂ = (0, refl, (refl, refl))

formed₂ : (w : Pages) → WellFormed (pages₂ w) 2 3 shape₂
unfolding with_page distinct mem
formed₂ w =
    record {
      tree = tt;
      root_is = refl;
      rep = (0, refl, (refl, refl));
      level = (1, omega arith, deep₂);
      bounds = omega arith;
      small = omega arith;
      later = (tt, (λ e. omega arith), tt);
      distinct = none_twice (pages_in shape₂) refl;
      below = omega arith;
    }

abbrev state₂ : State
state₂ = record { root = 2; used = 3 }

-- ---- three: page 6 over 4 and 5, these over the leaves 0 and 1, and 2 and 3

abbrev shape₃ : Shape
shape₃ =
    node 6
    (pair (node 4 (pair (leaf 0 (row_for 1 ∷ [])) 3 (leaf 1 (row_for 3 ∷ [])))) 5
    (node 5 (pair (leaf 2 (row_for 5 ∷ [])) 7 (leaf 3 (row_for 7 ∷ [])))))

abbrev leaves₃ : Pages → Pages
leaves₃ w =
    with_page (with_page (with_page (with_page w 0 (leaf_page 4 1 (row_for 1 ∷ []))) 1 (leaf_page 4 2 (row_for 3 ∷ []))) 2 (leaf_page 5 3 (row_for 5 ∷ []))) 3
    (leaf_page 5 0 (row_for 7 ∷ []))

abbrev pages₃ : Pages → Pages
pages₃ w = with_page (with_page (with_page (leaves₃ w) 4 (inner_page 6 0 0 ((3, 1) ∷ []))) 5 (inner_page 6 0 2 ((7, 3) ∷ []))) 6 (inner_page 0 0 4 ((5, 5) ∷ []))

lower₃ : Pool 7 (leaves₃ (view (zeros (7 * 4096))))
lower₃ =
    with_made 3 (omega arith) (row_made 0 5 0 7 (omega arith) (omega arith) (omega arith))
    (with_made 2 (omega arith) (row_made 0 5 3 5 (omega arith) (omega arith) (omega arith))
    (with_made 1 (omega arith) (row_made 0 4 2 3 (omega arith) (omega arith) (omega arith))
    (with_made 0 (omega arith) (row_made 0 4 1 1 (omega arith) (omega arith) (omega arith)) (blank_pool 7))))

pool₃ : Pool 7 (pages₃ (view (zeros (7 * 4096))))
pool₃ =
    with_made 6 (omega arith) (inner_made 1 0 4 5 5 (omega arith) (omega arith) (omega arith) (omega arith))
    (with_made 5 (omega arith) (inner_made 0 6 2 7 3 (omega arith) (omega arith) (omega arith) (omega arith))
    (with_made 4 (omega arith) (inner_made 0 6 0 3 1 (omega arith) (omega arith) (omega arith) (omega arith)) lower₃))

deep₃ : Deep 2 shape₃
deep₃ = (1, refl, ((0, refl, (refl, refl)), (0, refl, (refl, refl))))

formed₃ : (w : Pages) → WellFormed (pages₃ w) 6 7 shape₃
unfolding with_page distinct mem
formed₃ w =
    record {
      tree = tt;
      root_is = refl;
      rep = (0, refl, ((0, refl, (refl, refl)), (0, refl, (refl, refl))));
      level = (2, omega arith, deep₃);
      bounds = omega arith;
      small = omega arith;
      later = ((tt, (λ e. omega arith), tt), (λ e. omega arith), (tt, (λ e. omega arith), tt));
      distinct = none_twice (pages_in shape₃) refl;
      below = omega arith;
    }

abbrev state₃ : State
state₃ = record { root = 6; used = 7 }

pub many_levels : ManyLevels
many_levels =
    record {
      two = record {
        pool = grown pool₂.bytes state₂;
        shape = shape₂;
        tree = pool-tree pool₂ state₂ shape₂ (omega arith) (omega arith) (omega arith) (formed₂ (view (zeros (3 * 4096))));
        deep = deep₂;
      };
      three = record {
        pool = grown pool₃.bytes state₃;
        shape = shape₃;
        tree = pool-tree pool₃ state₃ shape₃ (omega arith) (omega arith) (omega arith) (formed₃ (view (zeros (7 * 4096))));
        deep = deep₃;
      };
    }
