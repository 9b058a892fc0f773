-- The leaves from the one that a search comes to begin with it.
-- Assumes nothing.
use mathlib.Core.Path.{◌≡◌, refl, ◌∙◌}
use mathlib.Core.Bool.{Bool, true, false}
use Rattle.store.specs.Pick.{pick}
use Rattle.theory_tree.specs.Shape.{Shape, leaf, node, pair}
use mathlib.Core.List.{◌++◌}
use Prim.Native.Nat.{ℕ}
use lib.Dec.{leb}
use Rattle.theory_tree.proofs.Contexts.{Ctx, in_l, in_r, under}
use Rattle.theory_tree.proofs.Seek.{leaf_of}
use Rattle.theory_tree.proofs.Walk.{locs, froms, head_page, head_app}

pub froms_head : (k : ℕ) (t : Shape) (c : Ctx) (z : ℕ) → head_page (froms k t c) z ≡ leaf_of k t
froms_head k (leaf p cs) c z = refl
froms_head k (node p f) c z = froms_head k f (under p c) z
froms_head k (pair a s b) c z = go (leb k s) (froms_head k a (in_l s b c)) (froms_head k b (in_r a s c) z)
  where
    go : (x : Bool) → ((y : ℕ) → head_page (froms k a (in_l s b c)) y ≡ leaf_of k a) → head_page (froms k b (in_r a s c)) z ≡ leaf_of k b
        → head_page (pick x (froms k a (in_l s b c) ++ locs b (in_r a s c)) (froms k b (in_r a s c))) z ≡ pick x (leaf_of k a) (leaf_of k b)
    go true i j = head_app (froms k a (in_l s b c)) (locs b (in_r a s c)) z ∙ i (head_page (locs b (in_r a s c)) z)
    go false i j = j
