-- A tree that grew a level: its new top has two children, the first under the old root's number. Then it can be pinned there.
-- Assumes nothing.
use mathlib.Core.Path.{◌≡◌, refl, sym, ap, ◌∙◌, subst}
use mathlib.Core.Bool.{Bool, true, false}
use Rattle.store.specs.Pick.{pick}
use Rattle.leaf.specs.Rows.{Row}
use Rattle.theory_tree.specs.Pages.{inner_page, Pages}
use Rattle.theory_tree.specs.Shape.{Shape, leaf, node, pair, chain, head, rest, IsTree, WellFormed}
use mathlib.Core.List.{List, [], ◌∷◌}
use Prim.Native.Nat.{ℕ, suc, ◌≤◌}
use native.Mathlib.Omega.{arith}
use lib.ListN.{length}
use lib.Dec.{leb}
use mathlib.Core.Logic.{◌⊎◌, inl, inr}
use Rattle.theory_tree.proofs.Contexts.{Ctx, top, in_l, in_r, under, plug, cut, Grown, up}
use Rattle.theory_tree.proofs.Enter.{plug_head, tree-rest}
use Rattle.theory_tree.proofs.Pin.{renum, pinned, pin_wf, pin_chain}

-- s is two trees, the first one with the head r
pub record Pairs (s : Shape) (r : ℕ) : Type 0 where
  pub a : Shape
  pub k : ℕ
  pub b : Shape
  pub is : s ≡ pair a k b
  pub left-tree : IsTree a
  pub heads : head a ≡ r
  pub right-tree : IsTree b
  pub alone : rest b ≡ []

pub record Topped (g : Grown) (r : ℕ) : Type 0 where
  pub m : ℕ
  pub s : Shape
  pub is : g.shape ≡ node m s
  pub two : Pairs s r

pub up-topped : (c : Ctx) (s s' : Shape) (u : ℕ) → IsTree (plug c s) → (IsTree s → Pairs s' (head s)) → (up c s' u).grew ≡ 1 → Topped (up c s' u) (head (plug c s))
up-topped top s s' u t p e = record { m = u; s = s'; is = refl; two = p t }
up-topped (in_l k y c) s s' u t p e = up-topped c (pair s k y) (pair s' k y) u t (λ z. absurd z) e
up-topped (in_r x k c) s s' u t p e = up-topped c (pair x k s) (pair x k s') u t (λ z. absurd z) e
up-topped (under p c) s s' u t q e =
    go (leb (length (rest s')) 510)
    (up-topped c (node p s) (pair (node p (cut 255 s').left) (cut 255 s').mid (node u (cut 255 s').right)) (suc u) t
    (λ z. record {
      a = node p (cut 255 s').left;
      k = (cut 255 s').mid;
      b = node u (cut 255 s').right;
      is = refl;
      left-tree = tt;
      heads = refl;
      right-tree = tt;
      alone = refl;
    })) e
  where
    more : Grown
    more = up c (pair (node p (cut 255 s').left) (cut 255 s').mid (node u (cut 255 s').right)) (suc u)

    go : (x : Bool) → (more.grew ≡ 1 → Topped more (head (plug c (node p s)))) → (pick x (record { shape = plug c (node p s'); used = u; grew = 0 }) more).grew ≡ 1
        → Topped (pick x (record { shape = plug c (node p s'); used = u; grew = 0 }) more) (head (plug c (node p s)))
    go true i z = absurd (let y : ◌≡◌ {A = ℕ} 0 1 = z in omega arith)
    go false i z = i z

-- a leaf that divided, and the tree grew
pub leaf-topped : (w : Pages) (root used : ℕ) (c : Ctx) (p : ℕ) (cs l r : List Row) (k u : ℕ) → WellFormed w root used (plug c (leaf p cs))
    → (up c (pair (leaf p l) k (leaf used r)) u).grew ≡ 1 → Topped (up c (pair (leaf p l) k (leaf used r)) u) root
leaf-topped w root used c p cs l r k u f e =
    subst (λ (q : ℕ). Topped (up c (pair (leaf p l) k (leaf used r)) u) q) f.root_is
    (up-topped c (leaf p cs) (pair (leaf p l) k (leaf used r)) u f.tree
    (λ z. record { a = leaf p l; k = k; b = leaf used r; is = refl; left-tree = tt; heads = refl; right-tree = tt; alone = refl }) e)

-- the root is as before, or one of the new pages
pub up_root : (c : Ctx) (s s' : Shape) (u : ℕ) → head s' ≡ head s
    → (((up c s' u).grew ≡ 0) × (head (up c s' u).shape ≡ head (plug c s))) ⊎ (((up c s' u).grew ≡ 1) × (u ≤ head (up c s' u).shape))
up_root top s s' u e = inr (refl, omega arith)
up_root (in_l k y c) s s' u e = up_root c (pair s k y) (pair s' k y) u e
up_root (in_r x k c) s s' u e = up_root c (pair x k s) (pair x k s') u refl
up_root (under p c) s s' u e =
    go (leb (length (rest s')) 510) (up_root c (node p s) (pair (node p (cut 255 s').left) (cut 255 s').mid (node u (cut 255 s').right)) (suc u) refl)
  where
    more : Grown
    more = up c (pair (node p (cut 255 s').left) (cut 255 s').mid (node u (cut 255 s').right)) (suc u)

    Kept : ℕ → Grown → Type 0
    Kept n g = ((g.grew ≡ 0) × (head g.shape ≡ head (plug c (node p s)))) ⊎ ((g.grew ≡ 1) × (n ≤ head g.shape))

    go : (x : Bool) → Kept (suc u) more → Kept u (pick x (record { shape = plug c (node p s'); used = u; grew = 0 }) more)
    go true i = inl (refl, plug_head c (node p s') (node p s) refl)
    go false (inl i) = inl i
    go false (inr i) = inr (i.0, (let h : suc u ≤ head more.shape = i.1 in omega arith))

module _ (w : Pages) (root used r : ℕ) (g : Grown) (f : WellFormed w root used g.shape) (y : Topped g r) where
  whole : g.shape ≡ node y.m (pair y.two.a y.two.k y.two.b)
  whole = y.is ∙ ap (λ s. node y.m s) y.two.is

  at_root_lem : root ≡ y.m
  at_root_lem = sym f.root_is ∙ ap head whole

  on_top_lem : WellFormed w y.m used (node y.m (pair y.two.a y.two.k y.two.b))
  on_top_lem =
      let f₁ : WellFormed w root used (node y.m (pair y.two.a y.two.k y.two.b)) = subst (λ s. WellFormed w root used s) whole f in
      subst (λ q. WellFormed w q used (node y.m (pair y.two.a y.two.k y.two.b))) at_root_lem f₁

  -- what the new top says
  pub topped-page : (i : ℕ) × (w root ≡ inner_page 0 i r ((y.two.k, head y.two.b) ∷ []))
  topped-page = (on_top_lem.rep.0, ap w at_root_lem ∙ on_top_lem.rep.1 ∙ rw (tree-rest y.two.a y.two.left-tree, y.two.alone, y.two.heads))

  -- pinned to the old root's page: `pinned` is that page over the moved one and the top's other child
  pub pin_topped : (j : ℕ) → (t : Shape) × WellFormed (pinned w r j used y.two.k (head y.two.b)) r (suc used) t × (chain t ≡ chain g.shape)
  pin_topped j =
      let a : Shape = y.two.a in
      let k : ℕ = y.two.k in
      let b : Shape = y.two.b in (
        node (head a) (pair (renum used a) k b),
        subst (λ q. WellFormed (pinned w q j used k (head b)) q (suc used) (node (head a) (pair (renum used a) k b))) y.two.heads
            (pin_wf w y.m j used a k b y.two.left-tree y.two.right-tree on_top_lem),
        pin_chain used y.m (head a) a k b y.two.left-tree ∙ ap chain (sym whole),
      )
