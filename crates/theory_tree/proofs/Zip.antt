-- A run put into a hole and taken out of it: the chain, the pages, the bounds, what the pool holds; the way of an insertion.
-- Assumes nothing.
use mathlib.Core.Path.{◌≡◌, refl, sym, ◌∙◌}
use mathlib.Core.Bool.{Bool, true, false}
use Rattle.store.specs.Pick.{pick}
use Rattle.theory_tree.specs.Pages.{Pages}
use Rattle.theory_tree.specs.Shape.{Shape, leaf, node, pair, chain, pages_in, head, rest, first, Holds, All, Bounded}
use mathlib.Core.List.{◌++◌, append_assoc, append-nil}
use Prim.Native.Nat.{ℕ, ◌≤◌, ◌<◌}
use native.Mathlib.Omega.{arith}
use lib.Dec.{ltb}
use borrow.Author.Tests.{ltb-true, ltb-false}
use Rattle.theory_tree.proofs.Contexts.{Ctx, top, in_l, in_r, under, plug, pre_c, post_c, pre_g, post_g, lo_c, hi_c, BoundedC, par_c, nxt_c, HoldsC, loc}
use Rattle.theory_tree.proofs.Lists.{all_app, all_map}
use Rattle.theory_tree.proofs.Order.{btw_above, bnd_chain}

pub plug_chain : (c : Ctx) (t : Shape) → chain (plug c t) ≡ pre_c c ++ (chain t ++ post_c c)
plug_chain top t = sym (append-nil (chain t))
plug_chain (in_l k b c) t = plug_chain c (pair t k b) ∙ simp append_assoc
plug_chain (in_r a k c) t = plug_chain c (pair a k t) ∙ simp append_assoc
plug_chain (under p c) t = plug_chain c (node p t)

pub plug_pages : (c : Ctx) (t : Shape) → pages_in (plug c t) ≡ pre_g c ++ (pages_in t ++ post_g c)
plug_pages top t = sym (append-nil (pages_in t))
plug_pages (in_l k b c) t = plug_pages c (pair t k b) ∙ simp append_assoc
plug_pages (in_r a k c) t = plug_pages c (pair a k t) ∙ simp append_assoc
plug_pages (under p c) t = plug_pages c (node p t) ∙ simp append_assoc

pub plug_bnd : (lo hi : ℕ) (c : Ctx) (t : Shape) → BoundedC lo hi c → Bounded (lo_c lo c) (hi_c hi c) t → Bounded lo hi (plug c t)
plug_bnd lo hi top t g h = h
plug_bnd lo hi (in_l k b c) t g h = plug_bnd lo hi c (pair t k b) g.1 (h, g.0)
plug_bnd lo hi (in_r a k c) t g h = plug_bnd lo hi c (pair a k t) g.1 (g.0, h)
plug_bnd lo hi (under p c) t g h = plug_bnd lo hi c (node p t) g h

pub unplug_bnd : (lo hi : ℕ) (c : Ctx) (t : Shape) → Bounded lo hi (plug c t) → BoundedC lo hi c × Bounded (lo_c lo c) (hi_c hi c) t
unplug_bnd lo hi top t h = (tt, h)
unplug_bnd lo hi (in_l k b c) t h = let r = unplug_bnd lo hi c (pair t k b) h in ((r.1.1, r.0), r.1.0)
unplug_bnd lo hi (in_r a k c) t h = let r = unplug_bnd lo hi c (pair a k t) h in ((r.1.0, r.0), r.1.1)
unplug_bnd lo hi (under p c) t h = unplug_bnd lo hi c (node p t) h

pub plug_rep : (w : Pages) (P N : ℕ) (c : Ctx) (t : Shape) → HoldsC w P N c (head t) (rest t) (first t) → Holds w (par_c P c) (nxt_c N c) t → Holds w P N (plug c t)
plug_rep w P N top t g h = h
plug_rep w P N (in_l k b c) t g h = plug_rep w P N c (pair t k b) g.1 (h, g.0)
plug_rep w P N (in_r a k c) t g h = plug_rep w P N c (pair a k t) g.1 (g.0, h)
plug_rep w P N (under p c) t g h = plug_rep w P N c (node p t) g.2 (g.0, g.1, h)

pub unplug_rep : (w : Pages) (P N : ℕ) (c : Ctx) (t : Shape) → Holds w P N (plug c t) → HoldsC w P N c (head t) (rest t) (first t) × Holds w (par_c P c) (nxt_c N c) t
unplug_rep w P N top t h = (tt, h)
unplug_rep w P N (in_l k b c) t h = let r = unplug_rep w P N c (pair t k b) h in ((r.1.1, r.0), r.1.0)
unplug_rep w P N (in_r a k c) t h = let r = unplug_rep w P N c (pair a k t) h in ((r.1.0, r.0), r.1.1)
unplug_rep w P N (under p c) t h = let r = unplug_rep w P N c (node p t) h in ((r.1.0, r.1.1, r.0), r.1.2)

-- the way of an insertion leads to a leaf of the run
pub loc_plug : (k : ℕ) (t : Shape) (c : Ctx) → plug (loc k t c).ctx (leaf (loc k t c).page (loc k t c).cells) ≡ plug c t
loc_plug k (leaf p cs) c = refl
loc_plug k (node p f) c = loc_plug k f (under p c)
loc_plug k (pair a s b) c = go (ltb k s) (loc_plug k a (in_l s b c)) (loc_plug k b (in_r a s c))
  where
    go : (x : Bool) → plug (loc k a (in_l s b c)).ctx (leaf (loc k a (in_l s b c)).page (loc k a (in_l s b c)).cells) ≡ plug c (pair a s b)
        → plug (loc k b (in_r a s c)).ctx (leaf (loc k b (in_r a s c)).page (loc k b (in_r a s c)).cells) ≡ plug c (pair a s b)
        → plug (pick x (loc k a (in_l s b c)) (loc k b (in_r a s c))).ctx
        (leaf (pick x (loc k a (in_l s b c)) (loc k b (in_r a s c))).page (pick x (loc k a (in_l s b c)) (loc k b (in_r a s c))).cells) ≡ plug c (pair a s b)
    go true l r = l
    go false l r = r

-- all to the right of it is larger, and the key is within its bounds
pub record Fine (k lo hi : ℕ) (c : Ctx) : Type 0 where
  pub low : lo_c lo c ≤ k
  pub high : k ≤ hi_c hi c
  pub behind : All (λ x. k < x.key) (post_c c)

pub loc_fine : (k lo hi : ℕ) (t : Shape) (c : Ctx) → BoundedC lo hi c → Bounded (lo_c lo c) (hi_c hi c) t → Fine k lo hi c → Fine k lo hi (loc k t c).ctx
loc_fine k lo hi (leaf p cs) c g h f = f
loc_fine k lo hi (node p t) c g h f = loc_fine k lo hi t (under p c) g h (record { low = f.low; high = f.high; behind = f.behind })
loc_fine k lo hi (pair a s b) c g h f =
    go (ltb k s) refl (loc_fine k lo hi a (in_l s b c) (h.1, g) h.0) (loc_fine k lo hi b (in_r a s c) (h.0, g) h.1)
  where
    go : (x : Bool) → ltb k s ≡ x → (Fine k lo hi (in_l s b c) → Fine k lo hi (loc k a (in_l s b c)).ctx)
        → (Fine k lo hi (in_r a s c) → Fine k lo hi (loc k b (in_r a s c)).ctx)
        → Fine k lo hi (pick x (loc k a (in_l s b c)) (loc k b (in_r a s c))).ctx
    go true e l r =
        let q : k < s = ltb-true k s e in
        l (record {
          low = f.low;
          high = omega arith;
          behind = all_app (λ x. k < x.key) (chain b) (post_c c)
              (all_map (λ x. s ≤ x.key) (λ x. k < x.key) (λ x m. omega arith) (chain b) (btw_above s (hi_c hi c) (chain b) (bnd_chain s (hi_c hi c) b h.1)))
              f.behind;
        })
    go false e l r = r (record { low = ltb-false k s e; high = f.high; behind = f.behind })
