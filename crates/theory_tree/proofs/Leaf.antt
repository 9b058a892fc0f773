-- A leaf gets other rows, with and without division: the tree stays well-formed.
-- Assumes nothing.
use mathlib.Core.Path.{◌≡◌, refl, sym, ◌∙◌, subst}
use mathlib.Core.List.Memᴰ
use mathlib.Core.List.{List, [], ◌∷◌, ◌++◌}
use Prim.Native.Nat.{ℕ, suc, ◌+◌, ◌≤◌, ◌<◌}
use native.Mathlib.Omega.{arith}
use native.Mathlib.Nat.{add-zero}
use lib.ListN.{length, length-append}
use borrow.Author.Tests.{eq-eqb}
use Rattle.leaf.specs.Rows.{Row}
use Rattle.theory_tree.specs.Pages.{Page, leaf_page, Pages, with_page}
use Rattle.theory_tree.specs.Shape.{Shape, leaf, node, pair, head, rest, Holds, Deep, All, NoneTwice, KeysIn, Sorted, Sized, IsTree, WellFormed}
use Rattle.theory_tree.proofs.Contexts.{top_key, Ctx, top, in_l, in_r, under, plug, pre_g, post_g, lo_c, hi_c, par_c, nxt_c, HoldsC, DeepC, SizedC, high, up}
use Rattle.theory_tree.proofs.Lists.{all_left, all_right, Out, out_fresh}
use Rattle.theory_tree.proofs.Frame.{with_page-same, with_page-other, Agree, agree_with_page, agree_trans}
use Rattle.theory_tree.proofs.Zip.{plug_rep, unplug_rep, plug_pages, plug_bnd, unplug_bnd}
use Rattle.theory_tree.proofs.Cuts.{plug_lvl, plug_small, up_small, up_bnd, plug_nz, unplug_nz, up_nz}
use Rattle.theory_tree.proofs.Enter.{nd_seam, all_seam, below_more, tree-rest, parts, Parts, rep_c_frame, Entry, plug_head}
use Rattle.theory_tree.proofs.Place.{srt_left, srt_right}
use Rattle.theory_tree.proofs.Grow.{Fresh, up_fresh, up_lvl, plug_tree, up-tree}

pub unplug_lvl : (N : ℕ) (c : Ctx) (t : Shape) → Deep N (plug c t) → (n : ℕ) × (n + high c ≡ N) × DeepC n c × Deep n t
unplug_lvl N top t h = (N, add-zero N, tt, h)
unplug_lvl N (in_l k b c) t h = let r = unplug_lvl N c (pair t k b) h in (r.0, r.1, (r.3.1, r.2), r.3.0)
unplug_lvl N (in_r a k c) t h = let r = unplug_lvl N c (pair a k t) h in (r.0, r.1, (r.3.0, r.2), r.3.1)
unplug_lvl N (under p c) t h =
    let r = unplug_lvl N c (node p t) h in
    let e : r.0 + high c ≡ N = r.1 in
    let f : r.0 ≡ suc r.3.0 = r.3.1 in
    (r.3.0, omega arith, rw f at r.2, r.3.2)

pub unplug_small : (c : Ctx) (t : Shape) → IsTree (plug c t) → Sized (plug c t) → SizedC (length (rest t)) c × Sized t
unplug_small top t q h = (rw (tree-rest t q), h)
unplug_small (in_l k b c) t q h = let r = unplug_small c (pair t k b) q h in ((r.1.1, rw length-append at r.0), r.1.0)
unplug_small (in_r a k c) t q h = let r = unplug_small c (pair a k t) q h in ((r.1.0, rw length-append at r.0), r.1.1)
unplug_small (under p c) t q h = let r = unplug_small c (node p t) q h in ((r.1.0, r.1.1, r.0), r.1.2)

-- the leaf p gets other cells in the same bounds
pub leaf-with_page : (w : Pages) (root used : ℕ) (c : Ctx) (p : ℕ) (cs cs' : List Row) → WellFormed w root used (plug c (leaf p cs))
    → KeysIn (lo_c 0 c) (hi_c top_key c) cs' → Sorted cs' → WellFormed (with_page w p (leaf_page (par_c 0 c) (nxt_c 0 c) cs')) root used (plug c (leaf p cs'))
leaf-with_page w root used c p cs cs' f b s =
    let x : Page = leaf_page (par_c 0 c) (nxt_c 0 c) cs' in
    let r : HoldsC w 0 0 c p [] p × (w p ≡ leaf_page (par_c 0 c) (nxt_c 0 c) cs) = unplug_rep w 0 0 c (leaf p cs) f.rep in
    let lv : (n : ℕ) × (n + high c ≡ f.level.0) × DeepC n c × (n ≡ 0) = unplug_lvl f.level.0 c (leaf p cs) f.level.2 in
    let sm : SizedC 0 c × Unit {0} = unplug_small c (leaf p cs) f.tree f.small in
    let d : NoneTwice (pre_g c ++ (p ∷ post_g c)) = rw (plug_pages c (leaf p cs)) at f.distinct in
    let m : Parts (pre_g c) p [] [] (post_g c) = parts (pre_g c) p [] [] (post_g c) d in
    record {
      tree = plug_tree c (leaf p cs) (leaf p cs') (λ z. z) f.tree;
      root_is = plug_head c (leaf p cs') (leaf p cs) refl ∙ f.root_is;
      rep = plug_rep (with_page w p x) 0 0 c (leaf p cs')
          (rep_c_frame w (with_page w p x) 0 0 c p [] p (agree_with_page w p x (pre_g c) m.pg) (agree_with_page w p x (post_g c) m.po) r.0) (with_page-same w p x);
      level = (f.level.0, f.level.1, subst (λ n. Deep n (plug c (leaf p cs'))) lv.1 (plug_lvl lv.0 c (leaf p cs') lv.2 lv.3));
      bounds = plug_bnd 0 top_key c (leaf p cs') (unplug_bnd 0 top_key c (leaf p cs) f.bounds).0 (b, s);
      small = plug_small c (leaf p cs') sm.0 tt;
      later = plug_nz c (leaf p cs') (unplug_nz c (leaf p cs) f.later).0 tt;
      distinct = rw (plug_pages c (leaf p cs')) d;
      below = rw (plug_pages c (leaf p cs')) (rw (plug_pages c (leaf p cs)) at f.below);
    }

-- the leaf p divides into p and the next free page
abbrev pub leaf_pool : Pages → Ctx → ℕ → ℕ → List Row → List Row → Pages
leaf_pool w c p u l r = with_page (with_page w p (leaf_page (par_c 0 c) u l)) u (leaf_page (par_c 0 c) (nxt_c 0 c) r)

pub entry_leaf : (w : Pages) (root used : ℕ) (c : Ctx) (p : ℕ) (cs l r : List Row) (k : ℕ) → WellFormed w root used (plug c (leaf p cs))
    → Entry 0 c (leaf_pool w c p used l r) (leaf p cs) (pair (leaf p l) k (leaf used r)) p (k, used) (suc used)
entry_leaf w root u c p cs l r k f =
    let x : Page = leaf_page (par_c 0 c) u l in
    let y : Page = leaf_page (par_c 0 c) (nxt_c 0 c) r in
    let v : Pages = with_page (with_page w p x) u y in
    let rp : HoldsC w 0 0 c p [] p × (w p ≡ leaf_page (par_c 0 c) (nxt_c 0 c) cs) = unplug_rep w 0 0 c (leaf p cs) f.rep in
    let d : NoneTwice (pre_g c ++ (p ∷ post_g c)) = rw (plug_pages c (leaf p cs)) at f.distinct in
    let b : All (λ q. q < u) (pre_g c ++ (p ∷ post_g c)) = rw (plug_pages c (leaf p cs)) at f.below in
    let m : Parts (pre_g c) p [] [] (post_g c) = parts (pre_g c) p [] [] (post_g c) d in
    let o : Out u (pre_g c ++ (p ∷ post_g c)) = out_fresh u (pre_g c ++ (p ∷ post_g c)) b in
    let og : Out u (pre_g c) = all_left (λ z. u ≡ z → ⊥) (pre_g c) (p ∷ post_g c) o in
    let op : Out u (p ∷ post_g c) = all_right (λ z. u ≡ z → ⊥) (pre_g c) (p ∷ post_g c) o in
    let on : (z : List ℕ) → Out p z → Out u z → Agree w v z =
    λ z a e. agree_trans w (with_page w p x) v z (agree_with_page w p x z a) (agree_with_page (with_page w p x) u y z e) in
    record {
      tree = f.tree;
      ins = record { heads = refl; firsts = refl; rests = rw (eq-eqb p p refl); child = eq-eqb p p refl; mine = Memᴰ.head refl };
      above = rep_c_frame w v 0 0 c p [] p (on (pre_g c) m.pg og) (on (post_g c) m.po op.1) rp.0;
      here = (with_page-other (with_page w p x) u p y op.0 ∙ with_page-same w p x, with_page-same (with_page w p x) u y);
      distinct = nd_seam (pre_g c) p [] u [] (post_g c) d o;
      below = all_seam (λ q. q < suc u) (pre_g c) p [] u [] (post_g c) (below_more u (pre_g c ++ (p ∷ post_g c)) b) (omega arith);
    }

-- any pool that holds the tree that grew from the two sides
pub divided_wf : (w : Pages) (root used : ℕ) (c : Ctx) (p : ℕ) (cs l r : List Row) (k : ℕ) → WellFormed w root used (plug c (leaf p cs))
    → KeysIn (lo_c 0 c) k l → Sorted l → KeysIn k (hi_c top_key c) r → Sorted r
    → high c + (up c (pair (leaf p l) k (leaf used r)) (suc used)).grew ≤ 3
    → (v : Pages) (root' used' : ℕ) → Holds v 0 0 (up c (pair (leaf p l) k (leaf used r)) (suc used)).shape
    → root' ≡ head (up c (pair (leaf p l) k (leaf used r)) (suc used)).shape → used' ≡ (up c (pair (leaf p l) k (leaf used r)) (suc used)).used
    → WellFormed v root' used' (up c (pair (leaf p l) k (leaf used r)) (suc used)).shape
divided_wf w root u c p cs l r k f bl sl br sr deep v root' used' h er eu =
    let s : Shape = pair (leaf p l) k (leaf u r) in
    let e : Entry 0 c (leaf_pool w c p u l r) (leaf p cs) s p (k, u) (suc u) = entry_leaf w root u c p cs l r k f in
    let lv : (n : ℕ) × (n + high c ≡ f.level.0) × DeepC n c × (n ≡ 0) = unplug_lvl f.level.0 c (leaf p cs) f.level.2 in
    let lc : DeepC 0 c = rw lv.3 at lv.2 in
    let sm : SizedC 0 c × Unit {0} = unplug_small c (leaf p cs) f.tree f.small in
    let b : All (λ q. q < u) (pre_g c ++ (p ∷ post_g c)) = rw (plug_pages c (leaf p cs)) at f.below in
    let fr : Fresh (up c s (suc u)).shape (up c s (suc u)).used = up_fresh c s (suc u) e.distinct e.below in
    record {
      tree = up-tree c (leaf p cs) s (suc u) f.tree;
      root_is = sym er;
      rep = h;
      level = (0 + high c + (up c s (suc u)).grew, omega arith, up_lvl 0 c s (suc u) lc (refl, refl));
      bounds = up_bnd 0 top_key c s (suc u) (unplug_bnd 0 top_key c (leaf p cs) f.bounds).0 ((bl, sl), (br, sr));
      small = up_small 0 c s (suc u) refl sm.0 (tt, tt);
      later = up_nz c s (suc u) (unplug_nz c (leaf p cs) f.later).0 (tt, (λ z. let q : p < u = (all_right (λ q. q < u) (pre_g c) (p ∷ post_g c) b).0 in omega arith), tt);
      distinct = fr.distinct;
      below = rw eu fr.below;
    }

-- the two sides of a cut: the right side's first key is the separator
pub cut_btw : (lo hi : ℕ) (l : List Row) (z : Row) (r : List Row) → KeysIn lo hi (l ++ (z ∷ r)) → KeysIn lo z.key l × KeysIn z.key hi (z ∷ r)
cut_btw lo hi [] z r h = (h.0, (omega arith, h.1))
cut_btw lo hi (x ∷ l) z r h = let i = cut_btw x.key hi l z r h.1 in ((h.0, i.0), i.1)

-- the same of rows in the leaf's bounds and in order, cut in two: what an insertion and a stamp make of a leaf
pub cut_wf : (w : Pages) (root used : ℕ) (c : Ctx) (p : ℕ) (cs l : List Row) (z : Row) (r : List Row) → WellFormed w root used (plug c (leaf p cs))
    → KeysIn (lo_c 0 c) (hi_c top_key c) (l ++ (z ∷ r)) → Sorted (l ++ (z ∷ r))
    → high c + (up c (pair (leaf p l) z.key (leaf used (z ∷ r))) (suc used)).grew ≤ 3
    → (v : Pages) (root' used' : ℕ) → Holds v 0 0 (up c (pair (leaf p l) z.key (leaf used (z ∷ r))) (suc used)).shape
    → root' ≡ head (up c (pair (leaf p l) z.key (leaf used (z ∷ r))) (suc used)).shape
    → used' ≡ (up c (pair (leaf p l) z.key (leaf used (z ∷ r))) (suc used)).used
    → WellFormed v root' used' (up c (pair (leaf p l) z.key (leaf used (z ∷ r))) (suc used)).shape
cut_wf w root used c p cs l z r f b s =
    let b' : KeysIn (lo_c 0 c) z.key l × KeysIn z.key (hi_c top_key c) (z ∷ r) = cut_btw (lo_c 0 c) (hi_c top_key c) l z r b in
    divided_wf w root used c p cs l (z ∷ r) z.key f b'.0 (srt_left l (z ∷ r) s) b'.1 (srt_right l (z ∷ r) s)
