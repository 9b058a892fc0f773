-- Root pinning: the old root's image goes to a new page q, the new top's content, two children, to the old root's page r.
-- Assumes nothing.
use mathlib.Core.Path.{◌≡◌, refl, sym, ◌∙◌, subst}
use mathlib.Core.List.{List, [], ◌∷◌, ◌++◌}
use Prim.Native.Nat.{ℕ, suc, ◌<◌}
use native.Mathlib.Omega.{arith}
use Rattle.theory_tree.specs.Pages.{Page, leaf_page, inner_page, no_page, Pages, with_page}
use Rattle.theory_tree.specs.Shape.{Shape, leaf, node, pair, chain, pages_in, head, rest, first, Holds, Deep, All, NoneTwice, Bounded, Sized, IsTree, LaterNotZero, WellFormed}
use Rattle.theory_tree.proofs.Workers.{set_par, roots, reparent}
use Rattle.theory_tree.proofs.Entries.{kids}
use Rattle.theory_tree.proofs.Lists.{all_app, all_left, all_right, all_map, Out, nd_left, nd_right, nd_apart, nd_join, out_fresh}
use Rattle.theory_tree.proofs.Frame.{with_page-same, Agree, agree_with_page, agree_trans, agree_reparent, roots_all, out-flip, frame, frame_with_page, adopt}
use Rattle.theory_tree.proofs.Enter.{roots_is, tree-rest}

-- the page numbers of the children of a page, where it is internal
abbrev pub under? : Page → List ℕ
under? (leaf_page par nxt cs) = []
under? (inner_page par j h r) = kids h r
under? no_page = []

-- the old root's image at q, and its children linked to q
abbrev pub moved : Pages → ℕ → ℕ → Pages
moved w r q = reparent q (under? (w r)) (with_page w q (set_par r (w r)))

-- the tree with its root page renumbered
abbrev pub renum : ℕ → Shape → Shape
renum q (leaf p cs) = leaf q cs
renum q (node p f) = node q f
renum q (pair a k b) = pair (renum q a) k b

-- the pages below the root page
abbrev pub inside : Shape → List ℕ
inside (leaf p cs) = []
inside (node p f) = pages_in f
inside (pair a k b) = inside a ++ pages_in b

-- the moved subtree, whatever becomes of its old page afterwards
pub moved-rep : (w : Pages) (q par nxt : ℕ) (t : Shape) → IsTree t → NoneTwice (pages_in t) → Out q (pages_in t) → Holds w par nxt t
    → Holds (moved w (head t) q) (head t) nxt (renum q t)
moved-rep w q par nxt (leaf r cs) t d o h =
    let e : moved w r q ≡ with_page w q (leaf_page r nxt cs) = rw h in
    subst (λ (v : Pages). v q ≡ leaf_page r nxt cs) (sym e) (with_page-same w q (leaf_page r nxt cs))
moved-rep w q par nxt (node r f) t d o h =
    let x : Page = inner_page r h.0 (head f) (rest f) in
    let e : moved w r q ≡ reparent q (roots f) (with_page w q x) = rw (h.1, roots_is f) in
    let z : All (λ p. Out p (q ∷ [])) (roots f) =
    roots_all (λ p. Out p (q ∷ [])) f (all_map (λ y. q ≡ y → ⊥) (λ p. Out p (q ∷ [])) (λ p n. ((λ c. n (sym c)), tt)) (pages_in f) o.1) in
    subst (λ (v : Pages). Holds v r nxt (node q f)) (sym e) (
      h.0,
      (agree_reparent q (roots f) (q ∷ []) (with_page w q x) z).0 ∙ with_page-same w q x,
      adopt q (with_page w q x) r nxt f d.1 (frame_with_page w q x r nxt f o.1 h.2),
    )
moved-rep w q par nxt (pair a k b) t d o h = absurd t

-- a new parent for two runs that had different ones
pub adopt-two : (q : ℕ) (w : Pages) (pa pb nxt : ℕ) (a : Shape) (k : ℕ) (b : Shape) → NoneTwice (pages_in a ++ pages_in b) → Holds w pa (first b) a → Holds w pb nxt b
    → Holds (reparent q (roots b) (reparent q (roots a) w)) q nxt (pair a k b)
adopt-two q w pa pb nxt a k b d ha hb =
    let apart : All (λ x. Out x (pages_in b)) (pages_in a) = nd_apart (pages_in a) (pages_in b) d in
    let w₁ : Pages = reparent q (roots a) w in
    let to_b : Agree w w₁ (pages_in b) = agree_reparent q (roots a) (pages_in b) w (roots_all (λ x. Out x (pages_in b)) a apart) in
    let to_a : Agree w₁ (reparent q (roots b) w₁) (pages_in a) =
    agree_reparent q (roots b) (pages_in a) w₁ (roots_all (λ x. Out x (pages_in a)) b (out-flip (pages_in a) (pages_in b) apart)) in (
      frame w₁ (reparent q (roots b) w₁) q (first b) a to_a (adopt q w pa (first b) a (nd_left (pages_in a) (pages_in b) d) ha),
      adopt q w₁ pb nxt b (nd_right (pages_in a) (pages_in b) d) (frame w w₁ pb nxt b to_b hb),
    )

pub renum_pages : (q : ℕ) (t : Shape) → IsTree t → pages_in (renum q t) ≡ q ∷ inside t
renum_pages q (leaf p cs) h = refl
renum_pages q (node p f) h = refl
renum_pages q (pair a k b) h = absurd h

pub tree_pages : (t : Shape) → IsTree t → pages_in t ≡ head t ∷ inside t
tree_pages (leaf p cs) h = refl
tree_pages (node p f) h = refl
tree_pages (pair a k b) h = absurd h

pub tree_roots : (t : Shape) → IsTree t → roots t ≡ head t ∷ []
tree_roots (leaf p cs) h = refl
tree_roots (node p f) h = refl
tree_roots (pair a k b) h = absurd h

pub renum_roots : (q : ℕ) (t : Shape) → IsTree t → roots (renum q t) ≡ q ∷ []
renum_roots q (leaf p cs) h = refl
renum_roots q (node p f) h = refl
renum_roots q (pair a k b) h = absurd h

renum_head : (q : ℕ) (t : Shape) → IsTree t → head (renum q t) ≡ q
renum_head q (leaf p cs) h = refl
renum_head q (node p f) h = refl
renum_head q (pair a k b) h = absurd h

renum_rest : (q : ℕ) (t : Shape) → IsTree t → rest (renum q t) ≡ []
renum_rest q (leaf p cs) h = refl
renum_rest q (node p f) h = refl
renum_rest q (pair a k b) h = absurd h

-- what `moved` writes: q and the pages below the moved root
pub moved_agree : (w : Pages) (q par nxt : ℕ) (t : Shape) (z : List ℕ) → IsTree t → Holds w par nxt t → Out q z → All (λ x. Out x z) (inside t)
    → Agree w (moved w (head t) q) z
moved_agree w q par nxt (leaf r cs) z t h o a =
    let e : moved w r q ≡ with_page w q (leaf_page r nxt cs) = rw h in
    subst (λ (v : Pages). Agree w v z) (sym e) (agree_with_page w q (leaf_page r nxt cs) z o)
moved_agree w q par nxt (node r f) z t h o a =
    let x : Page = inner_page r h.0 (head f) (rest f) in
    let e : moved w r q ≡ reparent q (roots f) (with_page w q x) = rw (h.1, roots_is f) in
    subst (λ (v : Pages). Agree w v z) (sym e)
    (agree_trans w (with_page w q x) (reparent q (roots f) (with_page w q x)) z (agree_with_page w q x z o)
    (agree_reparent q (roots f) z (with_page w q x) (roots_all (λ x. Out x z) f a)))
moved_agree w q par nxt (pair a k b) z t h o c = absurd t

-- the pinned pool: in the old root r the new top, over the moved page q and its right sibling n
abbrev pub pinned : Pages → ℕ → ℕ → ℕ → ℕ → ℕ → Pages
pinned w r j q k n = reparent r (q ∷ n ∷ []) (with_page (moved w r q) r (inner_page 0 j q ((k, n) ∷ [])))

pub pin_rep : (w : Pages) (m j q nxt : ℕ) (a : Shape) (k : ℕ) (b : Shape) → IsTree a → IsTree b → NoneTwice (pages_in a ++ pages_in b)
    → All (λ p. p < q) (pages_in a ++ pages_in b) → Holds w m nxt (pair a k b)
    → Holds (pinned w (head a) j q k (head b)) 0 nxt (node (head a) (pair (renum q a) k b))
pin_rep w m j q nxt a k b t tb d l h =
    let r : ℕ = head a in
    let x : Page = inner_page 0 j q ((k, head b) ∷ rest b) in
    let o : Out q (pages_in a ++ pages_in b) = out_fresh q (pages_in a ++ pages_in b) l in
    let oa : Out q (pages_in a) = all_left (λ z. q ≡ z → ⊥) (pages_in a) (pages_in b) o in
    let ob : Out q (pages_in b) = all_right (λ z. q ≡ z → ⊥) (pages_in a) (pages_in b) o in
    let oi : All (λ z. q ≡ z → ⊥) (r ∷ inside a) = rw (tree_pages a t) at oa in
    let ap : All (λ y. Out y (pages_in b)) (r ∷ inside a) = rw (tree_pages a t) at (nd_apart (pages_in a) (pages_in b) d) in
    let di : NoneTwice (r ∷ inside a) = rw (tree_pages a t) at (nd_left (pages_in a) (pages_in b) d) in
    let v : Pages = moved w r q in
    let ha : Holds v r (first b) (renum q a) = moved-rep w q m (first b) a t (nd_left (pages_in a) (pages_in b) d) oa h.0 in
    let hb : Holds v m nxt b = frame w v m nxt b (moved_agree w q m (first b) a (pages_in b) t h.0 ob ap.1) h.1 in
    let ra : Out r (pages_in (renum q a)) = rw (renum_pages q a t) ((λ e. oi.0 (sym e)), di.0) in
    let d' : NoneTwice (pages_in (renum q a) ++ pages_in b) = rw (renum_pages q a t)
    (all_app (λ z. q ≡ z → ⊥) (inside a) (pages_in b) oi.1 ob, nd_join (inside a) (pages_in b) di.1 (nd_right (pages_in a) (pages_in b) d) ap.1) in
    let two : Holds (reparent r (roots b) (reparent r (roots (renum q a)) (with_page v r x))) r nxt (pair (renum q a) k b) =
    adopt-two r (with_page v r x) r m nxt (renum q a) k b d' (frame_with_page v r x r (first b) (renum q a) ra ha) (frame_with_page v r x m nxt b ap.0 hb) in
    let v₁ : Pages = reparent r (q ∷ []) (with_page v r x) in
    let z₁ : All (λ p. Out p (r ∷ [])) (q ∷ []) = ((oi.0, tt), tt) in
    let z₂ : All (λ p. Out p (r ∷ [])) (roots b) =
    roots_all (λ p. Out p (r ∷ [])) b (all_map (λ y. r ≡ y → ⊥) (λ p. Out p (r ∷ [])) (λ p n. ((λ c. n (sym c)), tt)) (pages_in b) ap.0) in
    let same : reparent r (roots b) v₁ ≡ pinned w r j q k (head b) = rw (tree_roots b tb, tree-rest b tb) in
    subst (λ (y : Pages). Holds y 0 nxt (node r (pair (renum q a) k b))) same (
      j,
      (agree_reparent r (roots b) (r ∷ []) v₁ z₂).0 ∙ (agree_reparent r (q ∷ []) (r ∷ []) (with_page v r x) z₁).0
          ∙ with_page-same v r x ∙ rw (renum_head q a t, renum_rest q a t),
      subst (λ (ps : List ℕ). Holds (reparent r (roots b) (reparent r ps (with_page v r x))) r nxt (pair (renum q a) k b)) (renum_roots q a t) two,
    )

-- the other parts of well-formedness do not see the root's page number
renum_bnd : (lo hi q : ℕ) (t : Shape) → IsTree t → Bounded lo hi t → Bounded lo hi (renum q t)
renum_bnd lo hi q (leaf p cs) t h = h
renum_bnd lo hi q (node p f) t h = h
renum_bnd lo hi q (pair a k b) t h = absurd t

renum_lvl : (n q : ℕ) (t : Shape) → IsTree t → Deep n t → Deep n (renum q t)
renum_lvl n q (leaf p cs) t h = h
renum_lvl n q (node p f) t h = h
renum_lvl n q (pair a k b) t h = absurd t

renum_small : (q : ℕ) (t : Shape) → IsTree t → Sized t → Sized (renum q t)
renum_small q (leaf p cs) t h = h
renum_small q (node p f) t h = h
renum_small q (pair a k b) t h = absurd t

renum_nz : (q : ℕ) (t : Shape) → IsTree t → LaterNotZero t → LaterNotZero (renum q t)
renum_nz q (leaf p cs) t h = h
renum_nz q (node p f) t h = h
renum_nz q (pair a k b) t h = absurd t

renum_chain : (q : ℕ) (t : Shape) → IsTree t → chain (renum q t) ≡ chain t
renum_chain q (leaf p cs) t = refl
renum_chain q (node p f) t = refl
renum_chain q (pair a k b) t = absurd t

pub pin_chain : (q m r : ℕ) (a : Shape) (k : ℕ) (b : Shape) → IsTree a → chain (node r (pair (renum q a) k b)) ≡ chain (node m (pair a k b))
pin_chain q m r a k b t = rw (renum_chain q a t)

pub pin_wf : (w : Pages) (m j q : ℕ) (a : Shape) (k : ℕ) (b : Shape) → IsTree a → IsTree b → WellFormed w m q (node m (pair a k b))
    → WellFormed (pinned w (head a) j q k (head b)) (head a) (suc q) (node (head a) (pair (renum q a) k b))
pin_wf w m j q a k b t tb f =
    let d : NoneTwice (pages_in a ++ pages_in b) = f.distinct.1 in
    let l : All (λ p. p < q) (pages_in a ++ pages_in b) = f.below.1 in
    let l' : All (λ p. p < suc q) (pages_in a ++ pages_in b) = all_map (λ p. p < q) (λ p. p < suc q) (λ p h. omega arith) (pages_in a ++ pages_in b) l in
    let o : Out q (pages_in a ++ pages_in b) = out_fresh q (pages_in a ++ pages_in b) l in
    let e : pages_in a ++ pages_in b ≡ head a ∷ (inside a ++ pages_in b) = rw (tree_pages a t) in
    let e' : pages_in (renum q a) ++ pages_in b ≡ q ∷ (inside a ++ pages_in b) = rw (renum_pages q a t) in
    let d₁ : NoneTwice (head a ∷ (inside a ++ pages_in b)) = rw e at d in
    let o₁ : Out q (head a ∷ (inside a ++ pages_in b)) = rw e at o in
    let l₁ : All (λ p. p < suc q) (head a ∷ (inside a ++ pages_in b)) = rw e at l' in
    let small' : Sized (pair a k b) = f.small.2 in
    let same_rest : rest (renum q a) ≡ rest a = renum_rest q a t ∙ sym (tree-rest a t) in
    record {
      tree = tt;
      root_is = refl;
      rep = pin_rep w m j q 0 a k b t tb d l f.rep.2;
      level = (f.level.0, f.level.1, (f.level.2.0, f.level.2.1, (renum_lvl f.level.2.0 q a t f.level.2.2.0, f.level.2.2.1)));
      bounds = (renum_bnd 0 k q a t f.bounds.0, f.bounds.1);
      small = (rw same_rest f.small.0, rw same_rest f.small.1, (renum_small q a t small'.0, small'.1));
      later = (renum_nz q a t f.later.0, f.later.1, f.later.2);
      distinct = rw e' (((λ z. o₁.0 (sym z)), d₁.0), (o₁.1, d₁.1));
      below = rw e' (l₁.0, (omega arith, l₁.1));
    }
