-- Rows changed in any number of leaves, in place: remove and vacuum.
-- Assumes nothing.
use mathlib.Core.Path.{◌≡◌, refl, ap, ◌∙◌}
use mathlib.Core.Bool.{Bool, true, false}
use Rattle.store.specs.Pick.{pick}
use Rattle.leaf.specs.Rows.{Row, only}
use Rattle.theory_tree.specs.Pages.{Page, leaf_page, inner_page, no_page, Pages}
use Rattle.theory_tree.specs.Shape.{Shape, leaf, node, pair, chain, pages_in, head, rest, first, Holds, Deep, All, KeysIn, Sorted, NotAfter, Bounded, Sized, IsTree, LaterNotZero, WellFormed}
use mathlib.Core.List.{List, [], ◌∷◌}
use Prim.Native.Nat.{ℕ}
use Rattle.theory_tree.proofs.Lists.{all_left, all_right}
use Rattle.leaf.proofs.Filtering.{filt_app}
use Rattle.theory_tree.proofs.Order.{btw_weak}

module _ (f : List Row → List Row) where
  abbrev pub map_s : Shape → Shape
  map_s (leaf p cs) = leaf p (f cs)
  map_s (node p t) = node p (map_s t)
  map_s (pair a k b) = pair (map_s a) k (map_s b)

  abbrev pub on_leaf : Page → Page
  on_leaf (leaf_page par nxt cs) = leaf_page par nxt (f cs)
  on_leaf (inner_page par j h r) = inner_page par j h r
  on_leaf no_page = no_page

  pub map_pages : (t : Shape) → pages_in (map_s t) ≡ pages_in t
  map_pages (leaf p cs) = refl
  map_pages (node p t) = ap (λ l. p ∷ l) (map_pages t)
  map_pages (pair a k b) = rw (map_pages a, map_pages b)

  pub map-head : (t : Shape) → head (map_s t) ≡ head t
  map-head (leaf p cs) = refl
  map-head (node p t) = refl
  map-head (pair a k b) = map-head a

  pub map-rest : (t : Shape) → rest (map_s t) ≡ rest t
  map-rest (leaf p cs) = refl
  map-rest (node p t) = refl
  map-rest (pair a k b) = rw (map-rest a, map-rest b, map-head b)

  pub map_first : (t : Shape) → first (map_s t) ≡ first t
  map_first (leaf p cs) = refl
  map_first (node p t) = map_first t
  map_first (pair a k b) = map_first a

  -- told page by page: however the stores were made
  pub map-rep : (w v : Pages) (par nxt : ℕ) (t : Shape) → All (λ p. v p ≡ on_leaf (w p)) (pages_in t) → Holds w par nxt t → Holds v par nxt (map_s t)
  map-rep w v par nxt (leaf p cs) g h = g.0 ∙ ap on_leaf h
  map-rep w v par nxt (node p t) g h = (h.0, g.0 ∙ ap on_leaf h.1 ∙ rw (map-head t, map-rest t), map-rep w v p nxt t g.1 h.2)
  map-rep w v par nxt (pair a k b) g h = (
    rw (map_first b) (map-rep w v par (first b) a (all_left (λ p. v p ≡ on_leaf (w p)) (pages_in a) (pages_in b) g) h.0),
    map-rep w v par nxt b (all_right (λ p. v p ≡ on_leaf (w p)) (pages_in a) (pages_in b) g) h.1,
  )

  pub map_lvl : (n : ℕ) (t : Shape) → Deep n t → Deep n (map_s t)
  map_lvl n (leaf p cs) h = h
  map_lvl n (node p t) h = (h.0, h.1, map_lvl h.0 t h.2)
  map_lvl n (pair a k b) h = (map_lvl n a h.0, map_lvl n b h.1)

  pub map-small : (t : Shape) → Sized t → Sized (map_s t)
  map-small (leaf p cs) h = tt
  map-small (node p t) h = (rw (map-rest t) h.0, rw (map-rest t) h.1, map-small t h.2)
  map-small (pair a k b) h = (map-small a h.0, map-small b h.1)

  pub map_nz : (t : Shape) → LaterNotZero t → LaterNotZero (map_s t)
  map_nz (leaf p cs) h = tt
  map_nz (node p t) h = map_nz t h
  map_nz (pair a k b) h = (map_nz a h.0, rw (map_first b) h.1, map_nz b h.2)

  pub map-tree : (t : Shape) → IsTree t → IsTree (map_s t)
  map-tree (leaf p cs) h = tt
  map-tree (node p t) h = tt
  map-tree (pair a k b) h = h

  abbrev pub Keeps : Type 0
  Keeps = (lo hi : ℕ) (cs : List Row) → KeysIn lo hi cs → Sorted cs → KeysIn lo hi (f cs) × Sorted (f cs)

  pub map_bnd : Keeps → (lo hi : ℕ) (t : Shape) → Bounded lo hi t → Bounded lo hi (map_s t)
  map_bnd q lo hi (leaf p cs) h = q lo hi cs h.0 h.1
  map_bnd q lo hi (node p t) h = map_bnd q lo hi t h
  map_bnd q lo hi (pair a k b) h = (map_bnd q lo k a h.0, map_bnd q k hi b h.1)

  pub map_wf : Keeps → (w v : Pages) (root used : ℕ) (t : Shape) → All (λ p. v p ≡ on_leaf (w p)) (pages_in t) → WellFormed w root used t → WellFormed v root used (map_s t)
  map_wf q w v root used t g h = record {
    tree = map-tree t h.tree;
    root_is = map-head t ∙ h.root_is;
    rep = map-rep w v 0 0 t g h.rep;
    level = (h.level.0, h.level.1, map_lvl h.level.0 t h.level.2);
    bounds = map_bnd q 0 4294967295 t h.bounds;
    small = map-small t h.small;
    later = map_nz t h.later;
    distinct = rw map_pages h.distinct;
    below = rw map_pages h.below;
  }

-- a filter keeps order and bounds, and filters the chain
pub filt_all : (P : Row → Type 0) (g : Row → Bool) (l : List Row) → All P l → All P (only g l)
filt_all P g [] h = tt
filt_all P g (x ∷ xs) h = go (g x) (filt_all P g xs h.1)
  where
    go : (b : Bool) → All P (only g xs) → All P (pick b (x ∷ only g xs) (only g xs))
    go true i = (h.0, i)
    go false i = i

pub filt_srt : (g : Row → Bool) (l : List Row) → Sorted l → Sorted (only g l)
filt_srt g [] h = tt
filt_srt g (x ∷ xs) h = go (g x) (filt_srt g xs h.1)
  where
    go : (b : Bool) → Sorted (only g xs) → Sorted (pick b (x ∷ only g xs) (only g xs))
    go true i = (filt_all (NotAfter x) g xs h.0, i)
    go false i = i

pub filt_btw : (g : Row → Bool) (lo hi : ℕ) (l : List Row) → KeysIn lo hi l → KeysIn lo hi (only g l)
filt_btw g lo hi [] h = h
filt_btw g lo hi (x ∷ xs) h = go (g x) (filt_btw g x.key hi xs h.1)
  where
    go : (b : Bool) → KeysIn x.key hi (only g xs) → KeysIn lo hi (pick b (x ∷ only g xs) (only g xs))
    go true i = (h.0, i)
    go false i = btw_weak x.key lo hi (only g xs) h.0 i

pub filt_keeps : (g : Row → Bool) → Keeps (only g)
filt_keeps g = λ lo hi cs b s. (filt_btw g lo hi cs b, filt_srt g cs s)

pub filt_chain : (g : Row → Bool) (t : Shape) → chain (map_s (only g) t) ≡ only g (chain t)
filt_chain g (leaf p cs) = refl
filt_chain g (node p t) = filt_chain g t
filt_chain g (pair a k b) = rw (filt_app, filt_chain g a, filt_chain g b)
