-- The walk over the page numbers of a tree meets no fault and skips no page: it lists each once, a page before its children's
-- subtrees, the last child first. Assumes nothing.
use Rattle.std.proofs.Common.{Some, Ok, Result, Err}
use mathlib.Core.Path.{◌≡◌, refl, sym, ap, ◌∙◌}
use mathlib.Core.List.{List, [], ◌∷◌, ◌++◌, append_assoc}
use Prim.Native.Nat.{ℕ, zero, suc, ◌+◌, ◌≤◌, ◌<◌}
use native.Mathlib.Omega.{arith}
use native.Mathlib.Nat.{zero-add}
use lib.ListN.{length}
use Rattle.page.specs.Page.{page}
use Rattle.page.specs.Header.{node_type}
use Rattle.row.specs.declared.Fault.{Fault}
use Rattle.mvcc.specs.Lists.{mem}
use Rattle.inner.specs.Inner.{child_at, children_from}
use Rattle.list_pages.specs.Numbers.{top_at, on_told, visit_kids, visiting, numbers_of}
use Rattle.theory_tree.specs.View.{view}
use Rattle.theory_tree.specs.Shape.{Shape, leaf, node, pair, pages_in, head, rest, first, Holds, Deep, All, NoneTwice, Bounded, IsTree, WellFormed}
use Rattle.meaning.specs.Reads.{numbers_in}
use Rattle.list_pages.proofs.Tops.{top_leaf, top_inner}
use Rattle.theory_tree.proofs.Workers.{roots}
use Rattle.theory_tree.proofs.Lists.{all_app, all_left, all_right, nd_left, nd_right, Out, nd_apart, out-mem}
use Rattle.theory_tree.proofs.Enter.{roots_is}
use Rattle.tree_check.proofs.Linking.{children-last}
use Rattle.theory_walks.proofs.Paging.{leaf_at, inner_at, count_of, children_of_lem, judged_inner_of, seps_rise}

-- what all pages have, all that are listed have
numbers_all : (P : ℕ → Type 0) (g : Shape) → All P (pages_in g) → All P (numbers_in g)
numbers_all P (leaf p rs) h = h
numbers_all P (node p f) h = (h.0, numbers_all P f h.1)
numbers_all P (pair a k b) h =
    all_app P (numbers_in b) (numbers_in a) (numbers_all P b (all_right P (pages_in a) (pages_in b) h)) (numbers_all P a (all_left P (pages_in a) (pages_in b) h))

-- apart from one page more, and from the pages listed of a run
apart-one : (p : ℕ) (l ps : List ℕ) → Out p ps → All (λ q. Out q l) ps → All (λ q. Out q (l ++ (p ∷ []))) ps
apart-one p l [] o h = tt
apart-one p l (q ∷ ps) o h = (all_app (λ y. q ≡ y → ⊥) l (p ∷ []) h.0 ((λ e. o.0 (sym e)), tt), apart-one p l ps o.1 h.1)

apart-run : (l : List ℕ) (g : Shape) (ps : List ℕ) → All (λ q. Out q l) ps → All (λ q. Out q (pages_in g)) ps → All (λ q. Out q (l ++ numbers_in g)) ps
apart-run l g [] h o = tt
apart-run l g (q ∷ ps) h o =
    (all_app (λ y. q ≡ y → ⊥) l (numbers_in g) h.0 (numbers_all (λ y. q ≡ y → ⊥) g o.0), apart-run l g ps h.1 o.1)

-- ---- the pages of a run, the last first

abbrev visit_all : {L : Type 0} → (L → ℕ → Result L Fault) → List ℕ → L → Result L Fault
visit_all f [] l = Ok l
visit_all f (c ∷ cs) l = on_told (λ m. f m c) (λ e. Err e) (visit_all f cs l)

module _ {L : Type 0} (f : L → ℕ → Result L Fault) where
  visit-append : (xs ys : List ℕ) (l : L) → visit_all f (xs ++ ys) l ≡ on_told (λ m. visit_all f xs m) (λ e. Err e) (visit_all f ys l)
  visit-append [] ys l = by_told (visit_all f ys l)
    where
      by_told : (t : Result L Fault) → t ≡ on_told (λ m. Ok m) (λ e. Err e) t
      by_told (Ok m) = refl
      by_told (Err e) = refl
  visit-append (x ∷ xs) ys l = ap (on_told (λ m. f m x) (λ e. Err e)) (visit-append xs ys l) ∙ by_told (visit_all f ys l)
    where
      by_told : (t : Result L Fault)
          → on_told (λ m. f m x) (λ e. Err e) (on_told (λ m. visit_all f xs m) (λ e. Err e) t) ≡ on_told (λ m. visit_all f (x ∷ xs) m) (λ e. Err e) t
      by_told (Ok m) = refl
      by_told (Err e) = refl

kids_all : {L : Type 0} (f : L → ℕ → Result L Fault) (j : ℕ) (pg : List ℕ) (l : L) → visit_kids pg f j l ≡ visit_all f (children_from pg 0 j) l
unfolding visit_kids children_from
kids_all f zero pg l = refl
kids_all {L} f (suc j) pg l =
    by_told (f l (child_at pg j)) (kids_all f j pg) ∙ sym (ap (λ (cs : List ℕ). visit_all f cs l) last ∙ visit-append f (children_from pg 0 j) (child_at pg j ∷ []) l)
  where
    last : children_from pg 0 (suc j) ≡ children_from pg 0 j ++ (child_at pg j ∷ [])
    last = rw (zero-add j) at (children-last pg j 0)

    by_told : (t : Result L Fault) → ((m : L) → visit_kids pg f j m ≡ visit_all f (children_from pg 0 j) m)
        → on_told (λ m. visit_kids pg f j m) (λ e. Err e) t ≡ on_told (λ m. visit_all f (children_from pg 0 j) m) (λ e. Err e) t
    by_told (Ok m) ih = ih m
    by_told (Err e) ih = refl

-- ---- the walk

abbrev walking : (k used : ℕ) → List ℕ → List ℕ → List ℕ → ℕ → Result (List ℕ) Fault
walking k used s up l p = visiting s used (λ l p. mem p l) (λ p l. l ++ (p ∷ [])) k up l p

module _ (s : List ℕ) (used : ℕ) where
  -- a leaf, and an internal page with m children
  visit-leaf : (k : ℕ) (up l : List ℕ) (p : ℕ) → top_at s used k up (mem p l) p ≡ Ok (Some 0) → walking k used s up l p ≡ Ok (l ++ (p ∷ []))
  unfolding visiting visit_kids
  visit-leaf zero up l p e = rw e
  visit-leaf (suc k) up l p e = rw e

  visit_inner : (k : ℕ) (up l : List ℕ) (p m : ℕ) → top_at s used (suc k) up (mem p l) p ≡ Ok (Some m)
      → walking (suc k) used s up l p ≡ visit_all (walking k used s (up ++ (p ∷ []))) (children_from (page s p) 0 m) (l ++ (p ∷ []))
  unfolding visiting
  visit_inner k up l p m e = rw e (kids_all (walking k used s (up ++ (p ∷ []))) m (page s p) (l ++ (p ∷ [])))

  -- of a run that stands apart from the pages above it and from those listed
  visit-run : (n k par nxt lo hi : ℕ) (up l : List ℕ) (g : Shape) → Holds (view s) par nxt g → Deep n g → Bounded lo hi g → All (λ p. p < used) (pages_in g)
      → NoneTwice (pages_in g) → All (λ p. Out p up) (pages_in g) → All (λ p. Out p l) (pages_in g) → n ≤ k
      → visit_all (walking k used s up) (roots g) l ≡ Ok (l ++ numbers_in g)
  visit-run n k par nxt lo hi up l (leaf p rs) h d b u z au al i =
      visit-leaf k up l p
      (sym (top_leaf k used s up (mem p l) p u.0 refl (out-mem p up au.0) refl (out-mem p l al.0) refl refl (leaf_at s p par nxt rs h).type))
  visit-run n zero par nxt lo hi up l (node p f) h d b u z au al i = absurd (let e = d.1 in omega arith)
  visit-run n (suc k) par nxt lo hi up l (node p f) h d b u z au al i =
      let v = h.1 in
      let e = d.1 in
      let a = inner_at s p par h.0 (head f) (rest f) v in
      let j = judged_inner_of s p par h.0 (head f) (rest f) v (seps_rise lo hi f b) in
      let c : children_from (page s p) 0 (length (rest f) + 1) ≡ roots f =
      rw (count_of s p par h.0 (head f) (rest f) v) at (children_of_lem s p par h.0 (head f) (rest f) v) ∙ sym (roots_is f) in
      let other : node_type (page s p) ≡ 1 → ⊥ = λ t. let q : ◌≡◌ {A = ℕ} 0 1 = sym a.type ∙ t in omega arith in
      let to : top_at s used (suc k) up (mem p l) p ≡ Ok (Some (length (rest f) + 1)) =
      sym (top_inner (suc k) used s up (mem p l) p u.0 refl (out-mem p up au.0) refl (out-mem p l al.0) refl refl other (λ q. omega arith) refl j) in
      visit_inner k up l p (length (rest f) + 1) to
      ∙ (ap (λ (cs : List ℕ). visit_all (walking k used s (up ++ (p ∷ []))) cs (l ++ (p ∷ []))) c
      ∙ (visit-run d.0 k p nxt lo hi (up ++ (p ∷ [])) (l ++ (p ∷ [])) f h.2 d.2 b u.1 z.1
      (apart-one p up (pages_in f) z.0 au.1) (apart-one p l (pages_in f) z.0 al.1) (omega arith)
      ∙ ap (λ (m : List ℕ). Ok m) (append_assoc l (p ∷ []) (numbers_in f))))
  visit-run n k par nxt lo hi up l (pair a m g) h d b u z au al i =
      let au₂ = all_left (λ p. Out p up) (pages_in a) (pages_in g) au in
      let al₂ = all_left (λ p. Out p l) (pages_in a) (pages_in g) al in
      visit-append (walking k used s up) (roots a) (roots g) l
      ∙ (ap (on_told (λ m. visit_all (walking k used s up) (roots a) m) (λ e. Err e))
      (visit-run n k par nxt m hi up l g h.1 d.1 b.1 (all_right (λ p. p < used) (pages_in a) (pages_in g) u) (nd_right (pages_in a) (pages_in g) z)
      (all_right (λ p. Out p up) (pages_in a) (pages_in g) au) (all_right (λ p. Out p l) (pages_in a) (pages_in g) al) i)
      ∙ (visit-run n k par (first g) lo m up (l ++ numbers_in g) a h.0 d.0 b.0
      (all_left (λ p. p < used) (pages_in a) (pages_in g) u) (nd_left (pages_in a) (pages_in g) z) au₂ (apart-run l g (pages_in a) al₂ (nd_apart (pages_in a) (pages_in g) z)) i
      ∙ ap (λ (m : List ℕ). Ok m) (append_assoc l (numbers_in g) (numbers_in a))))

-- ---- the tree

pub numbers_are : (s : List ℕ) (root used : ℕ) (t : Shape) → WellFormed (view s) root used t → numbers_of s used root ≡ Ok (numbers_in t)
unfolding numbers_of
numbers_are s root used t f =
    ap (walking 3 used s [] []) (sym f.root_is)
    ∙ (one t f.tree (walking 3 used s []) []
    ∙ visit-run s used f.level.0 3 0 0 0 4294967295 [] [] t f.rep f.level.2 f.bounds f.below f.distinct
    (none (pages_in t)) (none (pages_in t)) f.level.1)
  where
    none : (l : List ℕ) → All (λ p. Out p []) l
    none [] = tt
    none (x ∷ l) = (tt, none l)

    one : (t : Shape) → IsTree t → (visit : List ℕ → ℕ → Result (List ℕ) Fault) (l : List ℕ) → visit l (head t) ≡ visit_all visit (roots t) l
    one (leaf p rs) i visit l = refl
    one (node p f) i visit l = refl
    one (pair a k b) i visit l = absurd i
