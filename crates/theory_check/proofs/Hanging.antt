-- A run that hangs in a pool, its links aside; its links; and the pages and leaves that the judgement counts. Assumes nothing.
use mathlib.Core.Path.{◌≡◌, refl, sym, ap, ◌∙◌}
use mathlib.Core.Bool.{true, not, ◌&&◌}
use mathlib.Core.List.{List, [], ◌∷◌, ◌++◌, append_assoc, append-nil}
use Prim.Native.Nat.{ℕ}
use lib.Dec.{eqb}
use borrow.Author.Tests.{eqb-true, eqb-false, eq-eqb, ne_eqb, not-true}
use Rattle.page.specs.Page.{page}
use Rattle.page.specs.Header.{next_leaf}
use Rattle.inner.specs.Inner.{children_of}
use Rattle.mvcc.specs.Lists.{mem}
use Rattle.tree_check.specs.Check.{each_of, leaves_of, pages_of, leaves_linked}
use Rattle.tree.specs.Distinct.{distinct}
use Rattle.theory_tree.specs.Pages.{leaf_page, inner_page}
use Rattle.theory_tree.specs.View.{view}
use Rattle.theory_tree.specs.Shape.{Shape, leaf, node, pair, pages_in, head, rest, first, Holds, Deep, NoneTwice, LaterNotZero}
use Rattle.tree_check.proofs.Linking.{each_append}
use Rattle.theory_tree.proofs.Workers.{roots}
use Rattle.theory_tree.proofs.Lists.{mem-out, out-mem}
use Rattle.theory_tree.proofs.Enter.{roots_is}
use Rattle.theory_walks.proofs.Paging.{leaf_at, children_of_lem}
use Rattle.store.proofs.Tests.{and_both}

-- the page numbers of the leaves, left to right
abbrev pub ends : Shape → List ℕ
ends (leaf p rs) = p ∷ []
ends (node p f) = ends f
ends (pair a k b) = ends a ++ ends b

-- as Holds, whatever the leaves link to
abbrev pub Hung : List ℕ → (par : ℕ) → Shape → Type 0
Hung s par (leaf p rs) = view s p ≡ leaf_page par (next_leaf (page s p)) rs
Hung s par (node p f) = (j : ℕ) × (view s p ≡ inner_page par j (head f) (rest f)) × Hung s p f
Hung s par (pair a k b) = Hung s par a × Hung s par b

-- the links: each leaf to the one right of it, which is not page 0, and the last to nxt
abbrev pub Links : List ℕ → (nxt : ℕ) → Shape → Type 0
Links s nxt (leaf p rs) = next_leaf (page s p) ≡ nxt
Links s nxt (node p f) = Links s nxt f
Links s nxt (pair a k b) = Links s (first b) a × (first b ≡ 0 → ⊥) × Links s nxt b

-- ---- what is held hangs and is linked, and the other way round

module _ (s : List ℕ) where
  pub hung : (par nxt : ℕ) (t : Shape) → Holds (view s) par nxt t → Hung s par t
  hung par nxt (leaf p rs) h = rw (leaf_at s p _ _ _ h).next h
  hung par nxt (node p f) h = (h.0, h.1, hung p nxt f h.2)
  hung par nxt (pair a k b) h = (hung par (first b) a h.0, hung par nxt b h.1)

  pub links : (par nxt : ℕ) (t : Shape) → Holds (view s) par nxt t → LaterNotZero t → Links s nxt t
  links par nxt (leaf p rs) h z = (leaf_at s p _ _ _ h).next
  links par nxt (node p f) h z = links p nxt f h.2 z
  links par nxt (pair a k b) h z = (links par (first b) a h.0 z.0, z.1, links par nxt b h.1 z.2)

  pub holds : (par nxt : ℕ) (t : Shape) → Hung s par t → Links s nxt t → Holds (view s) par nxt t
  holds par nxt (leaf p rs) h l = rw l at h
  holds par nxt (node p f) h l = (h.0, h.1, holds p nxt f h.2 l)
  holds par nxt (pair a k b) h l = (holds par (first b) a h.0 l.0, holds par nxt b h.1 l.2)

  pub later : (nxt : ℕ) (t : Shape) → Links s nxt t → LaterNotZero t
  later nxt (leaf p rs) l = tt
  later nxt (node p f) l = later nxt f l
  later nxt (pair a k b) l = (later (first b) a l.0, l.1, later nxt b l.2)

-- ---- the links as the judgement reads them, with the leaves l right of the run

abbrev front : List ℕ → ℕ
front [] = 0
front (x ∷ xs) = x

abbrev NotZero : List ℕ → Type 0
NotZero [] = Unit {0}
NotZero (x ∷ xs) = x ≡ 0 → ⊥

front_ends : (t : Shape) (l : List ℕ) → front (ends t ++ l) ≡ first t
front_ends (leaf p rs) l = refl
front_ends (node p f) l = front_ends f l
front_ends (pair a k b) l = rw append_assoc (front_ends a (ends b ++ l))

ends_zero : (t : Shape) (l : List ℕ) → NotZero (ends t ++ l) → first t ≡ 0 → ⊥
ends_zero (leaf p rs) l h = h
ends_zero (node p f) l h = ends_zero f l h
ends_zero (pair a k b) l h = ends_zero a (ends b ++ l) (rw append_assoc at h)

zero_ends : (t : Shape) (l : List ℕ) → (first t ≡ 0 → ⊥) → NotZero (ends t ++ l)
zero_ends (leaf p rs) l h = h
zero_ends (node p f) l h = zero_ends f l h
zero_ends (pair a k b) l h = rw append_assoc (zero_ends a (ends b ++ l) h)

module _ (s : List ℕ) where
  linked-first : (p : ℕ) (l : List ℕ) → leaves_linked s (p ∷ l) ≡ true → (next_leaf (page s p) ≡ front l) × (leaves_linked s l ≡ true) × NotZero l
  unfolding leaves_linked
  linked-first p [] e = (eqb-true (next_leaf (page s p)) 0 e, refl, tt)
  linked-first p (y ∷ ys) e =
      let a = and_both (eqb (next_leaf (page s p)) y) (not (eqb y 0) && leaves_linked s (y ∷ ys)) e in
      let b = and_both (not (eqb y 0)) (leaves_linked s (y ∷ ys)) a.1 in
      (eqb-true (next_leaf (page s p)) y a.0, b.1, eqb-false y 0 (not-true (eqb y 0) b.0))

  first-linked : (p : ℕ) (l : List ℕ) → next_leaf (page s p) ≡ front l → leaves_linked s l ≡ true → NotZero l → leaves_linked s (p ∷ l) ≡ true
  unfolding leaves_linked
  first-linked p [] n e z = eq-eqb (next_leaf (page s p)) 0 n
  first-linked p (y ∷ ys) n e z = rw (eq-eqb (next_leaf (page s p)) y n, ne_eqb y 0 z) e

  pub links_of : (t : Shape) (l : List ℕ) → leaves_linked s (ends t ++ l) ≡ true → Links s (front l) t × (leaves_linked s l ≡ true) × NotZero l
  links_of (leaf p rs) l e = linked-first p l e
  links_of (node p f) l e = links_of f l e
  links_of (pair a k b) l e =
      let u = links_of a (ends b ++ l) (rw append_assoc at e) in
      let v = links_of b l u.1 in
      ((rw (front_ends b l) at u.0, ends_zero b l u.2, v.0), v.1, v.2)

  pub linked_of : (t : Shape) (l : List ℕ) → Links s (front l) t → leaves_linked s l ≡ true → NotZero l → leaves_linked s (ends t ++ l) ≡ true
  linked_of (leaf p rs) l h e z = first-linked p l h e z
  linked_of (node p f) l h e z = linked_of f l h e z
  linked_of (pair a k b) l h e z =
      rw append_assoc (linked_of a (ends b ++ l) (rw (front_ends b l) h.0) (linked_of b l h.2 e z) (zero_ends b l h.1))

  pub links_all : (t : Shape) → leaves_linked s (ends t) ≡ true → Links s 0 t
  links_all t e = (links_of t [] (rw (append-nil (ends t)) e)).0

  pub linked_all : (t : Shape) → Links s 0 t → leaves_linked s (ends t) ≡ true
  unfolding leaves_linked
  linked_all t h = rw (append-nil (ends t)) at (linked_of t [] h refl tt)

-- ---- all pages, and the leaves

module _ (s : List ℕ) where
  roots_kids : (par p j : ℕ) (f : Shape) → view s p ≡ inner_page par j (head f) (rest f) → children_of (page s p) ≡ roots f
  roots_kids par p j f h = children_of_lem s p par j (head f) (rest f) h ∙ sym (roots_is f)

  pub pages_of_lem : (n par : ℕ) (t : Shape) → Hung s par t → Deep n t → pages_in t ≡ each_of (pages_of s n) (roots t)
  unfolding each_of pages_of
  pages_of_lem n par (leaf p rs) h d = rw d
  pages_of_lem n par (node p f) h d =
      rw (d.1, roots_kids par p h.0 f h.1, append-nil (each_of (pages_of s d.0) (roots f)))
      (ap (λ (l : List ℕ). p ∷ l) (pages_of_lem d.0 p f h.2 d.2))
  pages_of_lem n par (pair a k b) h d = rw (each_append, pages_of_lem n par a h.0 d.0, pages_of_lem n par b h.1 d.1)

  pub ends_of : (n par : ℕ) (t : Shape) → Hung s par t → Deep n t → ends t ≡ each_of (leaves_of s n) (roots t)
  unfolding each_of leaves_of
  ends_of n par (leaf p rs) h d = rw d
  ends_of n par (node p f) h d =
      rw (d.1, roots_kids par p h.0 f h.1, append-nil (each_of (leaves_of s d.0) (roots f))) (ends_of d.0 p f h.2 d.2)
  ends_of n par (pair a k b) h d = rw (each_append, ends_of n par a h.0 d.0, ends_of n par b h.1 d.1)

-- ---- none twice

pub none_twice : (l : List ℕ) → distinct l ≡ true → NoneTwice l
unfolding distinct
none_twice [] e = tt
none_twice (x ∷ xs) e =
    let a = and_both (not (mem x xs)) (distinct xs) e in
    (mem-out x xs (not-true (mem x xs) a.0), none_twice xs a.1)

pub twice_none : (l : List ℕ) → NoneTwice l → distinct l ≡ true
unfolding distinct
twice_none [] h = refl
twice_none (x ∷ xs) h = rw (out-mem x xs h.0) (twice_none xs h.1)
