-- The descent over the bytes of a tree's pages ends at the leaf that its route leads to. Assumes nothing.
use Rattle.std.proofs.Common.{Ok}
use mathlib.Core.Path.{◌≡◌, refl, sym, ap, ◌∙◌}
use mathlib.Core.Bool.{Bool, true, false}
use mathlib.Core.List.{List, [], ◌∷◌, ◌++◌}
use Prim.Native.Nat.{ℕ, zero, suc, ◌+◌, ◌-◌, ◌≤◌, ◌<◌}
use native.Mathlib.Omega.{arith}
use native.Mathlib.Nat.{add-zero}
use lib.Dec.{leb, ltb}
use lib.ListN.{length}
use borrow.Author.Tests.{leb-false, ltb-false, lt-leb, le-ltb}
use Rattle.store.specs.Pick.{pick}
use Rattle.page.specs.Page.{page}
use Rattle.page.specs.Header.{node_type, cell_count}
use Rattle.inner.specs.Inner.{key_at, child_at, keys_from}
use Rattle.inner.specs.Route.{first_where}
use Rattle.tree.specs.Descend.{turn_of, child_of, descend_of}
use Rattle.tree.specs.declared.Route.{Route}
use Rattle.theory_tree.specs.Pages.{inner_page}
use Rattle.theory_tree.specs.View.{entries_from, view}
use Rattle.theory_tree.specs.Shape.{Shape, leaf, node, pair, pages_in, head, rest, first, Holds, Deep, All, Bounded, IsTree, WellFormed}
use Rattle.tree.proofs.Ways.{way_leaf, way_on, leaf_here, inner_here}
use Rattle.theory_tree.proofs.Contexts.{Ctx, top, in_l, in_r, under, loc}
use Rattle.theory_tree.proofs.Lists.{all_left, all_right}
use Rattle.theory_tree.proofs.Seek.{leaf_of, seps_below}
use Rattle.theory_tree.proofs.Enter.{tree-rest}
use Rattle.theory_walks.proofs.Paging.{leaf_at, inner_at, count_of, judged_inner_of, seps_rise}

-- ---- the route over a run

-- left on this separator
abbrev pub left_on : Route → ℕ → Bool
left_on (Route.Search key) k = leb key k
left_on (Route.Insert key) k = ltb key k
left_on Route.First k = true

-- the child of a page with the first child h and the rest r
abbrev pub child_by : (ℕ → Bool) → ℕ → List (ℕ × ℕ) → ℕ
child_by left h [] = h
child_by left h (x ∷ r) = pick (left x.0) h (child_by left x.1 r)

-- the leaf
abbrev pub leaf_by : (ℕ → Bool) → Shape → ℕ
leaf_by left (leaf p rs) = p
leaf_by left (node p f) = leaf_by left f
leaf_by left (pair a k b) = pick (left k) (leaf_by left a) (leaf_by left b)

-- right of a separator is right of every smaller one
pub right-before : (route : Route) (x y : ℕ) → x ≤ y → left_on route y ≡ false → left_on route x ≡ false
right-before (Route.Search key) x y h e = let l : y < key = leb-false key y e in lt-leb key x (omega arith)
right-before (Route.Insert key) x y h e = let l : y ≤ key = ltb-false key y e in le-ltb key x (omega arith)
right-before Route.First x y h e = absurd (let z : ◌≡◌ {A = ℕ} 0 1 = cc in omega arith)

turn_is : (route : Route) (ks : List ℕ) → turn_of route ks ≡ first_where (left_on route) ks
unfolding first_where
turn_is (Route.Search key) ks = refl
turn_is (Route.Insert key) ks = refl
turn_is Route.First [] = refl
turn_is Route.First (k ∷ ks) = refl

-- the child that the page's bytes give
child_there : (left : ℕ → Bool) (pg : List ℕ) (n i : ℕ) → child_at pg (i + first_where left (keys_from pg i n)) ≡ child_by left (child_at pg i) (entries_from pg i n)
unfolding first_where keys_from entries_from
child_there left pg zero i = rw add-zero
child_there left pg (suc n) i = by_left (left (key_at pg i)) (child_there left pg n (i + 1))
  where
    by_left : (b : Bool) → child_at pg (i + 1 + first_where left (keys_from pg (i + 1) n)) ≡ child_by left (child_at pg (i + 1)) (entries_from pg (i + 1) n)
        → child_at pg (i + pick b 0 (suc (first_where left (keys_from pg (i + 1) n)))) ≡ pick b (child_at pg i) (child_by left (child_at pg (i + 1)) (entries_from pg (i + 1) n))
    by_left true ih = rw add-zero
    by_left false ih =
        let e : i + suc (first_where left (keys_from pg (i + 1) n)) ≡ i + 1 + first_where left (keys_from pg (i + 1) n) = omega arith in
        rw e ih

pub child_of_lem : (s : List ℕ) (p par j h : ℕ) (r : List (ℕ × ℕ)) (route : Route) → view s p ≡ inner_page par j h r → child_of s p (length r) route ≡ child_by (left_on route) h r
child_of_lem s p par j h r route v =
    let a = inner_at s p par j h r v in
    let n : cell_count (page s p) ≡ length r = count_of s p par j h r v in
    let z : 0 + first_where (left_on route) (keys_from (page s p) 0 (length r)) ≡ first_where (left_on route) (keys_from (page s p) 0 (length r)) = omega arith in
    let e : entries_from (page s p) 0 (length r) ≡ r = rw n at a.entries in
    ap (child_at (page s p)) (turn_is route (keys_from (page s p) 0 (length r)) ∙ sym z)
    ∙ (child_there (left_on route) (page s p) (length r) 0 ∙ rw (e, a.child))

module _ (left : ℕ → Bool) where
  child_left : (h : ℕ) (r : List (ℕ × ℕ)) (k c : ℕ) (r' : List (ℕ × ℕ)) → left k ≡ true → child_by left h (r ++ ((k, c) ∷ r')) ≡ child_by left h r
  child_left h [] k c r' e = rw e
  child_left h (x ∷ r) k c r' e = ap (pick (left x.0) h) (child_left x.1 r k c r' e)

  child_right : ((x y : ℕ) → x ≤ y → left y ≡ false → left x ≡ false) → (h : ℕ) (r : List (ℕ × ℕ)) (k c : ℕ) (r' : List (ℕ × ℕ)) → left k ≡ false
      → All (λ (x : ℕ × ℕ). x.0 ≤ k) r → child_by left h (r ++ ((k, c) ∷ r')) ≡ child_by left c r'
  child_right f h [] k c r' e o = rw e
  child_right f h (x ∷ r) k c r' e o = rw (f x.0 k o.0 e) (child_right f x.1 r k c r' e o.1)

-- ---- the descent

pub descend-run : (s : List ℕ) (used : ℕ) (route : Route) (n m par nxt lo hi : ℕ) (g : Shape) → Holds (view s) par nxt g → Deep n g → Bounded lo hi g
    → All (λ p. p < used) (pages_in g) → n ≤ m → descend_of s used (child_by (left_on route) (head g) (rest g)) route m ≡ Ok (leaf_by (left_on route) g)
descend-run s used route n m par nxt lo hi (leaf p rs) h d b u l =
    sym (way_leaf s used p (leaf_here s used p u.0 (leaf_at s p par nxt rs h).type) route refl m refl)
descend-run s used route n m par nxt lo hi (node p f) h d b u l =
    let v = h.1 in
    let e = d.1 in
    let a = inner_at s p par h.0 (head f) (rest f) v in
    let j = judged_inner_of s p par h.0 (head f) (rest f) v (seps_rise lo hi f b) in
    let i = descend-run s used route d.0 (m - 1) p nxt lo hi f h.2 d.2 b u.1 (omega arith) in
    let other : node_type (page s p) ≡ 1 → ⊥ = λ t. let z : ◌≡◌ {A = ℕ} 0 1 = sym a.type ∙ t in omega arith in
    let child = child_of_lem s p par h.0 (head f) (rest f) route v in
    sym (way_on s used p (inner_here s used p u.0 other) route refl refl refl refl m {m = m - 1} (omega arith) j (sym child)) ∙ i
descend-run s used route n m par nxt lo hi (pair a k g) h d b u l =
    by_left (left_on route k) refl
    (descend-run s used route n m par (first g) lo k a h.0 d.0 b.0 (all_left (λ p. p < used) (pages_in a) (pages_in g) u) l)
    (descend-run s used route n m par nxt k hi g h.1 d.1 b.1 (all_right (λ p. p < used) (pages_in a) (pages_in g) u) l)
  where
    by_left : (x : Bool) → left_on route k ≡ x
        → descend_of s used (child_by (left_on route) (head a) (rest a)) route m ≡ Ok (leaf_by (left_on route) a)
        → descend_of s used (child_by (left_on route) (head g) (rest g)) route m ≡ Ok (leaf_by (left_on route) g)
        → descend_of s used (child_by (left_on route) (head a) (rest a ++ ((k, head g) ∷ rest g))) route m
        ≡ Ok (pick x (leaf_by (left_on route) a) (leaf_by (left_on route) g))
    by_left true e i j = ap (λ (q : ℕ). descend_of s used q route m) (child_left (left_on route) (head a) (rest a) k (head g) (rest g) e) ∙ i
    by_left false e i j =
        ap (λ (q : ℕ). descend_of s used q route m) (child_right (left_on route) (right-before route) (head a) (rest a) k (head g) (rest g) e (seps_below lo k a b.0)) ∙ j

-- from the one page of a tree
pub descend_sub : (s : List ℕ) (used : ℕ) (route : Route) (n m par nxt lo hi : ℕ) (g : Shape) → IsTree g → Holds (view s) par nxt g → Deep n g → Bounded lo hi g
    → All (λ p. p < used) (pages_in g) → n ≤ m → descend_of s used (head g) route m ≡ Ok (leaf_by (left_on route) g)
descend_sub s used route n m par nxt lo hi g i h d b u l = rw (tree-rest g i) at (descend-run s used route n m par nxt lo hi g h d b u l)

-- ---- where each route leads to

pub search_leaf : (key : ℕ) (g : Shape) → leaf_by (leb key) g ≡ leaf_of key g
search_leaf key (leaf p rs) = refl
search_leaf key (node p f) = search_leaf key f
search_leaf key (pair a k b) = rw (search_leaf key a, search_leaf key b)

pub insert-leaf : (key : ℕ) (g : Shape) (c : Ctx) → leaf_by (ltb key) g ≡ (loc key g c).page
insert-leaf key (leaf p rs) c = refl
insert-leaf key (node p f) c = insert-leaf key f (under p c)
insert-leaf key (pair a k b) c = by_left (ltb key k) (insert-leaf key a (in_l k b c)) (insert-leaf key b (in_r a k c))
  where
    by_left : (x : Bool) → leaf_by (ltb key) a ≡ (loc key a (in_l k b c)).page → leaf_by (ltb key) b ≡ (loc key b (in_r a k c)).page
        → pick x (leaf_by (ltb key) a) (leaf_by (ltb key) b) ≡ (pick x (loc key a (in_l k b c)) (loc key b (in_r a k c))).page
    by_left true i j = i
    by_left false i j = j

pub first_leaf : (g : Shape) → leaf_by (λ k. true) g ≡ first g
first_leaf (leaf p rs) = refl
first_leaf (node p f) = first_leaf f
first_leaf (pair a k b) = first_leaf a

-- ---- the whole tree

module _ (s : List ℕ) (root used : ℕ) (t : Shape) (f : WellFormed (view s) root used t) where
  pub descend-tree : (route : Route) → descend_of s used root route 3 ≡ Ok (leaf_by (left_on route) t)
  descend-tree route =
      rw f.root_is at (descend_sub s used route f.level.0 3 0 0 0 4294967295 t f.tree f.rep f.level.2 f.bounds f.below f.level.1)

  pub descend_search : (key : ℕ) → descend_of s used root (Route.Search key) 3 ≡ Ok (leaf_of key t)
  descend_search key = descend-tree (Route.Search key) ∙ ap (λ (p : ℕ). Ok p) (search_leaf key t)

  pub descend-insert : (key : ℕ) → descend_of s used root (Route.Insert key) 3 ≡ Ok (loc key t top).page
  descend-insert key = descend-tree (Route.Insert key) ∙ ap (λ (p : ℕ). Ok p) (insert-leaf key t top)

  pub descend-first : descend_of s used root Route.First 3 ≡ Ok (first t)
  descend-first = descend-tree Route.First ∙ ap (λ (p : ℕ). Ok p) (first_leaf t)
