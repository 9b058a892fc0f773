-- The judgement of section 3 says yes exactly for a well-formed tree: the tree that is read off a pool that is judged well
-- is well-formed, and a pool that holds a well-formed tree is judged well. Assumes nothing.
use mathlib.Core.Path.{◌≡◌, refl, sym, ap, ◌∙◌, subst}
use mathlib.Core.Bool.{Bool, true, false, ◌&&◌, ◌||◌, or-true}
use mathlib.Core.List.{List, [], ◌∷◌, ◌++◌, map, map-append}
use Prim.Native.Nat.{ℕ, zero, suc, ◌≤◌, ◌<◌}
use native.Mathlib.Omega.{arith}
use lib.ListN.{length}
use Rattle.page.specs.Page.{page}
use Rattle.page.specs.Header.{next_leaf, cell_count}
use Rattle.inner.specs.Inner.{child_at, keys_of, children_of}
use Rattle.leaf.specs.Rows.{rows}
use Rattle.tree_check.specs.Check.{sound_inner, sound_kids, sound_tree, leaves_of, pages_of, leaves_linked, well_at, is_well_formed}
use Rattle.tree.specs.Distinct.{distinct}
use Rattle.theory_tree.specs.Pages.{Page, leaf_page, inner_page}
use Rattle.theory_tree.specs.View.{view, entries_of}
use Rattle.theory_tree.specs.Shape.{Shape, leaf, node, pair, pages_in, head, rest, Deep, All, Bounded, Sized, IsTree, WellFormed}
use Rattle.tree_check.proofs.Linking.{each_one}
use Rattle.theory_tree.proofs.Workers.{roots}
use Rattle.theory_tree.proofs.Entries.{head_of, rest_of, kids}
use Rattle.theory_tree.proofs.Lists.{all_app, all_left, all_right}
use Rattle.theory_tree.proofs.Says.{leaf-said, inner_said, entries_length, entries_of_lem, kids_of_lem}
use Rattle.theory_tree.proofs.Order.{bnd_le}
use Rattle.theory_tree.proofs.Read.{cells_of, run, read}
use Rattle.theory_tree.proofs.Enter.{roots_is, tree-rest}
use Rattle.theory_walks.proofs.Paging.{leaf_at, inner_at, keys_of_lem, children_of_lem}
use Rattle.theory_check.proofs.Paging.{LeafFits, InnerFits, Climbs, climbs_append, leaf_sound, inner_sound_lem, sound_leaf_lem, sound_inner_lem}
use Rattle.theory_check.proofs.Hanging.{ends, Hung, hung, links, holds, later, links_all, linked_all, pages_of_lem, ends_of, none_twice, twice_none}
use Rattle.store.proofs.Tests.{and_both}

-- the keys of a run's entries
abbrev seps : List (ℕ × ℕ) → List ℕ
seps r = map (λ (x : ℕ × ℕ). x.0) r

-- ---- what is read is one tree, with the entries that its page has

module _ (s : List ℕ) where
  read_tree : (n p : ℕ) → IsTree (read (view s) n p)
  read_tree zero p = tt
  read_tree (suc n) p = tt

  read_head : (n p : ℕ) → head (read (view s) n p) ≡ p
  read_head zero p = refl
  read_head (suc n) p = refl

  read_rest : (n p : ℕ) → rest (read (view s) n p) ≡ []
  read_rest n p = tree-rest (read (view s) n p) (read_tree n p)

  run-head : (n h : ℕ) (r : List (ℕ × ℕ)) → head (run (read (view s) n) h r) ≡ h
  run-head n h [] = read_head n h
  run-head n h (x ∷ r) = read_head n h

  run-rest : (n h : ℕ) (r : List (ℕ × ℕ)) → rest (run (read (view s) n) h r) ≡ r
  run-rest n h [] = read_rest n h
  run-rest n h (x ∷ r) = rw (read_rest n h, run-head n x.1 r, run-rest n x.1 r)

-- ---- what is judged well is held, its links aside, by the tree that is read

module _ (used : ℕ) (s : List ℕ) where
  -- what a run of n levels is, under the page par and between lo and hi
  record Good (n par lo hi : ℕ) (t : Shape) : Type 0 where
    hangs : Hung s par t
    deep : Deep n t
    bounds : Bounded lo hi t
    small : Sized t
    below : All (λ p. p < used) (pages_in t)

  good-leaf : (par p lo hi : ℕ) → lo ≤ hi → sound_tree s used 0 par p lo hi ≡ true → Good 0 par lo hi (read (view s) 0 p)
  unfolding sound_tree view
  good-leaf par p lo hi h e =
      let g = sound_leaf_lem used par p lo hi s h e in
      let f = g.2 in
      let v : view s p ≡ leaf_page par (next_leaf (page s p)) (rows (page s p)) = leaf-said (page s p) f.type f.count ∙ rw g.1 in
      subst (λ (x : Page). Good 0 par lo hi (leaf p (cells_of x))) (sym v)
      (record { hangs = v; deep = refl; bounds = (f.keys, f.sorted); small = tt; below = (g.0, tt) })

  -- the children of a page, each one good where it is sound
  good-run : (n par : ℕ) → ((p lo hi : ℕ) → lo ≤ hi → sound_tree s used n par p lo hi ≡ true → Good n par lo hi (read (view s) n p))
      → (h : ℕ) (r : List (ℕ × ℕ)) (lo hi : ℕ) → Climbs lo hi (seps r) → sound_kids (sound_tree s used n par) lo hi (seps r) (kids h r) ≡ true
      → Good n par lo hi (run (read (view s) n) h r)
  unfolding sound_kids
  good-run n par each h [] lo hi c e = each h lo hi c e
  good-run n par each h (x ∷ r) lo hi c e =
      let q = and_both (sound_tree s used n par h lo x.0) (sound_kids (sound_tree s used n par) x.0 hi (seps r) (kids x.1 r)) e in
      let a = each h lo x.0 c.0 q.0 in
      let b = good-run n par each x.1 r x.0 hi c.1 q.1 in
      record {
        hangs = (a.hangs, b.hangs);
        deep = (a.deep, b.deep);
        bounds = (a.bounds, b.bounds);
        small = (a.small, b.small);
        below = all_app (λ p. p < used) (pages_in (read (view s) n h)) (pages_in (run (read (view s) n) x.1 r)) a.below b.below;
      }

  good-node : (n par p j lo hi : ℕ) (f : Shape) → view s p ≡ inner_page par j (head f) (rest f) → p < used → 1 ≤ length (rest f) → length (rest f) ≤ 510
      → Good n p lo hi f → Good (suc n) par lo hi (node p f)
  good-node n par p j lo hi f v u l h g =
      record { hangs = (j, v, g.hangs); deep = (n, refl, g.deep); bounds = g.bounds; small = (l, h, g.small); below = (u, g.below) }

  good : (n par p lo hi : ℕ) → lo ≤ hi → sound_tree s used n par p lo hi ≡ true → Good n par lo hi (read (view s) n p)
  unfolding sound_tree view
  good zero par p lo hi h e = good-leaf par p lo hi h e
  good (suc n) par p lo hi h e =
      let pg = page s p in
      let q = and_both (sound_inner s used par p lo hi) (sound_kids (sound_tree s used n p) lo hi (keys_of pg) (children_of pg)) e in
      let g = sound_inner_lem used par p lo hi s h q.0 in
      let i = g.2 in
      let v : view s p ≡ inner_page par (next_leaf pg) (child_at pg 0) (entries_of pg) = inner_said pg i.type i.low i.high ∙ rw g.1 in
      let f = run (read (view s) n) (child_at pg 0) (entries_of pg) in
      let below : Good n p lo hi f
      = good-run n p (good n p) (child_at pg 0) (entries_of pg) lo hi (rw (entries_of_lem pg) at i.keys) (rw (entries_of_lem pg, kids_of_lem pg) at q.1) in
      let same : rest f ≡ entries_of pg = run-rest s n (child_at pg 0) (entries_of pg) in
      let count : length (rest f) ≡ cell_count pg = ap length same ∙ entries_length 0 (cell_count pg) pg in
      subst (λ (x : Page). Good (suc n) par lo hi (node p (run (read (view s) n) (head_of x) (rest_of x)))) (sym v)
      (good-node n par p (next_leaf pg) lo hi f (v ∙ rw (run-head s n (child_at pg 0) (entries_of pg), same)) g.0 (rw count i.low) (rw count i.high) below)

-- ---- a run that is held is sound

kids_append : (f : ℕ → ℕ → ℕ → Bool) (lo k hi h c : ℕ) (r q : List (ℕ × ℕ)) → sound_kids f lo k (seps r) (kids h r) ≡ true → sound_kids f k hi (seps q) (kids c q) ≡ true
    → sound_kids f lo hi (seps (r ++ ((k, c) ∷ q))) (kids h (r ++ ((k, c) ∷ q))) ≡ true
unfolding sound_kids
kids_append f lo k hi h c [] q a b = rw a b
kids_append f lo k hi h c (x ∷ r) q a b =
    let u = and_both (f h lo x.0) (sound_kids f x.0 k (seps r) (kids x.1 r)) a in
    rw u.0 (kids_append f x.0 k hi x.1 c r q u.1 b)

-- the separators of a run never fall
seps_climb : (lo hi : ℕ) (t : Shape) → Bounded lo hi t → Climbs lo hi (seps (rest t))
seps_climb lo hi (leaf p rs) h = bnd_le lo hi (leaf p rs) h
seps_climb lo hi (node p f) h = bnd_le lo hi f h
seps_climb lo hi (pair a k b) h = rw map-append (climbs_append lo k hi (seps (rest a)) (seps (rest b)) (seps_climb lo k a h.0) (seps_climb k hi b h.1))

module _ (used : ℕ) (s : List ℕ) where
  run_sound : (n par lo hi : ℕ) (t : Shape) → Hung s par t → Deep n t → Bounded lo hi t → All (λ p. p < used) (pages_in t)
      → sound_kids (sound_tree s used n par) lo hi (seps (rest t)) (kids (head t) (rest t)) ≡ true
  unfolding sound_kids sound_tree
  run_sound n par lo hi (leaf p rs) h d b u =
      let y = leaf_at s p _ _ _ h in
      let f : LeafFits lo hi (page s p)
      = record { type = y.type; count = ap length y.rows_are ∙ y.count; keys = rw y.rows_are b.0; sorted = rw y.rows_are b.1 } in
      rw d (leaf_sound used par p lo hi s u.0 y.parent f)
  run_sound n par lo hi (node p f) h d b u =
      let y = inner_at s p par h.0 (head f) (rest f) h.1 in
      let ks = keys_of_lem s p par h.0 (head f) (rest f) h.1 in
      let i : InnerFits lo hi (page s p) = record { type = y.type; low = y.low; high = y.high; keys = rw ks (seps_climb lo hi f b) } in
      rw (d.1, inner_sound_lem used par p lo hi s u.0 y.parent i, ks, children_of_lem s p par h.0 (head f) (rest f) h.1)
      (run_sound d.0 p lo hi f h.2 d.2 b u.1)
  run_sound n par lo hi (pair a k b) h d w u =
      kids_append (sound_tree s used n par) lo k hi (head a) (head b) (rest a) (rest b)
      (run_sound n par lo k a h.0 d.0 w.0 (all_left (λ p. p < used) (pages_in a) (pages_in b) u))
      (run_sound n par k hi b h.1 d.1 w.1 (all_right (λ p. p < used) (pages_in a) (pages_in b) u))

-- ---- the tree

-- the pages and leaves of one tree
module _ (s : List ℕ) (n par root : ℕ) (t : Shape) (tree : IsTree t) (top : head t ≡ root) (h : Hung s par t) (d : Deep n t) where
  one-root : roots t ≡ root ∷ []
  one-root = roots_is t ∙ rw (tree-rest t tree, top)

  tree_pages : pages_in t ≡ pages_of s n root
  tree_pages = pages_of_lem s n par t h d ∙ (rw one-root (each_one (pages_of s n) root))

  tree-ends : ends t ≡ leaves_of s n root
  tree-ends = ends_of s n par t h d ∙ (rw one-root (each_one (leaves_of s n) root))

module _ (used root : ℕ) (s : List ℕ) where
  -- the tree that is read
  pub well_is : (n : ℕ) → n ≤ 3 → well_at s used root n ≡ true → WellFormed (view s) root used (read (view s) n root)
  unfolding well_at
  well_is n few e =
      let t = read (view s) n root in
      let a = and_both (sound_tree s used n 0 root 0 4294967295) (leaves_linked s (leaves_of s n root) && distinct (pages_of s n root)) e in
      let b = and_both (leaves_linked s (leaves_of s n root)) (distinct (pages_of s n root)) a.1 in
      let g = good used s n 0 root 0 4294967295 (omega arith) a.0 in
      let l = links_all s t (rw (tree-ends s n 0 root t (read_tree s n root) (read_head s n root) g.hangs g.deep) b.0) in
      record {
        tree = read_tree s n root;
        root_is = read_head s n root;
        rep = holds s 0 0 t g.hangs l;
        level = (n, few, g.deep);
        bounds = g.bounds;
        small = g.small;
        later = later s 0 t l;
        distinct = none_twice (pages_in t) (rw (tree_pages s n 0 root t (read_tree s n root) (read_head s n root) g.hangs g.deep) b.1);
        below = g.below;
      }

  pub well_at_lem : (t : Shape) (f : WellFormed (view s) root used t) → well_at s used root f.level.0 ≡ true
  unfolding well_at sound_kids
  well_at_lem t f =
      let n = f.level.0 in
      let d = f.level.2 in
      let h = hung s 0 0 t f.rep in
      let z = run_sound used s n 0 0 4294967295 t h d f.bounds f.below in
      let a : sound_tree s used n 0 root 0 4294967295 ≡ true = rw (tree-rest t f.tree, f.root_is) at z in
      let b : leaves_linked s (leaves_of s n root) ≡ true = rw (tree-ends s n 0 root t f.tree f.root_is h d) at (linked_all s t (links s 0 0 t f.rep f.later)) in
      let c : distinct (pages_of s n root) ≡ true = rw (tree_pages s n 0 root t f.tree f.root_is h d) at (twice_none (pages_in t) f.distinct) in
      rw (a, b) c

  -- one of four levels
  any_level : (n : ℕ) → n ≤ 3 → well_at s used root n ≡ true → is_well_formed s used root ≡ true
  unfolding is_well_formed
  any_level zero h e = rw e
  any_level (suc zero) h e = rw e (or-true (well_at s used root 0))
  any_level (suc (suc zero)) h e = rw (e, or-true (well_at s used root 1)) (or-true (well_at s used root 0))
  any_level (suc (suc (suc zero))) h e = rw (e, or-true (well_at s used root 2), or-true (well_at s used root 1)) (or-true (well_at s used root 0))
  any_level (suc (suc (suc (suc n)))) h e = absurd (omega arith)

  some_level : is_well_formed s used root ≡ true → (n : ℕ) × (n ≤ 3) × (well_at s used root n ≡ true)
  unfolding is_well_formed
  some_level e = by_tests (well_at s used root 0) refl (well_at s used root 1) refl (well_at s used root 2) refl e
    where
      by_tests : (a : Bool) → well_at s used root 0 ≡ a → (b : Bool) → well_at s used root 1 ≡ b → (c : Bool) → well_at s used root 2 ≡ c
          → (a || (b || (c || well_at s used root 3))) ≡ true → (n : ℕ) × (n ≤ 3) × (well_at s used root n ≡ true)
      by_tests true p b q c r e = (0, omega arith, p)
      by_tests false p true q c r e = (1, omega arith, q)
      by_tests false p false q true r e = (2, omega arith, r)
      by_tests false p false q false r e = (3, omega arith, e)

pub formed-is : (used root : ℕ) (s : List ℕ) → is_well_formed s used root ≡ true → (t : Shape) × WellFormed (view s) root used t
formed-is used root s e =
    let l = some_level used root s e in
    (read (view s) l.0 root, well_is used root s l.0 l.1 l.2)

pub formed-yes : (used root : ℕ) (s : List ℕ) (t : Shape) → WellFormed (view s) root used t → is_well_formed s used root ≡ true
formed-yes used root s t f = any_level used root s f.level.0 f.level.1 (well_at_lem used root s t f)
