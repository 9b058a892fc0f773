-- One page: the judgement of a leaf and of an internal page under bounds, said of its rows and of its keys, both ways.
-- Assumes nothing.
use Rattle.std.proofs.Common.{Result, Ok, Err}
use Rattle.row.specs.declared.Fault.{Fault}
use mathlib.Core.Path.{◌≡◌, refl, ◌∙◌}
use mathlib.Core.Bool.{Bool, true, false, ◌&&◌, ◌||◌, false≢true}
use mathlib.Core.List.{List, [], ◌∷◌, ◌++◌, map}
use Prim.Native.Nat.{ℕ, ◌≤◌, ◌<◌}
use native.Mathlib.Omega.{arith}
use native.Mathlib.Nat.{le_trans}
use lib.Dec.{leb, ltb, eqb}
use lib.ListN.{length, length-map}
use borrow.Author.Tests.{ltb-true, leb-true, eqb-true, lt-ltb, le-leb, eq-eqb}
use Rattle.store.specs.Pick.{pick}
use Rattle.page.specs.Page.{page}
use Rattle.page.specs.Header.{node_type, parent_of, cell_count}
use Rattle.row.specs.declared.Cell.{Cell}
use Rattle.leaf.specs.Cells.{cells, fold_cells, in_order, judge_cells, judge_leaf, on_judged}
use Rattle.row.specs.Fault.{structural}
use Rattle.leaf.specs.Rows.{Row, row_of, rows}
use Rattle.inner.specs.Inner.{keys_of, never_falls, judge_inner}
use Rattle.tree.specs.Descend.{on_inner}
use Rattle.tree_check.specs.Check.{within, all_within, cells_within, sound_leaf, sound_inner}
use Rattle.theory_tree.specs.Shape.{All, KeysIn, NotAfter, Sorted}
use Rattle.leaf.proofs.Chain.{Rising, judged-leaf}
use Rattle.inner.proofs.Routing.{judge_ok}
use Rattle.theory_tree.proofs.Lists.{all_map}
use Rattle.theory_tree.proofs.Order.{btw_above, btw_below}
use Rattle.theory_walks.proofs.Paging.{leaf-judged}
use Rattle.store.proofs.Tests.{and_both}

-- ---- the order of rows

-- the row y is not before the key k with the creator c
abbrev From : (k c : ℕ) → Row → Type 0
From k c y = (k ≤ y.key) × (k ≡ y.key → c ≤ y.creator)

from_trans : (k c : ℕ) (x y : Row) → From k c x → NotAfter x y → From k c y
from_trans k c x y h g =
    let a = h.0 in
    let b = g.0 in (
      omega arith,
      λ e.
          let i : c ≤ x.creator = h.1 (omega arith) in
          let j : x.creator ≤ y.creator = g.1 (omega arith) in
          omega arith,
    )

module _ (k₀ c₀ k c : ℕ) where
  order_is : in_order k₀ c₀ k c ≡ true → (k₀ ≤ k) × (k₀ ≡ k → c₀ ≤ c)
  unfolding in_order
  order_is e = by_test (ltb k₀ k) refl e
    where
      by_test : (b : Bool) → ltb k₀ k ≡ b → (b || (eqb k₀ k && leb c₀ c)) ≡ true → (k₀ ≤ k) × (k₀ ≡ k → c₀ ≤ c)
      by_test true t q = let l = ltb-true k₀ k t in (omega arith, λ z. omega arith)
      by_test false t q =
          let a = and_both (eqb k₀ k) (leb c₀ c) q in
          let u = eqb-true k₀ k a.0 in
          (omega arith, λ z. leb-true c₀ c a.1)

module _ (s : List ℕ) where
  rising_sorted : (k c : ℕ) (cs : List Cell) → Rising k c cs → All (From k c) (map (row_of s) cs) × Sorted (map (row_of s) cs)
  rising_sorted k c [] h = (tt, tt)
  rising_sorted k c (x ∷ xs) h =
      let o = order_is k c x.key x.version.creator h.0 in
      let r = rising_sorted x.key x.version.creator xs h.1 in
      ((o, all_map (NotAfter (row_of s x)) (From k c) (λ y. from_trans k c (row_of s x) y o) (map (row_of s) xs) r.0), r)

-- ---- keys in bounds

-- the keys of l are from lo to hi
abbrev Inside : (lo hi : ℕ) → List Row → Type 0
Inside lo hi l = All (λ r. (lo ≤ r.key) × (r.key ≤ hi)) l

inside : (lo hi : ℕ) (l : List Row) → All (λ r. lo ≤ r.key) l → All (λ r. r.key ≤ hi) l → Inside lo hi l
inside lo hi [] a b = tt
inside lo hi (x ∷ xs) a b = ((a.0, b.0), inside lo hi xs a.1 b.1)

sorted_keys : (lo hi : ℕ) (l : List Row) → lo ≤ hi → Inside lo hi l → Sorted l → KeysIn lo hi l
sorted_keys lo hi [] h a g = h
sorted_keys lo hi (x ∷ xs) h a g =
    let low = all_map (NotAfter x) (λ r. x.key ≤ r.key) (λ r n. n.0) xs g.0 in
    let high = all_map (λ r. (lo ≤ r.key) × (r.key ≤ hi)) (λ r. r.key ≤ hi) (λ r n. n.1) xs a.1 in
    (a.0.0, sorted_keys x.key hi xs a.0.1 (inside x.key hi xs low high) g.1)

module _ (lo hi k : ℕ) where
  within-is : within lo hi k ≡ true → (lo ≤ k) × (k ≤ hi)
  unfolding within
  within-is e = let a = and_both (leb lo k) (leb k hi) e in (leb-true lo k a.0, leb-true k hi a.1)

  within-yes : lo ≤ k → k ≤ hi → within lo hi k ≡ true
  unfolding within
  within-yes h g = rw (le-leb lo k h, le-leb k hi g)

module _ (lo hi : ℕ) (s : List ℕ) where
  fold_is : (b : Bool) (cs : List Cell) → fold_cells (λ b c. b && within lo hi c.key) b cs ≡ true → (b ≡ true) × Inside lo hi (map (row_of s) cs)
  unfolding fold_cells
  fold_is b [] e = (e, tt)
  fold_is b (x ∷ xs) e =
      let r = fold_is (b && within lo hi x.key) xs e in
      let a = and_both b (within lo hi x.key) r.0 in
      (a.0, (within-is lo hi x.key a.1, r.1))

  fold-yes : (cs : List Cell) → Inside lo hi (map (row_of s) cs) → fold_cells (λ b c. b && within lo hi c.key) true cs ≡ true
  unfolding fold_cells
  fold-yes [] h = refl
  fold-yes (x ∷ xs) h = rw (within-yes lo hi x.key h.0.0 h.0.1) (fold-yes xs h.1)

-- ---- a leaf

pub record LeafFits (lo hi : ℕ) (pg : List ℕ) : Type 0 where
  pub type : node_type pg ≡ 1
  pub count : length (rows pg) ≡ cell_count pg
  pub keys : KeysIn lo hi (rows pg)
  pub sorted : Sorted (rows pg)

judged_type : (p : ℕ) (pg : List ℕ) (e : ℕ) → judge_leaf pg p ≡ Ok e → node_type pg ≡ 1
unfolding judge_leaf
judged_type p pg e h = by_type (eqb (node_type pg) 1) refl h
  where
    by_type : (b : Bool) → eqb (node_type pg) 1 ≡ b → pick b (judge_cells pg p 0 0 (cell_count pg) 12) (Err (structural p)) ≡ Ok e → node_type pg ≡ 1
    by_type true t q = eqb-true (node_type pg) 1 t
    by_type false t q = absurd (let z : ◌≡◌ {A = ℕ} 0 1 = cc in omega arith)

pub leaf-fits : (lo hi p : ℕ) (pg : List ℕ) → lo ≤ hi → cells_within pg lo hi p ≡ true → LeafFits lo hi pg
unfolding cells_within
leaf-fits lo hi p pg h c = by_judged (judge_leaf pg p) refl c
  where
    by_judged : (j : Result ℕ Fault) → judge_leaf pg p ≡ j → on_judged (λ e. fold_cells (λ b c. b && within lo hi c.key) true (cells pg)) (λ f. false) j ≡ true
        → LeafFits lo hi pg
    by_judged (Err f) q u = absurd (false≢true u)
    by_judged (Ok e) q u =
        let t = judged-leaf p pg e q in
        let g = (rising_sorted pg 0 0 (cells pg) t.rising).1 in
        record {
          type = judged_type p pg e q;
          count = length-map (cells pg) (row_of pg) ∙ t.count;
          keys = sorted_keys lo hi (rows pg) h (fold_is lo hi pg true (cells pg) u).1 g;
          sorted = g;
        }

pub leaf-within : (lo hi p : ℕ) (pg : List ℕ) → LeafFits lo hi pg → cells_within pg lo hi p ≡ true
unfolding cells_within
leaf-within lo hi p pg f =
    let j = leaf-judged p pg f.type f.count f.sorted in
    let i = inside lo hi (rows pg) (btw_above lo hi (rows pg) f.keys) (btw_below lo hi (rows pg) f.keys) in
    rw j.1 (fold-yes lo hi pg (cells pg) i)

-- ---- an internal page

-- keys from lo to hi that never fall
abbrev pub Climbs : (lo hi : ℕ) → List ℕ → Type 0
Climbs lo hi [] = lo ≤ hi
Climbs lo hi (k ∷ ks) = (lo ≤ k) × Climbs k hi ks

pub climbs_le : (lo hi : ℕ) (ks : List ℕ) → Climbs lo hi ks → lo ≤ hi
climbs_le lo hi [] h = h
climbs_le lo hi (k ∷ ks) h = le_trans h.0 (climbs_le k hi ks h.1)

pub climbs_append : (lo k hi : ℕ) (ks ls : List ℕ) → Climbs lo k ks → Climbs k hi ls → Climbs lo hi (ks ++ (k ∷ ls))
climbs_append lo k hi [] ls h g = (h, g)
climbs_append lo k hi (x ∷ ks) ls h g = (h.0, climbs_append x k hi ks ls h.1 g)

climbs_up : (k lo hi : ℕ) (ks : List ℕ) → k ≤ hi → never_falls k ks ≡ true → all_within lo hi ks ≡ true → Climbs k hi ks
unfolding never_falls all_within
climbs_up k lo hi [] h r w = h
climbs_up k lo hi (y ∷ ys) h r w =
    let a = and_both (within lo hi y) (all_within lo hi ys) w in
    let c = and_both (leb k y) (never_falls y ys) r in
    (leb-true k y c.0, climbs_up y lo hi ys (within-is lo hi y a.0).1 c.1 a.1)

climbs_is : (lo hi : ℕ) (ks : List ℕ) → lo ≤ hi → never_falls 0 ks ≡ true → all_within lo hi ks ≡ true → Climbs lo hi ks
unfolding never_falls all_within
climbs_is lo hi [] h r w = h
climbs_is lo hi (y ∷ ys) h r w =
    let a = and_both (within lo hi y) (all_within lo hi ys) w in
    let b = within-is lo hi y a.0 in
    (b.0, climbs_up y lo hi ys b.1 (and_both (leb 0 y) (never_falls y ys) r).1 a.1)

climbs_falls : (x lo hi : ℕ) (ks : List ℕ) → x ≤ lo → Climbs lo hi ks → never_falls x ks ≡ true
unfolding never_falls
climbs_falls x lo hi [] h c = refl
climbs_falls x lo hi (k ∷ ks) h c = rw (le-leb x k (le_trans h c.0)) (climbs_falls k k hi ks (omega arith) c.1)

climbs_within : (lo x hi : ℕ) (ks : List ℕ) → lo ≤ x → Climbs x hi ks → all_within lo hi ks ≡ true
unfolding all_within
climbs_within lo x hi [] h c = refl
climbs_within lo x hi (k ∷ ks) h c =
    let l = le_trans h c.0 in
    rw (within-yes lo hi k l (climbs_le k hi ks c.1)) (climbs_within lo k hi ks l c.1)

pub record InnerFits (lo hi : ℕ) (pg : List ℕ) : Type 0 where
  pub type : node_type pg ≡ 0
  pub low : 1 ≤ cell_count pg
  pub high : cell_count pg ≤ 510
  pub keys : Climbs lo hi (keys_of pg)

pub inner_fits : (lo hi p : ℕ) (pg : List ℕ) → lo ≤ hi → on_inner (λ n. all_within lo hi (keys_of pg)) (λ f. false) (judge_inner pg p) ≡ true → InnerFits lo hi pg
unfolding judge_inner
inner_fits lo hi p pg h e =
    by_test (eqb (node_type pg) 0 && (leb 1 (cell_count pg) && (leb (cell_count pg) 510 && never_falls 0 (keys_of pg)))) refl e
  where
    by_test : (b : Bool) → (eqb (node_type pg) 0 && (leb 1 (cell_count pg) && (leb (cell_count pg) 510 && never_falls 0 (keys_of pg)))) ≡ b
        → on_inner (λ n. all_within lo hi (keys_of pg)) (λ f. false) (pick b (Ok (cell_count pg)) (Err (structural p))) ≡ true → InnerFits lo hi pg
    by_test false t q = absurd (false≢true q)
    by_test true t q =
        let a = and_both (eqb (node_type pg) 0) (leb 1 (cell_count pg) && (leb (cell_count pg) 510 && never_falls 0 (keys_of pg))) t in
        let b = and_both (leb 1 (cell_count pg)) (leb (cell_count pg) 510 && never_falls 0 (keys_of pg)) a.1 in
        let c = and_both (leb (cell_count pg) 510) (never_falls 0 (keys_of pg)) b.1 in
        record {
          type = eqb-true (node_type pg) 0 a.0;
          low = leb-true 1 (cell_count pg) b.0;
          high = leb-true (cell_count pg) 510 c.0;
          keys = climbs_is lo hi (keys_of pg) h c.1 q;
        }

pub inner_within : (lo hi p : ℕ) (pg : List ℕ) → InnerFits lo hi pg → on_inner (λ n. all_within lo hi (keys_of pg)) (λ f. false) (judge_inner pg p) ≡ true
inner_within lo hi p pg f =
    rw (← judge_ok p pg f.type refl f.low f.high refl (climbs_falls 0 lo hi (keys_of pg) (omega arith) f.keys))
    (climbs_within lo lo hi (keys_of pg) (omega arith) f.keys)

-- ---- a page of the pool

module _ (used parent p lo hi : ℕ) (s : List ℕ) where
  pub leaf_sound : p < used → parent_of (page s p) ≡ parent → LeafFits lo hi (page s p) → sound_leaf s used parent p lo hi ≡ true
  unfolding sound_leaf
  leaf_sound h e f = rw (lt-ltb p used h, eq-eqb (parent_of (page s p)) parent e) (leaf-within lo hi p (page s p) f)

  pub inner_sound_lem : p < used → parent_of (page s p) ≡ parent → InnerFits lo hi (page s p) → sound_inner s used parent p lo hi ≡ true
  unfolding sound_inner
  inner_sound_lem h e f = rw (lt-ltb p used h, eq-eqb (parent_of (page s p)) parent e) (inner_within lo hi p (page s p) f)

  pub sound_leaf_lem : lo ≤ hi → sound_leaf s used parent p lo hi ≡ true → (p < used) × (parent_of (page s p) ≡ parent) × LeafFits lo hi (page s p)
  unfolding sound_leaf
  sound_leaf_lem h e =
      let a = and_both (ltb p used) (eqb (parent_of (page s p)) parent && cells_within (page s p) lo hi p) e in
      let b = and_both (eqb (parent_of (page s p)) parent) (cells_within (page s p) lo hi p) a.1 in
      (ltb-true p used a.0, eqb-true (parent_of (page s p)) parent b.0, leaf-fits lo hi p (page s p) h b.1)

  pub sound_inner_lem : lo ≤ hi → sound_inner s used parent p lo hi ≡ true → (p < used) × (parent_of (page s p) ≡ parent) × InnerFits lo hi (page s p)
  unfolding sound_inner
  sound_inner_lem h e =
      let judged = on_inner (λ n. all_within lo hi (keys_of (page s p))) (λ f. false) (judge_inner (page s p) p) in
      let a = and_both (ltb p used) (eqb (parent_of (page s p)) parent && judged) e in
      let b = and_both (eqb (parent_of (page s p)) parent) judged a.1 in
      (ltb-true p used a.0, eqb-true (parent_of (page s p)) parent b.0, inner_fits lo hi p (page s p) h b.1)
