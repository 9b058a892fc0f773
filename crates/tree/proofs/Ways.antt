-- The ways out of a descent and of a walk along the chain, one law each. Assumes nothing.
use Rattle.std.proofs.Common.{Result, Ok, Err}
use mathlib.Core.Path.{◌≡◌, refl, sym, ap, ◌∙◌}
use mathlib.Core.Bool.{Bool, true, false, ◌&&◌}
use mathlib.Core.List.{List}
use Prim.Native.Nat.{ℕ, zero, suc, ◌≤◌, ◌<◌}
use native.Mathlib.Omega.{arith}
use borrow.Author.Tests.{lt-ltb, le-ltb, eq-eqb, ne_eqb, leb-true, ltb-true, ltb-false}
use lib.Dec.{leb, ltb, eqb}
use Rattle.store.specs.Pick.{pick}
use Rattle.page.specs.Page.{page}
use Rattle.page.specs.Header.{node_type, cell_count, next_leaf}
use Rattle.row.specs.declared.Fault.{Fault}
use Rattle.inner.specs.Inner.{child_at, keys_from, keys_of, never_falls, judge_inner}
use Rattle.row.specs.Fault.{structural}
use Rattle.inner.specs.Route.{search_route, insert_route}
use Rattle.leaf.specs.Find.{Best}
use Rattle.tree.specs.Descend.{child_of, descend_of}
use Rattle.tree.specs.Chain.{Seen, stop, go, broken, along, seen_best, seen_test}
use Rattle.tree.specs.Steps.Descend.{leaf_at}
use Rattle.tree.specs.declared.Route.{Route}
use Rattle.store.proofs.Tests.{and_both}

-- ---- internal pages

-- what a judged internal page gives its readers
pub record InnerIs (pg : List ℕ) (n : ℕ) : Type 0 where
  pub count : cell_count pg ≡ n
  pub some : 1 ≤ n
  pub few : n ≤ 510
  pub rises : never_falls 0 (keys_from pg 0 n) ≡ true

pub inner_is : (p : ℕ) (pg : List ℕ) {r : Result ℕ Fault} {n : ℕ} → r ≡ judge_inner pg p → r ≡ Ok n → InnerIs pg n
unfolding judge_inner
inner_is p pg {r} {n} e q = by_test (eqb (node_type pg) 0 && (leb 1 (cell_count pg) && (leb (cell_count pg) 510 && never_falls 0 (keys_of pg)))) refl (sym e ∙ q)
  where
    by_test : (b : Bool) → (eqb (node_type pg) 0 && (leb 1 (cell_count pg) && (leb (cell_count pg) 510 && never_falls 0 (keys_of pg)))) ≡ b
        → pick b (Ok (cell_count pg)) (Err (structural p)) ≡ Ok n → InnerIs pg n
    by_test true t u =
        let a = and_both (eqb (node_type pg) 0) (leb 1 (cell_count pg) && (leb (cell_count pg) 510 && never_falls 0 (keys_of pg))) t in
        let b = and_both (leb 1 (cell_count pg)) (leb (cell_count pg) 510 && never_falls 0 (keys_of pg)) a.1 in
        let c = and_both (leb (cell_count pg) 510) (never_falls 0 (keys_of pg)) b.1 in
        let same : cell_count pg ≡ n = cc in
        record {
          count = same;
          some = rw same at (leb-true 1 (cell_count pg) b.0);
          few = rw same at (leb-true (cell_count pg) 510 c.0);
          rises = rw same at c.1;
        }
    by_test false t u = absurd cc

module _ (s : List ℕ) (p n : ℕ) {pg : List ℕ} {route : Route} (here : pg ≡ page s p) where
  pub child_search : {key i r : ℕ} → route ≡ Route.Search key → i ≡ search_route key (keys_from pg 0 n) → r ≡ child_at pg i → r ≡ child_of s p n route
  child_search e q u = u ∙ rw (q, e, here)

  pub child_insert : {key i r : ℕ} → route ≡ Route.Insert key → i ≡ insert_route key (keys_from pg 0 n) → r ≡ child_at pg i → r ≡ child_of s p n route
  child_insert e q u = u ∙ rw (q, e, here)

  pub child_first : {r : ℕ} → route ≡ Route.First → r ≡ child_at pg 0 → r ≡ child_of s p n route
  child_first e u = u ∙ rw (e, here)

-- ---- the way down

-- what the first look at a page says
module _ (s : List ℕ) (used p : ℕ) {r : Result Bool Fault} (said : r ≡ leaf_at s used p) where
  pub leaf_known : {b : Bool} → r ≡ Ok b → (p < used) × (eqb (node_type (page s p)) 1 ≡ b)
  leaf_known {b} e = by_use (ltb p used) refl (sym said ∙ e)
    where
      by_use : (t : Bool) → ltb p used ≡ t → pick t (Ok (eqb (node_type (page s p)) 1)) (Err (structural p)) ≡ Ok b → (p < used) × (eqb (node_type (page s p)) 1 ≡ b)
      by_use true t u = (ltb-true p used t, cc)
      by_use false t u = absurd cc

  leaf_lost : {f : Fault} → r ≡ Err f → (used ≤ p) × (f ≡ structural p)
  leaf_lost {f} e = by_use (ltb p used) refl (sym said ∙ e)
    where
      by_use : (t : Bool) → ltb p used ≡ t → pick t (Ok (eqb (node_type (page s p)) 1)) (Err (structural p)) ≡ Err f → (used ≤ p) × (f ≡ structural p)
      by_use true t u = absurd cc
      by_use false t u = (ltb-false p used t, cc)

  module _ (route : Route) where
    pub way_unused : (k : ℕ) {f : Fault} → r ≡ Err f → Err f ≡ descend_of s used p route k
    unfolding descend_of
    way_unused zero e = let l = leaf_lost e in rw (le-ltb p used l.0, l.1)
    way_unused (suc k) e = let l = leaf_lost e in rw (le-ltb p used l.0, l.1)

    module _ {b : Bool} (is : r ≡ Ok b) where
      pub way_leaf : (k : ℕ) → b ≡ true → Ok p ≡ descend_of s used p route k
      unfolding descend_of
      way_leaf zero e = let l = leaf_known is in rw (lt-ltb p used l.0, l.1, e)
      way_leaf (suc k) e = let l = leaf_known is in rw (lt-ltb p used l.0, l.1, e)

      module _ (other : b ≡ false) where
        pub way_deep : (k : ℕ) {f : Fault} → k ≤ 0 → f ≡ structural p → Err f ≡ descend_of s used p route k
        unfolding descend_of
        way_deep zero z e = let l = leaf_known is in rw (lt-ltb p used l.0, l.1, other, e)
        way_deep (suc k) z e = absurd (omega arith)

        module _ {pg : List ℕ} {j : Result ℕ Fault} (here : pg ≡ page s p) (judged : j ≡ judge_inner pg p) where
          pub way_bad : (k : ℕ) {f : Fault} → 0 < k → j ≡ Err f → Err f ≡ descend_of s used p route k
          unfolding descend_of
          way_bad zero z e = absurd (omega arith)
          way_bad (suc k) z e = let l = leaf_known is in rw (lt-ltb p used l.0, l.1, other, ← here, sym judged ∙ e)

          pub way_on : (k : ℕ) {m n q : ℕ} → k ≡ suc m → j ≡ Ok n → q ≡ child_of s p n route → descend_of s used q route m ≡ descend_of s used p route k
          unfolding descend_of
          way_on zero z e c = absurd (omega arith)
          way_on (suc k) {m} {n} {q} z e c =
              let l = leaf_known is in
              let w : m ≡ k = omega arith in
              let i : judge_inner (page s p) p ≡ Ok n = rw here at (sym judged ∙ e) in
              rw (lt-ltb p used l.0, l.1, other, i, w, c)

-- and where the page is known, that look says so
module _ (s : List ℕ) (used p : ℕ) (h : p < used) where
  pub leaf_here : node_type (page s p) ≡ 1 → Ok true ≡ leaf_at s used p
  leaf_here e = rw (lt-ltb p used h, eq-eqb (node_type (page s p)) 1 e)

  pub inner_here : (node_type (page s p) ≡ 1 → ⊥) → Ok false ≡ leaf_at s used p
  inner_here z = rw (lt-ltb p used h, ne_eqb (node_type (page s p)) 1 z)

-- ---- along the chain

module _ {A : Type 0} (look : A → ℕ → List ℕ → Seen A) (used : ℕ) (a : A) (p : ℕ) (s : List ℕ) where
  pub along_again : (m : ℕ) {f : Fault} → m ≤ 0 → f ≡ structural p → Err f ≡ along s used p look m a
  unfolding along
  along_again zero h e = rw e
  along_again (suc m) h e = absurd (omega arith)

  pub along_unused : (m : ℕ) {f : Fault} → 0 < m → used ≤ p → f ≡ structural p → Err f ≡ along s used p look m a
  unfolding along
  along_unused zero z h e = absurd (omega arith)
  along_unused (suc m) z h e = rw (le-ltb p used h, e)

  module _ {pg : List ℕ} (h : p < used) (here : pg ≡ page s p) where
    pub along_bad : (m : ℕ) {f : Fault} → 0 < m → look a p pg ≡ broken f → Err f ≡ along s used p look m a
    unfolding along
    along_bad zero z e = absurd (omega arith)
    along_bad (suc m) z e = rw (lt-ltb p used h, ← here, e)

    pub along-last : (m : ℕ) {b : A} → 0 < m → look a p pg ≡ stop b → Ok b ≡ along s used p look m a
    unfolding along
    along-last zero z e = absurd (omega arith)
    along-last (suc m) z e = rw (lt-ltb p used h, ← here, e)

    pub along-end : (m : ℕ) {b : A} {n : ℕ} → 0 < m → look a p pg ≡ go b → n ≡ next_leaf pg → n ≡ 0 → Ok b ≡ along s used p look m a
    unfolding along
    along-end zero z e q t = absurd (omega arith)
    along-end (suc m) z e q t = rw (lt-ltb p used h, ← here, e, eq-eqb (next_leaf pg) 0 (sym q ∙ t))

    pub along_on : (m : ℕ) {k n : ℕ} {b : A} → m ≡ suc k → look a p pg ≡ go b → n ≡ next_leaf pg → (n ≡ 0 → ⊥) → along s used n look k b ≡ along s used p look m a
    unfolding along
    along_on zero z e q t = absurd (omega arith)
    along_on (suc m) {k} z e q t =
        let w : m ≡ k = omega arith in
        rw (lt-ltb p used h, ← here, e, ne_eqb (next_leaf pg) 0 (λ u. t (q ∙ u)), w, q)

-- what a leaf's answer says of the walk
module _ {r x : Result (Best × Bool) Fault} (said : r ≡ x) where
  pub best-broken : {f : Fault} → r ≡ Err f → seen_best x ≡ broken f
  best-broken e = ap seen_best (sym said ∙ e)

  pub best-stop : {b : Best} {l : Bool} → r ≡ Ok (b, l) → l ≡ true → seen_best x ≡ stop b
  best-stop e t = ap seen_best (sym said ∙ e) ∙ rw t

  pub best-go : {b : Best} {l : Bool} → r ≡ Ok (b, l) → l ≡ false → seen_best x ≡ go b
  best-go e t = ap seen_best (sym said ∙ e) ∙ rw t

module _ {r x : Result (Bool × Bool) Fault} (said : r ≡ x) where
  pub test_broken : {f : Fault} → r ≡ Err f → seen_test x ≡ broken f
  test_broken e = ap seen_test (sym said ∙ e)

  pub test_stop : {b l : Bool} → r ≡ Ok (b, l) → l ≡ true → seen_test x ≡ stop b
  test_stop e t = ap seen_test (sym said ∙ e) ∙ rw t

  pub test_go : {b l : Bool} → r ≡ Ok (b, l) → l ≡ false → seen_test x ≡ go b
  test_go e t = ap seen_test (sym said ∙ e) ∙ rw t
