-- The ways out of the check of a tree, one law each: a leaf, an internal page, a subtree, the tree. Assumes nothing.
use Rattle.std.proofs.Common.{Option, Some, None, is_some, Result, Ok, Err}
use Rattle.std.specs.Result.{result_ok}
use mathlib.Core.Path.{◌≡◌, refl, sym, ◌∙◌}
use mathlib.Core.Bool.{Bool, true, false, ◌&&◌, ◌||◌, and-false, or-false}
use mathlib.Core.List.{List}
use Prim.Native.Nat.{ℕ, zero, suc, ◌+◌, ◌-◌, ◌≤◌, ◌<◌}
use native.Mathlib.Omega.{arith}
use borrow.Author.Tests.{lt-ltb, le-ltb, ltb-true, le-leb, lt-leb, leb-true, eq-eqb, ne_eqb}
use lib.Dec.{leb, ltb, eqb}
use Rattle.store.specs.Pick.{pick}
use Rattle.page.specs.Page.{page}
use Rattle.page.specs.Header.{node_type, parent_of, next_leaf, cell_count}
use Rattle.row.specs.declared.Cell.{Cell}
use Rattle.row.specs.declared.Fault.{Fault}
use Rattle.leaf.specs.Cells.{Step, on_step, step_of}
use Rattle.inner.specs.Inner.{key_at, child_at, keys_from, keys_of, never_falls, judge_inner}
use Rattle.tree.specs.Descend.{on_inner}
use Rattle.tree_check.specs.Check.{within, all_within, cells_within, sound_leaf, sound_inner, well_at, is_well_formed}
use Rattle.tree_check.specs.Steps.Check.{inner_sound, kids_of, check_of, is_first}
use Rattle.leaf.proofs.Walking.{Walked, done, bad, walk, on_walked}
use Rattle.leaf.proofs.Finding.{loop_type, loop_bad, loop_done}
use Rattle.tree.proofs.Ways.{InnerIs, inner_is}
use Rattle.store.proofs.Tests.{and_both}

-- ---- keys under their bounds

module _ (lo hi k : ℕ) where
  pub within_in : lo ≤ k → k ≤ hi → within lo hi k ≡ true
  unfolding within
  within_in l h = rw (le-leb lo k l, le-leb k hi h)

  pub within_low : k < lo → within lo hi k ≡ false
  unfolding within
  within_low l = rw (lt-leb lo k l)

  pub within_high : hi < k → within lo hi k ≡ false
  unfolding within
  within_high h = rw (lt-leb k hi h, and-false (leb lo k))

module _ (lo hi : ℕ) (pg : List ℕ) where
  -- keys that never fall: the first and the last tell for all
  all_in : (x n m i j : ℕ) → n ≡ suc m → j ≡ i + m → lo ≤ key_at pg i → key_at pg j ≤ hi → never_falls x (keys_from pg i n) ≡ true
      → (key_at pg i ≤ hi) × (all_within lo hi (keys_from pg i n) ≡ true)
  unfolding never_falls keys_from all_within within
  all_in x zero m i j e f l h r = absurd (omega arith)
  all_in x (suc zero) m i j e f l h r =
      let z : j ≡ i = omega arith in
      let g = rw z at h in
      (g, rw (le-leb lo (key_at pg i) l, le-leb (key_at pg i) hi g))
  all_in x (suc (suc n)) m i j e f l h r =
      let s = (and_both (leb x (key_at pg i)) (never_falls (key_at pg i) (keys_from pg (i + 1) (suc n))) r).1 in
      let up = leb-true (key_at pg i) (key_at pg (i + 1)) (and_both (leb (key_at pg i) (key_at pg (i + 1))) (never_falls (key_at pg (i + 1)) (keys_from pg (i + 1 + 1) n)) s).0 in
      let rest = all_in (key_at pg i) (suc n) n (i + 1) j refl (omega arith) (omega arith) h s in
      let g : key_at pg i ≤ hi = omega (arith, rest.0) in
      (g, rw (le-leb lo (key_at pg i) l, le-leb (key_at pg i) hi g) rest.1)

  all_out : (n m i j : ℕ) → j ≡ i + m → m < n → within lo hi (key_at pg j) ≡ false → all_within lo hi (keys_from pg i n) ≡ false
  unfolding keys_from all_within
  all_out zero m i j e l w = absurd (omega arith)
  all_out (suc n) zero i j e l w =
      let z : j ≡ i = omega arith in
      rw (rw z at w)
  all_out (suc n) (suc m) i j e l w = rw (all_out n m (i + 1) j (omega arith) (omega arith) w, and-false (within lo hi (key_at pg i)))

-- ---- the cells of a leaf

-- one more cell
abbrev pub more : (lo hi : ℕ) → Bool → Cell → Bool
more lo hi ok x = ok && within lo hi x.key

module _ (lo hi p : ℕ) (pg : List ℕ) where
  -- a walk's answer
  abbrev answer : Walked Bool → Bool
  answer w = on_walked (λ e k b. b) (λ f. false) w

  -- after a key that is outside it stays so
  stays_out : (m k c at : ℕ) → answer (walk (more lo hi) p k c m at false pg) ≡ false
  unfolding walk
  stays_out zero k c at = refl
  stays_out (suc m) k c at = by_step (step_of pg p k c at) (λ x. stays_out m x.key x.version.creator x.next)
    where
      by_step : (r : Step) → ((x : Cell) → answer (walk (more lo hi) p x.key x.version.creator m x.next false pg) ≡ false)
          → answer (on_step (λ x. walk (more lo hi) p x.key x.version.creator m x.next false pg) (λ f. bad f) r) ≡ false
      by_step (Step.Got x) ih = ih x
      by_step (Step.Bad f) ih = refl

  pub cells_other : (node_type pg ≡ 1 → ⊥) → false ≡ cells_within pg lo hi p
  unfolding cells_within
  cells_other h = loop_type (λ e b l. b) (λ f. false) (more lo hi) p 0 pg true h refl

  module _ {n : ℕ} (leaf : node_type pg ≡ 1) (count : n ≡ cell_count pg) where
    pub cells_bad : {f : Fault} → bad f ≡ walk (more lo hi) p 0 0 n 12 true pg → false ≡ cells_within pg lo hi p
    unfolding cells_within
    cells_bad q = loop_bad (λ e b l. b) (λ f. false) (more lo hi) p 0 pg true leaf count q

    pub cells_done : {e k : ℕ} {b : Bool} → done e k b ≡ walk (more lo hi) p 0 0 n 12 true pg → b ≡ cells_within pg lo hi p
    unfolding cells_within
    cells_done q = loop_done (λ e b l. b) (λ f. false) (more lo hi) p 0 pg true leaf count q

    pub cells_out : (m k c at : ℕ) → walk (more lo hi) p k c m at false pg ≡ walk (more lo hi) p 0 0 n 12 true pg → false ≡ cells_within pg lo hi p
    cells_out m k c at q = by_walked (walk (more lo hi) p k c m at false pg) q (stays_out m k c at)
      where
        by_walked : (w : Walked Bool) → w ≡ walk (more lo hi) p 0 0 n 12 true pg → answer w ≡ false → false ≡ cells_within pg lo hi p
        by_walked (done e k b) u v = sym v ∙ cells_done u
        by_walked (bad f) u v = cells_bad u

-- ---- a leaf

-- what `ok` keeps of a judgement
kept_some : (r : Result ℕ Fault) {o : Option ℕ} {n : ℕ} → o ≡ result_ok r → o ≡ Some n → r ≡ Ok n
kept_some (Ok m) {n = n} e q = let u : ◌≡◌ {A = Option ℕ} (Some m) (Some n) = sym e ∙ q in cc
kept_some (Err f) {n = n} e q = absurd (let u : ◌≡◌ {A = Option ℕ} None (Some n) = sym e ∙ q in cc)

kept_none : (r : Result ℕ Fault) {o : Option ℕ} → o ≡ result_ok r → o ≡ None → (f : Fault) × (r ≡ Err f)
kept_none (Ok m) e q = absurd (let u : ◌≡◌ {A = Option ℕ} (Some m) None = sym e ∙ q in cc)
kept_none (Err f) e q = (f, refl)

pub inner_kept : (p : ℕ) (pg : List ℕ) {r : Result ℕ Fault} {o : Option ℕ} {n : ℕ} → r ≡ judge_inner pg p → o ≡ result_ok r → o ≡ Some n → InnerIs pg n
inner_kept p pg {r} judged kept is = inner_is p pg judged (kept_some r kept is)

module _ (used parent p lo hi : ℕ) (s : List ℕ) where
  pub leaf_unused : used ≤ p → false ≡ sound_leaf s used parent p lo hi
  unfolding sound_leaf
  leaf_unused h = rw (le-ltb p used h)

  pub leaf-used : {b : Bool} → b ≡ sound_leaf s used parent p lo hi → b ≡ true → p < used
  unfolding sound_leaf
  leaf-used e t = ltb-true p used (and_both (ltb p used) (eqb (parent_of (page s p)) parent && cells_within (page s p) lo hi p) (sym e ∙ t)).0

  pub inner_unused : used ≤ p → None ≡ inner_sound s used parent p lo hi
  unfolding sound_inner
  inner_unused h = rw (le-ltb p used h)

  module _ {pg : List ℕ} {q : ℕ} (h : p < used) (here : pg ≡ page s p) (up : q ≡ parent_of pg) where
    parent_is : q ≡ parent → eqb (parent_of (page s p)) parent ≡ true
    parent_is e = eq-eqb (parent_of (page s p)) parent (rw (up, here) at e)

    parent_not : (q ≡ parent → ⊥) → eqb (parent_of (page s p)) parent ≡ false
    parent_not z = ne_eqb (parent_of (page s p)) parent (λ e. z (up ∙ rw here e))

    pub leaf_orphan : (q ≡ parent → ⊥) → false ≡ sound_leaf s used parent p lo hi
    unfolding sound_leaf
    leaf_orphan z = rw (lt-ltb p used h, parent_not z)

    pub leaf-cells : {b : Bool} → q ≡ parent → b ≡ cells_within pg lo hi p → b ≡ sound_leaf s used parent p lo hi
    unfolding sound_leaf
    leaf-cells e t = t ∙ rw (lt-ltb p used h, parent_is e, here)

    -- ---- an internal page

    pub inner_orphan : (q ≡ parent → ⊥) → None ≡ inner_sound s used parent p lo hi
    unfolding sound_inner
    inner_orphan z = rw (lt-ltb p used h, parent_not z)

    module _ {r : Result ℕ Fault} {o : Option ℕ} (same : q ≡ parent) (judged : r ≡ judge_inner pg p) (kept : o ≡ result_ok r) where
      pub inner_bad : o ≡ None → None ≡ inner_sound s used parent p lo hi
      unfolding sound_inner
      inner_bad e = let f = kept_none r kept e in rw (lt-ltb p used h, parent_is same, ← here, sym judged ∙ f.1)

      module _ {n : ℕ} (is : o ≡ Some n) where
        facts : InnerIs pg n
        facts = inner_kept p pg judged kept is

        by_keys : {b : Bool} → all_within lo hi (keys_from pg 0 n) ≡ b → pick b (Some n) None ≡ inner_sound s used parent p lo hi
        unfolding sound_inner
        by_keys e = rw (lt-ltb p used h, parent_is same, ← here, sym judged ∙ kept_some r kept is, facts.count, e)

        pub inner_low : {k : ℕ} → k ≡ key_at pg 0 → k < lo → None ≡ inner_sound s used parent p lo hi
        inner_low e l = by_keys (all_out lo hi pg n 0 0 0 refl (omega (arith, facts.some)) (rw e at (within_low lo hi _ l)))

        pub inner_high : {k : ℕ} → k ≡ key_at pg (n - 1) → hi < k → None ≡ inner_sound s used parent p lo hi
        inner_high e l = by_keys (all_out lo hi pg n (n - 1) 0 (n - 1) (omega arith) (omega (arith, facts.some)) (rw e at (within_high lo hi _ l)))

        pub inner_ok : {k l : ℕ} → k ≡ key_at pg 0 → lo ≤ k → l ≡ key_at pg (n - 1) → l ≤ hi → Some n ≡ inner_sound s used parent p lo hi
        inner_ok e a f b = by_keys (all_in lo hi pg 0 n (n - 1) 0 (n - 1) (omega (arith, facts.some)) (omega arith) (rw e at a) (rw f at b) facts.rises).1

-- what the answer for an internal page says
module _ (used parent p lo hi : ℕ) (s : List ℕ) {r : Option ℕ} (said : r ≡ inner_sound s used parent p lo hi) where
  inner_ill : r ≡ None → sound_inner s used parent p lo hi ≡ false
  inner_ill e = by_test (sound_inner s used parent p lo hi) (sym said ∙ e)
    where
      by_test : (b : Bool) → pick b (Some (cell_count (page s p))) None ≡ None → b ≡ false
      by_test true u = absurd cc
      by_test false u = refl

  inner_well : {n : ℕ} → r ≡ Some n → (sound_inner s used parent p lo hi ≡ true) × (cell_count (page s p) ≡ n)
  inner_well {n} e = by_test (sound_inner s used parent p lo hi) (sym said ∙ e)
    where
      by_test : (b : Bool) → pick b (Some (cell_count (page s p))) None ≡ Some n → (b ≡ true) × (cell_count (page s p) ≡ n)
      by_test true u = (refl, cc)
      by_test false u = absurd cc

  -- what a sound internal page gives its readers
  pub inner_there : {n : ℕ} → r ≡ Some n → (p < used) × (n ≤ 510)
  unfolding sound_inner
  inner_there {n} e =
      let w = inner_well e in
      let judged = on_inner (λ m. all_within lo hi (keys_of (page s p))) (λ f. false) (judge_inner (page s p) p) in
      let a = and_both (ltb p used) (eqb (parent_of (page s p)) parent && judged) w.0 in
      let b = and_both (eqb (parent_of (page s p)) parent) judged a.1 in
      (ltb-true p used a.0, by_judged w.1 (judge_inner (page s p) p) refl b.1)
    where
      by_judged : cell_count (page s p) ≡ n → (j : Result ℕ Fault) → judge_inner (page s p) p ≡ j
          → on_inner (λ m. all_within lo hi (keys_of (page s p))) (λ f. false) j ≡ true → n ≤ 510
      by_judged c (Ok m) q u = let i = inner_is p (page s p) (sym q) refl in omega (arith, i.few, i.count)
      by_judged c (Err f) q u = absurd cc

-- ---- a subtree

module _ (used : ℕ) (s : List ℕ) (parent p lo hi next : ℕ) where
  pub check-last : (k : ℕ) {v : Option ℕ} → k ≡ 0 → v ≡ check_of s used 0 parent p lo hi next → v ≡ check_of s used k parent p lo hi next
  check-last k e q = q ∙ rw e

  module _ {b : Bool} (said : b ≡ sound_leaf s used parent p lo hi) where
    pub check_unsound : b ≡ false → None ≡ check_of s used 0 parent p lo hi next
    unfolding check_of
    check_unsound t = rw (sym said ∙ t)

    module _ {pg : List ℕ} {n : ℕ} (good : b ≡ true) (here : pg ≡ page s p) (link : n ≡ next_leaf pg) where
      pub check-first : n ≡ next → Some p ≡ check_of s used 0 parent p lo hi next
      unfolding check_of
      check-first e = rw (sym said ∙ good, ← here, eq-eqb (next_leaf pg) next (sym link ∙ e))

      pub check-astray : (n ≡ next → ⊥) → None ≡ check_of s used 0 parent p lo hi next
      unfolding check_of
      check-astray z = rw (sym said ∙ good, ← here, ne_eqb (next_leaf pg) next (λ e. z (link ∙ e)))

  module _ {r : Option ℕ} (said : r ≡ inner_sound s used parent p lo hi) (m : ℕ) {k : ℕ} (above : k ≡ suc m) where
    pub check_stray : r ≡ None → None ≡ check_of s used k parent p lo hi next
    unfolding check_of
    check_stray e = rw (above, inner_ill used parent p lo hi s said e)

    pub check_kids : {n : ℕ} {pg : List ℕ} → r ≡ Some n → pg ≡ page s p → kids_of pg (check_of s used m p) lo n hi next ≡ check_of s used k parent p lo hi next
    unfolding check_of
    check_kids e here = let w = inner_well used parent p lo hi s said e in rw (above, w.0, w.1, here)

-- ---- the children of a page, from the last to the first

module _ (f : ℕ → ℕ → ℕ → ℕ → Option ℕ) (lo hi next : ℕ) (pg : List ℕ) where
  pub kids_end : (j : ℕ) {c : ℕ} {v : Option ℕ} → j ≤ 0 → c ≡ child_at pg 0 → v ≡ f c lo hi next → v ≡ kids_of pg f lo j hi next
  unfolding kids_of
  kids_end zero h e q = q ∙ rw e
  kids_end (suc j) h e q = absurd (omega arith)

  module _ (m : ℕ) {j c k : ℕ} {v : Option ℕ} (before : j ≡ suc m) (child : c ≡ child_at pg (m + 1)) (key : k ≡ key_at pg m) (said : v ≡ f c k hi next) where
    judged : f (child_at pg (suc m)) (key_at pg m) hi next ≡ v
    judged = let up : m + 1 ≡ suc m = omega arith in sym (said ∙ rw (child, up, key))

    pub kids_ill : v ≡ None → None ≡ kids_of pg f lo j hi next
    unfolding kids_of
    kids_ill e = rw (before, judged ∙ e)

    -- page 0 is no leaf but the first
    pub kids_zero : {q : ℕ} → v ≡ Some q → q ≡ 0 → None ≡ kids_of pg f lo j hi next
    unfolding kids_of
    kids_zero {q} e z = rw (before, judged ∙ e, eq-eqb q 0 z)

    pub kids_on : {q : ℕ} → v ≡ Some q → (q ≡ 0 → ⊥) → kids_of pg f lo m k q ≡ kids_of pg f lo j hi next
    unfolding kids_of
    kids_on {q} e z = rw (before, judged ∙ e, ne_eqb q 0 z, key)

-- ---- the tree

-- with n numbers of levels, from k on
unfoldable pub well_from : (n k used root : ℕ) → List ℕ → Bool
well_from zero k used root s = false
well_from (suc n) k used root s = well_at s used root k || well_from n (k + 1) used root s

module _ (used root : ℕ) (s : List ℕ) where
  pub well_all : well_from 4 0 used root s ≡ is_well_formed s used root
  unfolding well_from is_well_formed
  well_all = rw (or-false (well_at s used root 3))

  pub well_none : (n k : ℕ) → n ≡ 0 → false ≡ well_from n k used root s
  unfolding well_from
  well_none n k e = rw e

  module _ (k m : ℕ) (v : Option ℕ) {n : ℕ} {b : Bool} (left : n ≡ suc m) (tested : b ≡ is_some v) (said : is_first v ≡ well_at s used root k) where
    agrees : b ≡ well_at s used root k
    agrees = tested ∙ (sym (first_some v) ∙ said)
      where
        first_some : (o : Option ℕ) → is_first o ≡ is_some o
        first_some (Some q) = refl
        first_some None = refl

    pub well_here : b ≡ true → true ≡ well_from n k used root s
    unfolding well_from
    well_here e = rw (left, sym agrees ∙ e)

    pub well_on : b ≡ false → well_from m (k + 1) used root s ≡ well_from n k used root s
    unfolding well_from
    well_on e = rw (left, sym agrees ∙ e)
