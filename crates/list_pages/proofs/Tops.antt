-- What is to be done with a page: the ways out of its judgement, one law each, and what a page that is listed has shown.
-- Assumes nothing.
use Rattle.std.proofs.Common.{Option, Some, None, Result, Ok, Err}
use mathlib.Core.Path.{◌≡◌, refl, sym, ◌∙◌}
use mathlib.Core.Bool.{Bool, true, false}
use mathlib.Core.List.{List}
use mathlib.Core.Logic.{⊎_elim}
use Prim.Native.Nat.{ℕ, ◌+◌, ◌*◌, ◌≤◌, ◌<◌}
use native.Mathlib.Omega.{arith}
use borrow.Author.Tests.{ltb-true, eqb-false, lt-ltb, le-ltb, eq-eqb, ne_eqb}
use lib.Dec.{ltb, eqb}
use Rattle.store.specs.Pick.{pick}
use Rattle.page.specs.Page.{page}
use Rattle.page.specs.Header.{node_type}
use Rattle.row.specs.declared.Fault.{Fault}
use Rattle.mvcc.specs.Lists.{mem}
use Rattle.inner.specs.Inner.{judge_inner}
use Rattle.row.specs.Fault.{structural}
use Rattle.tree.specs.Descend.{on_inner}
use Rattle.list_pages.specs.Numbers.{top_at}
use Rattle.store.proofs.PartLaws.{le_or_lt}
use Rattle.tree.proofs.Ways.{inner_is}

-- ---- the ways out

module _ (k used : ℕ) (s up : List ℕ) (listed : Bool) (p : ℕ) where
  pub top_unused : {f : Fault} → used ≤ p → f ≡ structural p → Err f ≡ top_at s used k up listed p
  unfolding top_at
  top_unused h e = rw (le-ltb p used h, e)

  module _ (in_use : p < used) {a : Bool} (above : a ≡ mem p up) where
    pub top_above : {f : Fault} → a ≡ true → f ≡ structural p → Err f ≡ top_at s used k up listed p
    unfolding top_at
    top_above t e = rw (lt-ltb p used in_use, sym above ∙ t, e)

    module _ (new : a ≡ false) {l : Bool} (known : l ≡ listed) where
      pub top_skip : l ≡ true → (Ok None) ≡ top_at s used k up listed p
      unfolding top_at
      top_skip t = rw (lt-ltb p used in_use, sym above ∙ new, sym known ∙ t)

      module _ (unlisted : l ≡ false) {pg : List ℕ} {t : ℕ} (here : pg ≡ page s p) (kind : t ≡ node_type pg) where
        pub top_leaf : t ≡ 1 → Ok (Some 0) ≡ top_at s used k up listed p
        unfolding top_at
        top_leaf e = rw (lt-ltb p used in_use, sym above ∙ new, sym known ∙ unlisted, eq-eqb (node_type (page s p)) 1 (rw (kind, here) at e))

        module _ (other : t ≡ 1 → ⊥) where
          not_leaf : eqb (node_type (page s p)) 1 ≡ false
          not_leaf = ne_eqb (node_type (page s p)) 1 (λ e. other (kind ∙ rw here e))

          pub top_deep : {f : Fault} → k ≡ 0 → f ≡ structural p → Err f ≡ top_at s used k up listed p
          unfolding top_at
          top_deep z e = rw (lt-ltb p used in_use, sym above ∙ new, sym known ∙ unlisted, not_leaf, eq-eqb k 0 z, e)

          module _ (more : k ≡ 0 → ⊥) {r : Result ℕ Fault} (judged : r ≡ judge_inner pg p) where
            pub top_bad : {f : Fault} → r ≡ Err f → Err f ≡ top_at s used k up listed p
            unfolding top_at
            top_bad e = rw (lt-ltb p used in_use, sym above ∙ new, sym known ∙ unlisted, not_leaf, ne_eqb k 0 more, ← here, sym judged ∙ e)

            pub top_inner : {n : ℕ} → r ≡ Ok n → Ok (Some (n + 1)) ≡ top_at s used k up listed p
            unfolding top_at
            top_inner e = rw (lt-ltb p used in_use, sym above ∙ new, sym known ∙ unlisted, not_leaf, ne_eqb k 0 more, ← here, sym judged ∙ e)

-- ---- a page that is listed

-- the answer, once it is taken apart
pub told_of : {r : Result (Option ℕ) Fault} {o x : Option ℕ} → r ≡ Ok o → o ≡ x → r ≡ Ok x
told_of e q = e ∙ rw q

pub record PageIs (k used p m : ℕ) : Type 0 where
  pub in_use : p < used
  pub few : m ≤ 511
  pub deep : m ≤ 511 * k

peel : {A : Type 0} (b : Bool) {x y z : A} → pick b x y ≡ z → (x ≡ z → ⊥) → (b ≡ false) × (y ≡ z)
peel true e n = absurd (n e)
peel false e n = (refl, e)

bad_page : {f : Fault} {m : ℕ} → ◌≡◌ {A = Result (Option ℕ) Fault} (Err f) (Ok (Some m)) → ⊥
bad_page e = cc

skip_page : {m : ℕ} → ◌≡◌ {A = Result (Option ℕ) Fault} (Ok None) (Ok (Some m)) → ⊥
skip_page e = cc

judged-few : (p : ℕ) (pg : List ℕ) (j : Result ℕ Fault) {m : ℕ} → j ≡ judge_inner pg p → on_inner (λ n. Ok (Some (n + 1))) (λ f. Err f) j ≡ Ok (Some m) → m ≤ 511
judged-few p pg (Ok n) {m} q e =
    let i = inner_is p pg q refl in
    let same : n + 1 ≡ m = cc in
    omega arith
judged-few p pg (Err f) q e = absurd (bad_page e)

module _ (k used : ℕ) (s : List ℕ) (p m : ℕ) where
  by_depth : (b : Bool) → eqb k 0 ≡ b → p < used
      → pick b (Err (structural p)) (on_inner (λ n. Ok (Some (n + 1))) (λ f. Err f) (judge_inner (page s p) p)) ≡ Ok (Some m) → PageIs k used p m
  by_depth true t h e = absurd (bad_page e)
  by_depth false t h e =
      let l = judged-few p (page s p) (judge_inner (page s p) p) refl e in
      let n = eqb-false k 0 t in
      record { in_use = h; few = l; deep = omega arith }

  by_type : (b : Bool) → p < used
      → pick b (Ok (Some 0)) (pick (eqb k 0) (Err (structural p)) (on_inner (λ n. Ok (Some (n + 1))) (λ f. Err f) (judge_inner (page s p) p))) ≡ Ok (Some m)
      → PageIs k used p m
  by_type true h e = let z : 0 ≡ m = cc in record { in_use = h; few = omega arith; deep = omega arith }
  by_type false h e = by_depth (eqb k 0) refl h e

pub page-is : (k used : ℕ) (s up : List ℕ) (listed : Bool) (p : ℕ) {r : Result (Option ℕ) Fault} {m : ℕ} → r ≡ top_at s used k up listed p → r ≡ Ok (Some m) → PageIs k used p m
unfolding top_at
page-is k used s up listed p {r} {m} q e =
    by_use (ltb p used) refl (sym q ∙ e)
  where
    rest : Result (Option ℕ) Fault
    rest =
        pick (eqb (node_type (page s p)) 1) (Ok (Some 0))
        (pick (eqb k 0) (Err (structural p)) (on_inner (λ n. Ok (Some (n + 1))) (λ f. Err f) (judge_inner (page s p) p)))

    by_use : (b : Bool) → ltb p used ≡ b
        → pick b (pick (mem p up) (Err (structural p)) (pick listed (Ok None) rest)) (Err (structural p)) ≡ Ok (Some m) → PageIs k used p m
    by_use true t u =
        let a = peel (mem p up) u bad_page in
        let b = peel listed a.1 skip_page in
        by_type k used s p m (eqb (node_type (page s p)) 1) (ltb-true p used t) b.1
    by_use false t u = absurd (bad_page u)

-- what stands in the list of pages listed matters only for a page in use
pub top_same : (k used : ℕ) (s up : List ℕ) (a b : Bool) (p : ℕ) → (p < used → a ≡ b) → top_at s used k up a p ≡ top_at s used k up b p
unfolding top_at
top_same k used s up a b p h = ⊎_elim (λ l. rw (le-ltb p used l)) (λ l. rw (h l)) (le_or_lt used p)
