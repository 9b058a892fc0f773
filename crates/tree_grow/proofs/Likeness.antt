-- Pages and pools that are alike up to parent links: with the same kind, number of keys and children. Links are written
-- in any page, so this is what a store above a division keeps; and why children may be adopted. Assumes nothing.
use mathlib.Core.Path.{◌≡◌, refl, ap, ap₂, ◌∙◌}
use mathlib.Core.Bool.{Bool, true, false}
use mathlib.Core.List.{List, ◌∷◌}
use Prim.Native.Nat.{ℕ, zero, suc, ◌+◌, ◌*◌, ◌≤◌, ◌<◌}
use native.Mathlib.Omega.{arith}
use borrow.Author.Tests.{eqb-true, eqb-false}
use lib.Dec.{eqb}
use lib.ListN.{length}
use Rattle.store.proofs.LeLaws.{length-put_at, le_at-put_at-below, le_at-put_at_above}
use Rattle.page.specs.Page.{page}
use Rattle.page.specs.Header.{node_type, cell_count, with_is_root, with_parent}
use Rattle.inner.specs.Inner.{child_at, children_from, children_of}
use Rattle.inner_edit.specs.Edit.{adopted}
use Rattle.inner_edit.specs.Steps.Edit.{AdoptSafe}
use Rattle.tree_grow.specs.Grow.{linked, linked_both, place_in}
use Rattle.tree_grow.specs.Steps.Safe.{There}
use Rattle.page.proofs.PageLaws.{length-page, length-set_page, page-set_page, page-set_page-other}

-- ---- pages

pub record Alike (a b : List ℕ) : Type 0 where
  pub kind : node_type a ≡ node_type b
  pub count : cell_count a ≡ cell_count b
  pub child : (k : ℕ) → child_at a k ≡ child_at b k

pub alike_eq : {a b : List ℕ} → a ≡ b → Alike a b
alike_eq e = record { kind = ap node_type e; count = ap cell_count e; child = λ k. ap (λ (x : List ℕ). child_at x k) e }

pub alike_trans : {a b c : List ℕ} → Alike a b → Alike b c → Alike a c
alike_trans x y = record { kind = x.kind ∙ y.kind; count = x.count ∙ y.count; child = λ k. x.child k ∙ y.child k }

pub alike_parent : (q : ℕ) (pg : List ℕ) → Alike (with_parent q pg) pg
unfolding child_at
alike_parent q pg =
    record {
      kind = le_at-put_at-below 1 4 pg 2 q 0 (omega arith);
      count = le_at-put_at_above 2 4 pg 2 q 6 (omega arith);
      child = λ k. le_at-put_at_above 4 4 pg 2 q (12 + 8 * k) (omega arith);
    }

pub alike_root : (v : ℕ) (pg : List ℕ) → Alike (with_is_root v pg) pg
unfolding child_at
alike_root v pg =
    record {
      kind = le_at-put_at-below 1 1 pg 1 v 0 (omega arith);
      count = le_at-put_at_above 2 1 pg 1 v 6 (omega arith);
      child = λ k. le_at-put_at_above 4 1 pg 1 v (12 + 8 * k) (omega arith);
    }

alike_from : {a b : List ℕ} (n i : ℕ) → Alike a b → children_from a i n ≡ children_from b i n
unfolding children_from
alike_from zero i h = refl
alike_from (suc n) i h = ap₂ (λ (x : ℕ) (l : List ℕ). x ∷ l) (h.child i) (alike_from n (i + 1) h)

pub alike_children : {a b : List ℕ} → Alike a b → children_of a ≡ children_of b
alike_children {a} {b} h = ap (λ (n : ℕ). children_from a 0 (n + 1)) h.count ∙ alike_from (cell_count b + 1) 0 h

pub alike_place : (old : ℕ) {a b : List ℕ} → Alike a b → place_in a old ≡ place_in b old
alike_place old h = rw (alike_children h)

-- ---- pools

pub record Like (s t : List ℕ) : Type 0 where
  pub long : length s ≡ length t
  pub each : (x : ℕ) → Alike (page s x) (page t x)

pub like_refl : {s : List ℕ} → Like s s
like_refl = record { long = refl; each = λ x. alike_eq refl }

pub like_trans : {s t u : List ℕ} → Like s t → Like t u → Like s u
like_trans a b = record { long = a.long ∙ b.long; each = λ x. alike_trans (a.each x) (b.each x) }

pub like_there : {s t : List ℕ} (c : ℕ) → Like s t → There c t → There c s
like_there c l h = rw l.long h

-- a link changes no page by more
pub like_linked : (c q : ℕ) (s : List ℕ) → There c s → Like (linked c q s) s
like_linked c q s h =
    let len : length (with_parent q (page s c)) ≡ 4096 = length-put_at 4 (page s c) 2 q ∙ length-page c s h in
    record { long = length-set_page c (with_parent q (page s c)) s h len; each = λ x. by_page x len (eqb x c) refl }
  where
    by_page : (x : ℕ) → length (with_parent q (page s c)) ≡ 4096 → (b : Bool) → eqb x c ≡ b → Alike (page (linked c q s) x) (page s x)
    by_page x len true e =
        let f = eqb-true x c e in
        rw f (alike_trans (alike_eq (page-set_page c (with_parent q (page s c)) s h len)) (alike_parent q (page s c)))
    by_page x len false e = alike_eq (page-set_page-other c (with_parent q (page s c)) s h len x (eqb-false x c e))

pub like_both : (old new q : ℕ) (s : List ℕ) → There old s → There new s → Like (linked_both old new q s) s
like_both old new q s h k =
    let a = like_linked old q s h in
    like_trans (like_linked new q (linked old q s) (like_there new a k)) a

-- ---- children that are there can be adopted, and no page changes by more than its link

abbrev pub ChildrenThere : (n i p : ℕ) → List ℕ → Type 0
ChildrenThere n i p s = (k : ℕ) → i ≤ k → k < i + n → There (child_at (page s p) k) s

module _ (n i p q : ℕ) (s : List ℕ) (all : ChildrenThere (suc n) i p s) where
  first-there : There (child_at (page s p) i) s
  first-there = all i (omega arith) (omega arith)

  rest-there : ChildrenThere n (i + 1) p (linked (child_at (page s p) i) q s)
  rest-there k h l =
      let a = like_linked (child_at (page s p) i) q s first-there in
      like_there _ a (rw ((a.each p).child k) (all k (omega arith) (omega arith)))

pub adopt_all : (n i p q : ℕ) (s : List ℕ) → ChildrenThere n i p s → AdoptSafe n i p q s
unfolding AdoptSafe
adopt_all zero i p q s all = tt
adopt_all (suc n) i p q s all =
    (first-there n i p q s all, adopt_all n (i + 1) p q (linked (child_at (page s p) i) q s) (rest-there n i p q s all))

pub like_adopted : (n i p q : ℕ) (s : List ℕ) → ChildrenThere n i p s → Like (adopted n i p q s) s
unfolding adopted
like_adopted zero i p q s all = like_refl
like_adopted (suc n) i p q s all =
    like_trans (like_adopted n (i + 1) p q (linked (child_at (page s p) i) q s) (rest-there n i p q s all))
    (like_linked (child_at (page s p) i) q s (first-there n i p q s all))
