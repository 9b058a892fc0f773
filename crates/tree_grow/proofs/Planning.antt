-- The plan: the ways out of each of its functions, the worker that takes the pages above one by one, and that it says what
-- `plan_of` says. Assumes nothing.
use Rattle.std.proofs.Common.{Result, Ok, Err}
use mathlib.Core.Path.{◌≡◌, refl, sym, ap, ◌∙◌}
use mathlib.Core.Bool.{Bool, true, false, not, ◌&&◌}
use mathlib.Core.List.{List, [], ◌∷◌, ◌++◌}
use mathlib.Core.Logic.{◌⊎◌, inl, inr}
use Prim.Native.Nat.{ℕ, zero, suc, ◌+◌, ◌-◌, ◌≤◌, ◌<◌}
use native.Mathlib.Omega.{arith}
use native.Mathlib.Nat.{zero-add, add-zero}
use lib.Dec.{ltb, eqb, eqb-zero-suc, eqb-suc-suc}
use lib.ListN.{length}
use lib.Seq.{drop-cons}
use borrow.Author.Tests.{lt-ltb, le-ltb, eq-eqb, ne_eqb}
use Rattle.store.specs.Pick.{pick}
use Rattle.store.specs.Part.{part}
use Rattle.page.specs.Page.{page}
use Rattle.page.specs.Header.{cell_count}
use Rattle.row.specs.declared.Fault.{Fault}
use Rattle.inner.specs.Inner.{child_at, children_from}
use Rattle.row.specs.Fault.{structural}
use Rattle.inner.specs.Route.{child_place}
use Rattle.tree.specs.declared.climb.Path.{Path}
use Rattle.tree_grow.specs.Path.{page_at, pages_above}
use Rattle.tree_grow.specs.Grow.{place_in}
use Rattle.tree_grow.specs.Steps.Safe.{Stands}
use Rattle.tree_grow.specs.Plan.{full_pages, division_of, first_moved, relinks_in, keeps_number, relinks, in_use, on_links, plan_of}
use Rattle.tree_grow.specs.declared.plan.Division.{Division}
use Rattle.store.proofs.PartLaws.{le_or_lt}
use Rattle.store.proofs.PutLaws.{part_none}

-- ---- the children that move

pub first-few : (i : ℕ) {k : ℕ} → k ≡ first_moved i → k ≤ 511
first-few i e = rw e (by_place (ltb i 255))
  where
    by_place : (b : Bool) → pick b 255 256 ≤ 511
    by_place true = omega arith
    by_place false = omega arith

-- ---- children in use: a turn of the loop, and its ways out

module _ (used i n m : ℕ) (pg : List ℕ) {c : ℕ} (e : n ≡ suc m) (is : c ≡ child_at pg i) where
  pub use_bad : {f : Fault} → used ≤ c → f ≡ structural c → Err f ≡ in_use used (children_from pg i n)
  unfolding in_use children_from
  use_bad h u = rw (e, ← is, le-ltb c used h, u)

  pub use_turn : c < used → in_use used (children_from pg (i + 1) m) ≡ in_use used (children_from pg i n)
  unfolding in_use children_from
  use_turn h = rw (e, ← is, lt-ltb c used h)

pub use_end : (used i n : ℕ) (pg : List ℕ) → n ≤ 0 → Ok tt ≡ in_use used (children_from pg i n)
unfolding in_use children_from
use_end used i zero pg h = refl
use_end used i (suc n) pg h = absurd (omega arith)

-- ---- of two lists

use_append : (used : ℕ) (xs ys : List ℕ) → in_use used (xs ++ ys) ≡ on_links (in_use used ys) (λ f. Err f) (in_use used xs)
unfolding in_use
use_append used [] ys = refl
use_append used (x ∷ xs) ys = by_use (use_append used xs ys) (ltb x used)
  where
    by_use : in_use used (xs ++ ys) ≡ on_links (in_use used ys) (λ f. Err f) (in_use used xs) → (b : Bool)
        → pick b (in_use used (xs ++ ys)) (Err (structural x)) ≡ on_links (in_use used ys) (λ f. Err f) (pick b (in_use used xs) (Err (structural x)))
    by_use e true = e
    by_use e false = refl

module _ (used i : ℕ) (relocated : Bool) (pg : List ℕ) {k : ℕ} {r : Result Unit Fault} (first : k ≡ first_moved i) (moved : r ≡ in_use used (children_from pg k (511 - k))) where
  pub in_bad : {f : Fault} → r ≡ Err f → Err f ≡ in_use used (relinks_in pg i relocated)
  unfolding relinks_in
  in_bad e = sym (use_append used (children_from pg (first_moved i) (511 - first_moved i)) _ ∙ rw (← first, sym moved ∙ e))

  pub in_all : {q : Result Unit Fault} → r ≡ Ok tt → relocated ≡ true → q ≡ in_use used (children_from pg 0 k) → q ≡ in_use used (relinks_in pg i relocated)
  unfolding relinks_in
  in_all e h f = sym (use_append used (children_from pg (first_moved i) (511 - first_moved i)) _ ∙ rw (← first, sym moved ∙ e, h, ← f))

  pub in_moved : r ≡ Ok tt → relocated ≡ false → Ok tt ≡ in_use used (relinks_in pg i relocated)
  unfolding relinks_in in_use
  in_moved e h = sym (use_append used (children_from pg (first_moved i) (511 - first_moved i)) _ ∙ rw (← first, sym moved ∙ e, h))

-- ---- the pages above, from a path

-- what owning the path tells of its length
pub above_next : (path : Path) (level : ℕ) → length path.pages ≡ 4 → path.len ≤ 4 → level + 1 < path.len
    → pages_above path level ≡ page_at path (level + 1) ∷ pages_above path (level + 1)
unfolding pages_above part
above_next path level four few more =
    let e : path.len - (level + 1) ≡ suc (path.len - (level + 1 + 1)) = omega arith in
    let f : level + 1 + 1 ≡ suc (level + 1) = omega arith in
    rw (drop-cons path.pages (level + 1) 0 (omega arith), e, f)

pub above_none : (path : Path) (level : ℕ) → path.len ≤ level + 1 → pages_above path level ≡ []
unfolding pages_above
above_none path level h = part_none (level + 1) (path.len - (level + 1)) path.pages (omega arith)

-- the page above one of the path, as a climb has found it
pub record Next (used : ℕ) (path : Path) (level : ℕ) (s : List ℕ) : Type 0 where
  pub is : pages_above path level ≡ page_at path (level + 1) ∷ pages_above path (level + 1)
  pub in_use : page_at path (level + 1) < used
  pub few : cell_count (page s (page_at path (level + 1))) ≤ 510
  pub stands : Stands used (page_at path (level + 1)) (pages_above path (level + 1)) s
  pub keeps : (eqb (level + 2) path.len && not (eqb (page_at path (level + 1)) 0)) ≡ keeps_number (page_at path (level + 1)) (pages_above path (level + 1))

stands_used : (used old : ℕ) (ps s : List ℕ) → Stands used old ps s → old < used
unfolding Stands
stands_used used old [] s h = h
stands_used used old (p ∷ ps) s h = h.0

module _ (used old p : ℕ) (ps s : List ℕ) (h : Stands used old (p ∷ ps) s) where
  stands_few : cell_count (page s p) ≤ 510
  unfolding Stands
  stands_few = h.2

  stands_up : Stands used p ps s
  unfolding Stands
  stands_up = h.4

pub next-is : (used : ℕ) (path : Path) (level : ℕ) (s : List ℕ) → length path.pages ≡ 4 → path.len ≤ 4 → level + 1 < path.len
    → Stands used (page_at path level) (pages_above path level) s → Next used path level s
next-is used path level s four few more h =
    let up = above_next path level four few more in
    let p = page_at path (level + 1) in
    let st = rw up at h in
    let on = stands_up used (page_at path level) p (pages_above path (level + 1)) s st in
    record {
      is = up;
      in_use = stands_used used p (pages_above path (level + 1)) s on;
      few = stands_few used (page_at path level) p (pages_above path (level + 1)) s st;
      stands = on;
      keeps = by_top p (le_or_lt path.len (level + 2));
    }
  where
    by_top : (p : ℕ) → (path.len ≤ level + 2) ⊎ (level + 2 < path.len) → (eqb (level + 2) path.len && not (eqb p 0)) ≡ keeps_number p (pages_above path (level + 1))
    by_top p (inl t) = rw (eq-eqb (level + 2) path.len (omega arith), above_none path (level + 1) (omega arith))
    by_top p (inr t) = rw (ne_eqb (level + 2) path.len (λ e. omega arith), above_next path (level + 1) four few (omega arith))

-- whether it is a root that keeps its number, as it was tested
module _ (level : ℕ) (path : Path) (p : ℕ) {b : Bool} where
  pub kept_top : level + 2 ≡ path.len → b ≡ not (eqb p 0) → b ≡ (eqb (level + 2) path.len && not (eqb p 0))
  kept_top t e = e ∙ rw (eq-eqb (level + 2) path.len t)

  pub kept_below : (level + 2 ≡ path.len → ⊥) → b ≡ eqb (level + 2) path.len → b ≡ (eqb (level + 2) path.len && not (eqb p 0))
  kept_below t e = e ∙ rw (ne_eqb (level + 2) path.len t)

-- ---- the plan that takes the pages one by one, full of them so far

unfoldable pub plan_from : (full used old : ℕ) → List ℕ → List ℕ → Result Division Fault
plan_from full used old [] s = Ok (record { full = full; grows = true })
plan_from full used old (p ∷ ps) s =
    pick (eqb (cell_count (page s p)) 510)
    (on_links (plan_from (full + 1) used p ps s) (λ f. Err f) (in_use used (relinks_in (page s p) (place_in (page s p) old) (keeps_number p ps))))
    (Ok (record { full = full; grows = false }))

module _ (full used old : ℕ) (s : List ℕ) {p n : ℕ} {ps qs pg : List ℕ} (up : ps ≡ p ∷ qs) (here : pg ≡ page s p) (count : n ≡ cell_count pg) where
  pub plan_room : n < 510 → Ok (record { full = full; grows = false }) ≡ plan_from full used old ps s
  unfolding plan_from
  plan_room h = rw (up, ← here, ← count, ne_eqb n 510 (λ e. omega arith))

  module _ {i : ℕ} {b : Bool} {r : Result Unit Fault} (few : cell_count (page s p) ≤ 510) (many : 510 ≤ n) (place : i ≡ child_place old (children_from pg 0 511)) (keeps : b ≡ keeps_number p qs) (judged : r ≡ in_use used (relinks_in pg i b)) where
    all : n ≡ 510
    all = let e : n ≡ cell_count (page s p) = count ∙ ap cell_count here in omega arith

    same : in_use used (relinks_in pg (place_in pg old) (keeps_number p qs)) ≡ r
    same = rw (← count, all, ← place, ← keeps, ← judged)

    pub plan_bad : {f : Fault} → r ≡ Err f → Err f ≡ plan_from full used old ps s
    unfolding plan_from
    plan_bad e = rw (up, ← here, same ∙ e, ← count, eq-eqb n 510 all)

    pub plan_on : r ≡ Ok tt → plan_from (full + 1) used p qs s ≡ plan_from full used old ps s
    unfolding plan_from
    plan_on e = rw (up, ← here, same ∙ e, ← count, eq-eqb n 510 all)

pub plan_end : (full used old : ℕ) (ps s : List ℕ) → ps ≡ [] → Ok (record { full = full; grows = true }) ≡ plan_from full used old ps s
unfolding plan_from
plan_end full used old ps s e = rw e

-- ---- and the plan of the definition

use_pick : (used : ℕ) (b : Bool) (xs ys : List ℕ) → in_use used (pick b (xs ++ ys) []) ≡ pick b (on_links (in_use used ys) (λ f. Err f) (in_use used xs)) (Ok tt)
unfolding in_use
use_pick used true xs ys = use_append used xs ys
use_pick used false xs ys = refl

-- one page more: b says that it divides, r what its children are, l what those of the pages above are
one_more : (full k n : ℕ) (b : Bool) (r l : Result Unit Fault)
    → pick b (on_links (on_links {A = Result Division Fault} (Ok (record { full = full + 1 + k; grows = eqb k n })) (λ f. Err f) l) (λ f. Err f) r) (Ok (record { full = full; grows = false }))
    ≡ on_links {A = Result Division Fault} (Ok (record { full = full + pick b (suc k) 0; grows = eqb (pick b (suc k) 0) (suc n) })) (λ f. Err f) (pick b (on_links l (λ f. Err f) r) (Ok tt))
one_more full k n true (Ok _) l =
    let e : full + 1 + k ≡ full + suc k = omega arith in
    rw (e, eqb-suc-suc k n)
one_more full k n true (Err f) l = refl
one_more full k n false r l = rw (eqb-zero-suc n, add-zero full)

from_is : (full used old : ℕ) (ps s : List ℕ)
    → plan_from full used old ps s
    ≡ on_links (Ok (record { full = full + full_pages ps s; grows = eqb (full_pages ps s) (length ps) })) (λ f. Err f) (in_use used (relinks s old ps))
unfolding plan_from full_pages relinks in_use
from_is full used old [] s = rw (add-zero full)
from_is full used old (p ∷ ps) s =
    let b = eqb (cell_count (page s p)) 510 in
    let xs = relinks_in (page s p) (place_in (page s p) old) (keeps_number p ps) in
    rw (from_is (full + 1) used p ps s, use_pick used b xs (relinks s p ps)) (one_more full (full_pages ps s) (length ps) b (in_use used xs) (in_use used (relinks s p ps)))

pub plan_is : (used old : ℕ) (ps s : List ℕ) → plan_from 0 used old ps s ≡ plan_of s used old ps
unfolding plan_of division_of
plan_is used old ps s = from_is 0 used old ps s ∙ rw (zero-add (full_pages ps s))
