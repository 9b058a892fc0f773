-- The climb: the ways out of the step to the page above; the climb that collects into a path, each way that a turn of it
-- goes, and that it says what the climb without a path says; and what a climb that came to the root says of its pages.
-- Assumes nothing.
use Rattle.std.proofs.Common.{Result, Ok, Err}
use mathlib.Core.Path.{◌≡◌, refl, sym, ap, ◌∙◌, subst}
use mathlib.Core.Bool.{Bool, true, false}
use mathlib.Core.List.{List, [], ◌∷◌, ◌++◌}
use Prim.Native.Nat.{ℕ, zero, suc, ◌+◌, ◌-◌, ◌≤◌, ◌<◌}
use native.Mathlib.Omega.{arith}
use lib.ListN.{length, get_or, set, drop, length-append, length-drop}
use lib.Seq.{set-append_seam, append_snoc}
use borrow.Author.Tests.{lt-ltb, le-ltb, eq-eqb, ne_eqb, ltb-true, eqb-true, eqb-false}
use lib.Dec.{ltb, eqb}
use Rattle.store.specs.Pick.{pick}
use Rattle.store.specs.Part.{pad, zeros}
use Rattle.page.specs.Page.{page}
use Rattle.page.specs.Header.{parent_of}
use Rattle.row.specs.declared.Fault.{Fault}
use Rattle.inner.specs.Inner.{child_at, children_from, judge_inner}
use Rattle.row.specs.Fault.{structural}
use Rattle.inner.specs.Route.{first_where, child_place}
use Rattle.tree.specs.Descend.{on_inner}
use Rattle.tree.specs.Climb.{above_from, above_of, on_above, Way, up, astray, way_from, root_way, climb_of, path_of, climbed}
use Rattle.tree.specs.declared.climb.Path.{Path}

-- ---- the page above

module _ (used p q : ℕ) (s : List ℕ) where
  from_unused : {f : Fault} → used ≤ q → f ≡ structural q → Err f ≡ above_from s used p q
  unfolding above_from
  from_unused h e = rw (le-ltb q used h, e)

  module _ {pg : List ℕ} {r : Result ℕ Fault} (h : q < used) (here : pg ≡ page s q) (judged : r ≡ judge_inner pg q) where
    from_bad : {f : Fault} → r ≡ Err f → Err f ≡ above_from s used p q
    unfolding above_from
    from_bad e = rw (lt-ltb q used h, ← here, sym judged ∙ e)

    module _ {n i : ℕ} (e : r ≡ Ok n) (place : i ≡ child_place p (children_from pg 0 (n + 1))) where
      from_found : i ≤ n → Ok q ≡ above_from s used p q
      unfolding above_from
      from_found l = rw (lt-ltb q used h, ← here, sym judged ∙ e, ← place, lt-ltb i (n + 1) (omega arith))

      from_other : {f : Fault} → n < i → f ≡ structural q → Err f ≡ above_from s used p q
      unfolding above_from
      from_other l u = rw (lt-ltb q used h, ← here, sym judged ∙ e, ← place, le-ltb i (n + 1) (omega arith), u)

module _ (used p : ℕ) (s : List ℕ) {pg₀ : List ℕ} {q : ℕ} (low : pg₀ ≡ page s p) (parent : q ≡ parent_of pg₀) where
  from_parent : above_from s used p q ≡ above_of s used p
  from_parent = ap (λ (x : ℕ). above_from s used p x) (parent ∙ ap parent_of low)

  pub above_unused : {f : Fault} → used ≤ q → f ≡ structural q → Err f ≡ above_of s used p
  above_unused h e = from_unused used p q s h e ∙ from_parent

  module _ {pg : List ℕ} {r : Result ℕ Fault} (h : q < used) (here : pg ≡ page s q) (judged : r ≡ judge_inner pg q) where
    pub above_bad : {f : Fault} → r ≡ Err f → Err f ≡ above_of s used p
    above_bad e = from_bad used p q s h here judged e ∙ from_parent

    module _ {n i : ℕ} (e : r ≡ Ok n) (place : i ≡ child_place p (children_from pg 0 (n + 1))) where
      pub above_page : i ≤ n → Ok q ≡ above_of s used p
      above_page l = from_found used p q s h here judged e place l ∙ from_parent

      pub above_other : {f : Fault} → n < i → f ≡ structural q → Err f ≡ above_of s used p
      above_other l u = from_other used p q s h here judged e place l u ∙ from_parent

-- ---- the climb that collects

-- at the root, with the path to it
abbrev pub root_end : List ℕ → ℕ → Path → Result Path Fault
root_end s p path = pick (eqb (parent_of (page s p)) 0) (Ok path) (Err (structural p))

abbrev pub step_path : Path → ℕ → Path
step_path path q = record { pages = set path.pages path.len q; len = path.len + 1 }

-- from page p, which path holds already, with k more levels above it at most
unfoldable pub climb_from : (k : ℕ) → (used root p : ℕ) → Path → List ℕ → Result Path Fault
climb_from zero used root p path s = pick (eqb p root) (root_end s p path) (Err (structural p))
climb_from (suc k) used root p path s =
    pick (eqb p root) (root_end s p path) (on_above (λ q. climb_from k used root q (step_path path q) s) (λ f. Err f) (above_of s used p))

module _ (used root p : ℕ) (path : Path) (s : List ℕ) where
  module _ {pg : List ℕ} {q : ℕ} (h : p ≡ root) (here : pg ≡ page s root) (parent : q ≡ parent_of pg) where
    from_root : (k : ℕ) → root_end s p path ≡ climb_from k used root p path s
    unfolding climb_from
    from_root zero = rw (eq-eqb p root h)
    from_root (suc k) = rw (eq-eqb p root h)

    pub climb_top : (k : ℕ) → q ≡ 0 → Ok path ≡ climb_from k used root p path s
    climb_top k e = (let z : parent_of (page s p) ≡ 0 = rw (h, ← here) (sym parent ∙ e) in rw (eq-eqb (parent_of (page s p)) 0 z)) ∙ from_root k

    pub climb_lost : (k : ℕ) {f : Fault} → (q ≡ 0 → ⊥) → f ≡ structural root → Err f ≡ climb_from k used root p path s
    climb_lost k z e = (rw (ne_eqb (parent_of (page s p)) 0 (λ d. z (parent ∙ rw (here, ← h) d)), e, h)) ∙ from_root k

  module _ (h : p ≡ root → ⊥) where
    pub climb_high : (k : ℕ) {f : Fault} → k ≤ 0 → f ≡ structural p → Err f ≡ climb_from k used root p path s
    unfolding climb_from
    climb_high zero z e = rw (ne_eqb p root h, e)
    climb_high (suc k) z e = absurd (omega arith)

    module _ {a : Result ℕ Fault} (step : a ≡ above_of s used p) where
      pub climb_bad : (k : ℕ) {f : Fault} → 0 < k → a ≡ Err f → Err f ≡ climb_from k used root p path s
      unfolding climb_from
      climb_bad zero z e = absurd (omega arith)
      climb_bad (suc k) z e = rw (ne_eqb p root h, sym step ∙ e)

      pub climb_on : (k : ℕ) {m q : ℕ} → k ≡ suc m → a ≡ Ok q → climb_from m used root q (step_path path q) s ≡ climb_from k used root p path s
      unfolding climb_from
      climb_on zero z e = absurd (omega arith)
      climb_on (suc k) {m} z e =
          let w : m ≡ k = omega arith in
          rw (ne_eqb p root h, sym step ∙ e, w)

-- ---- and the climb without a path

abbrev after : List ℕ → Way → Way
after xs (up ps) = up (xs ++ ps)
after xs (astray f) = astray f

after-below : (xs : List ℕ) (p : ℕ) (w : Way) → after (xs ++ (p ∷ [])) w ≡ after xs (way_from p w)
after-below xs p (up ps) = ap (λ (l : List ℕ). up l) (append_snoc xs p ps)
after-below xs p (astray f) = refl

path_step : (xs : List ℕ) (q : ℕ) → length xs < 4 → step_path (path_of xs) q ≡ path_of (xs ++ (q ∷ []))
unfolding pad
path_step xs q h =
    let l : length (xs ++ (q ∷ [])) ≡ length xs + 1 = length-append xs (q ∷ []) in
    let m : 4 - length xs ≡ suc (3 - length xs) = omega arith in
    let n : 4 - (length xs + 1) ≡ 3 - length xs = omega arith in
    rw (l, m, n, set-append_seam xs 0 (zeros (3 - length xs)) q, append_snoc xs q (zeros (3 - length xs)))

root_is : (p : ℕ) (xs : List ℕ) (s : List ℕ) → root_end s p (path_of (xs ++ (p ∷ []))) ≡ climbed (after xs (root_way s p))
root_is p xs s = by_parent (eqb (parent_of (page s p)) 0)
  where
    by_parent : (b : Bool) → pick b (Ok (path_of (xs ++ (p ∷ [])))) (Err (structural p)) ≡ climbed (after xs (pick b (up (p ∷ [])) (astray (structural p))))
    by_parent true = refl
    by_parent false = refl

from_is : (k used root p : ℕ) (xs : List ℕ) (s : List ℕ) → length xs + k < 4 → climb_from k used root p (path_of (xs ++ (p ∷ []))) s ≡ climbed (after xs (climb_of s used root p k))
unfolding climb_from climb_of
from_is zero used root p xs s h = by_root (eqb p root)
  where
    by_root : (b : Bool) → pick b (root_end s p (path_of (xs ++ (p ∷ [])))) (Err (structural p)) ≡ climbed (after xs (pick b (root_way s p) (astray (structural p))))
    by_root true = root_is p xs s
    by_root false = refl
from_is (suc k) used root p xs s h =
    by_root
    (λ q.
    let l : length (xs ++ (p ∷ [])) ≡ length xs + 1 = length-append xs (p ∷ []) in
    ap (λ (x : Path). climb_from k used root q x s) (path_step (xs ++ (p ∷ [])) q (omega arith))
    ∙ (from_is k used root q (xs ++ (p ∷ [])) s (omega arith) ∙ ap climbed (after-below xs p (climb_of s used root q k))))
    (eqb p root) (above_of s used p)
  where
    by_root : ((q : ℕ) → climb_from k used root q (step_path (path_of (xs ++ (p ∷ []))) q) s ≡ climbed (after xs (way_from p (climb_of s used root q k)))) → (b : Bool) (a : Result ℕ Fault)
        → pick b (root_end s p (path_of (xs ++ (p ∷ [])))) (on_above (λ q. climb_from k used root q (step_path (path_of (xs ++ (p ∷ []))) q) s) (λ f. Err f) a)
        ≡ climbed (after xs (pick b (root_way s p) (on_above (λ q. way_from p (climb_of s used root q k)) (λ f. astray f) a)))
    by_root ih true a = root_is p xs s
    by_root ih false (Ok q) = ih q
    by_root ih false (Err f) = refl

-- the path that holds the leaf alone
abbrev pub leaf_path : ℕ → Path
leaf_path p = record { pages = p ∷ 0 ∷ 0 ∷ 0 ∷ []; len = 1 }

pub climb-is : (used root p : ℕ) (s : List ℕ) → climb_from 3 used root p (leaf_path p) s ≡ climbed (climb_of s used root p 3)
unfolding pad
climb-is used root p s = from_is 3 used root p [] s (omega arith) ∙ ap climbed (same (climb_of s used root p 3))
  where
    same : (w : Way) → after [] w ≡ w
    same (up ps) = refl
    same (astray f) = refl

-- ---- what a climb that came to the root says

-- q, above p: p names it, it is in use and judged, and holds p
pub record Held (used p q : ℕ) (s : List ℕ) : Type 0 where
  pub named : parent_of (page s p) ≡ q
  pub in_use : q < used
  pub keys : ℕ
  pub judged : judge_inner (page s q) q ≡ Ok keys
  pub place : child_place p (children_from (page s q) 0 (keys + 1)) ≤ keys

-- what the step to the page above says
pub held : (used p : ℕ) (s : List ℕ) {q : ℕ} → above_of s used p ≡ Ok q → Held used p q s
unfolding above_from
held used p s {q} e = by_use (parent_of (page s p)) refl (ltb (parent_of (page s p)) used) refl e
  where
    by_place : (t n : ℕ) → parent_of (page s p) ≡ t → t < used → judge_inner (page s t) t ≡ Ok n → (b : Bool)
        → ltb (child_place p (children_from (page s t) 0 (n + 1))) (n + 1) ≡ b → pick b (Ok t) (Err (structural t)) ≡ Ok q → Held used p q s
    by_place t n z h j true l u =
        let w : t ≡ q = cc in
        let i = ltb-true (child_place p (children_from (page s t) 0 (n + 1))) (n + 1) l in
        subst (λ (x : ℕ). Held used p x s) w (record { named = z; in_use = h; keys = n; judged = j; place = omega arith })
    by_place t n z h j false l u = absurd cc

    by_judged : (t : ℕ) → parent_of (page s p) ≡ t → t < used → (r : Result ℕ Fault) → judge_inner (page s t) t ≡ r
        → on_inner (λ n. pick (ltb (child_place p (children_from (page s t) 0 (n + 1))) (n + 1)) (Ok t) (Err (structural t))) (λ f. Err f) r ≡ Ok q
        → Held used p q s
    by_judged t z h (Ok n) j u = by_place t n z h j (ltb (child_place p (children_from (page s t) 0 (n + 1))) (n + 1)) refl u
    by_judged t z h (Err f) j u = absurd cc

    by_use : (t : ℕ) → parent_of (page s p) ≡ t → (b : Bool) → ltb t used ≡ b
        → pick b
        (on_inner (λ n. pick (ltb (child_place p (children_from (page s t) 0 (n + 1))) (n + 1)) (Ok t) (Err (structural t))) (λ f. Err f) (judge_inner (page s t) t))
        (Err (structural t))
        ≡ Ok q
        → Held used p q s
    by_use t z true l u = by_judged t z (ltb-true t used l) (judge_inner (page s t) t) refl u
    by_use t z false l u = absurd cc

place_child : (child n i j : ℕ) (pg : List ℕ) → j ≡ i + child_place child (children_from pg i n) → child_place child (children_from pg i n) < n → child_at pg j ≡ child
unfolding children_from first_where
place_child child zero i j pg e h = absurd (omega arith)
place_child child (suc n) i j pg e h = by_test (eqb (child_at pg i) child) refl (λ k l. place_child child n (i + 1) j pg k l) e h
  where
    by_test : (b : Bool) → eqb (child_at pg i) child ≡ b
        → (j ≡ i + 1 + child_place child (children_from pg (i + 1) n) → child_place child (children_from pg (i + 1) n) < n → child_at pg j ≡ child)
        → j ≡ i + pick b 0 (suc (child_place child (children_from pg (i + 1) n))) → pick b 0 (suc (child_place child (children_from pg (i + 1) n))) < suc n → child_at pg j ≡ child
    by_test true q ih u l = let w : j ≡ i = omega arith in rw w (eqb-true (child_at pg i) child q)
    by_test false q ih u l = ih (omega arith) (omega arith)

-- the pages above p, one after another, up to the root
abbrev pub Rises : (used root p : ℕ) → (s above : List ℕ) → Type 0
Rises used root p s [] = (p ≡ root) × (parent_of (page s p) ≡ 0)
Rises used root p s (q ∷ qs) = (p ≡ root → ⊥) × Held used p q s × Rises used root q s qs

pub record Risen (k used root p : ℕ) (s ps : List ℕ) : Type 0 where
  pub above : List ℕ
  pub is : ps ≡ p ∷ above
  pub few : length above ≤ k
  pub rises : Rises used root p s above

module _ (used root : ℕ) (s : List ℕ) where
  root_risen : (k p : ℕ) {ps : List ℕ} → p ≡ root → root_way s p ≡ up ps → Risen k used root p s ps
  root_risen k p {ps} h e = by_parent (eqb (parent_of (page s p)) 0) refl e
    where
      by_parent : (b : Bool) → eqb (parent_of (page s p)) 0 ≡ b → pick b (up (p ∷ [])) (astray (structural p)) ≡ up ps → Risen k used root p s ps
      by_parent true q u = record { above = []; is = cc; few = omega arith; rises = (h, eqb-true (parent_of (page s p)) 0 q) }
      by_parent false q u = absurd cc

  -- what a climb that came to the root went through
  pub climb_risen : (k p : ℕ) {ps : List ℕ} → climb_of s used root p k ≡ up ps → Risen k used root p s ps
  unfolding climb_of
  climb_risen zero p {ps} e = by_root (eqb p root) refl e
    where
      by_root : (b : Bool) → eqb p root ≡ b → pick b (root_way s p) (astray (structural p)) ≡ up ps → Risen 0 used root p s ps
      by_root true q u = root_risen 0 p (eqb-true p root q) u
      by_root false q u = absurd cc
  climb_risen (suc k) p {ps} e = by_root (λ q qs u. climb_risen k q {ps = qs} u) (eqb p root) refl e
    where
      by_way : (q : ℕ) (w : Way) → ((qs : List ℕ) → w ≡ up qs → Risen k used root q s qs) → (p ≡ root → ⊥) → Held used p q s → way_from p w ≡ up ps → Risen (suc k) used root p s ps
      by_way q (up qs) ih z h u =
          let r = ih qs refl in
          let e = r.is in
          let f = r.few in
          record { above = q ∷ r.above; is = cc; few = omega arith; rises = (z, h, r.rises) }
      by_way q (astray f) ih z h u = absurd cc

      by_above : ((q : ℕ) (qs : List ℕ) → climb_of s used root q k ≡ up qs → Risen k used root q s qs) → (p ≡ root → ⊥) → (a : Result ℕ Fault) → above_of s used p ≡ a
          → on_above (λ q. way_from p (climb_of s used root q k)) (λ f. astray f) a ≡ up ps → Risen (suc k) used root p s ps
      by_above ih z (Ok q) t u = by_way q (climb_of s used root q k) (ih q) z (held used p s t) u
      by_above ih z (Err f) t u = absurd cc

      by_root : ((q : ℕ) (qs : List ℕ) → climb_of s used root q k ≡ up qs → Risen k used root q s qs) → (b : Bool) → eqb p root ≡ b
          → pick b (root_way s p) (on_above (λ q. way_from p (climb_of s used root q k)) (λ f. astray f) (above_of s used p)) ≡ up ps → Risen (suc k) used root p s ps
      by_root ih true q u = root_risen (suc k) p (eqb-true p root q) u
      by_root ih false q u = by_above ih (eqb-false p root q) (above_of s used p) refl u

  rises-used : (p : ℕ) (l : List ℕ) → p < used → Rises used root p s l → (i : ℕ) → i < suc (length l) → get_or (p ∷ l) i 0 < used
  rises-used p l h r zero b = h
  rises-used p [] h r (suc i) b = absurd (omega arith)
  rises-used p (q ∷ qs) h r (suc i) b = rises-used q qs r.1.in_use r.2 i (omega arith)

  rises_held : (p : ℕ) (l : List ℕ) → Rises used root p s l → (i : ℕ) → i < length l → Held used (get_or (p ∷ l) i 0) (get_or l i 0) s
  rises_held p [] r i b = absurd (omega arith)
  rises_held p (q ∷ qs) r zero b = r.1
  rises_held p (q ∷ qs) r (suc i) b = rises_held q qs r.2 i (omega arith)

  rises_top : (p : ℕ) (l : List ℕ) → Rises used root p s l → (get_or (p ∷ l) (length l) 0 ≡ root) × (parent_of (page s root) ≡ 0)
  rises_top p [] r = (r.0, rw r.0 at r.1)
  rises_top p (q ∷ qs) r = rises_top q qs r.2

  rises-drop : (p : ℕ) (l : List ℕ) → Rises used root p s l → (i : ℕ) → i ≤ length l → Rises used root (get_or (p ∷ l) i 0) s (drop i l)
  rises-drop p l r zero b = r
  rises-drop p [] r (suc i) b = absurd (omega arith)
  rises-drop p (q ∷ qs) r (suc i) b = rises-drop q qs r.2 i (omega arith)

  -- the page alone says what is above it
  rises-same : (p : ℕ) (l m : List ℕ) → Rises used root p s l → Rises used root p s m → length l ≡ length m
  rises-same p [] [] a b = refl
  rises-same p [] (y ∷ ys) a b = absurd (b.0 a.0)
  rises-same p (x ∷ xs) [] a b = absurd (a.0 b.0)
  rises-same p (x ∷ xs) (y ∷ ys) a b =
      let e : y ≡ x = sym b.1.named ∙ a.1.named in
      ap suc (rises-same x xs ys a.2 (subst (λ (z : ℕ). Rises used root z s ys) e b.2))

  -- so no page comes again
  rises-apart : (p : ℕ) (l : List ℕ) → Rises used root p s l → (i j : ℕ) → i < j → j ≤ length l → get_or (p ∷ l) j 0 ≡ get_or (p ∷ l) i 0 → ⊥
  rises-apart p l r i j h b e =
      let a = rises-drop p l r i (omega arith) in
      let c = subst (λ (z : ℕ). Rises used root z s (drop j l)) e (rises-drop p l r j b) in
      let same : length l - i ≡ length l - j = rw (length-drop i l, length-drop j l) at (rises-same (get_or (p ∷ l) i 0) (drop i l) (drop j l) a c) in
      omega arith

-- the path by its places, as a later store needs it
pub record PathIs (used root p : ℕ) (s ps : List ℕ) : Type 0 where
  pub some : 0 < length ps
  pub four : length ps ≤ 4
  pub first : get_or ps 0 0 ≡ p
  pub last : get_or ps (length ps - 1) 0 ≡ root
  pub top : parent_of (page s root) ≡ 0
  pub in_use : (i : ℕ) → i < length ps → get_or ps i 0 < used
  pub held_by : (i : ℕ) → i + 1 < length ps → Held used (get_or ps i 0) (get_or ps (i + 1) 0) s
  pub apart : (i j : ℕ) → i < j → j < length ps → get_or ps j 0 ≡ get_or ps i 0 → ⊥

pub path_is : (used root p : ℕ) (s : List ℕ) {ps : List ℕ} → p < used → climb_of s used root p 3 ≡ up ps → PathIs used root p s ps
path_is used root p s {ps} h e =
    let r = climb_risen used root s 3 p {ps = ps} e in
    subst (λ (l : List ℕ). PathIs used root p s l) (sym r.is) (of_risen r.above r.few r.rises)
  where
    of_risen : (l : List ℕ) → length l ≤ 3 → Rises used root p s l → PathIs used root p s (p ∷ l)
    of_risen l f r =
        let m : suc (length l) - 1 ≡ length l = omega arith in
        let t = rises_top used root s p l r in
        record {
          some = omega arith;
          four = omega arith;
          first = refl;
          last = rw m t.0;
          top = t.1;
          in_use = λ i b. rises-used used root s p l h r i b;
          held_by = λ i b. let n : i + 1 ≡ suc i = omega arith in rw n (rises_held used root s p l r i (omega arith));
          apart = λ i j a b. rises-apart used root s p l r i j a (omega arith);
        }

-- ---- the code's answer

pub record Reached (w : Way) (path : Path) : Type 0 where
  pub pages : List ℕ
  pub way : w ≡ up pages
  pub is : path ≡ path_of pages

pub reached : (w : Way) {r : Result Path Fault} {path : Path} → r ≡ climbed w → r ≡ Ok path → Reached w path
reached (up ps) {path = path} e t = record { pages = ps; way = refl; is = let u : ◌≡◌ {A = Result Path Fault} (Ok path) (Ok (path_of ps)) = sym t ∙ e in cc }
reached (astray f) {path = path} e t = absurd (let u : ◌≡◌ {A = Result Path Fault} (Ok path) (Err f) = sym t ∙ e in cc)
