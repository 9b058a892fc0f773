-- The theorems of specs/ChainFacts.antt: counting the leaves of a walk ends it exactly where a page would be met twice.
-- Numbers below n that stand once each are at most n; and a walk that comes back to a page never ends. Assumes nothing.
use Rattle.std.proofs.Common.{Result, Ok, Err}
use mathlib.Core.Path.{◌≡◌, refl, sym, ap, ◌∙◌, subst}
use mathlib.Core.Bool.{Bool, true, false, not, ◌&&◌, ◌||◌}
use mathlib.Core.List.{List, [], ◌∷◌}
use Prim.Native.Nat.{ℕ, zero, suc, ◌≤◌, ◌<◌}
use native.Mathlib.Omega.{arith}
use lib.ListN.{length}
use borrow.Author.Tests.{ltb-true, ltb-false, eqb-true, eqb-false, not-true}
use lib.Dec.{ltb, eqb}
use Rattle.store.specs.Pick.{pick}
use Rattle.page.specs.Page.{page}
use Rattle.page.specs.Header.{next_leaf}
use Rattle.row.specs.declared.Fault.{Fault}
use Rattle.row.specs.Fault.{structural}
use Rattle.mvcc.specs.Lists.{mem}
use Rattle.leaf.specs.Cells.{cells, judge_leaf, on_judged, has_larger}
use Rattle.leaf.specs.Find.{find_leaf, test_leaf}
use Rattle.leaf.specs.Find.{Best}
use Rattle.tree.specs.Chain.{Seen, stop, go, broken, along, seen_best, seen_test, look_best, look_test}
use Rattle.tree.specs.ChainFacts.{meets, turn, Steady, CountIsEnough, Ill, TwiceIsIll}
use Rattle.tree.specs.Distinct.{distinct}
use Rattle.mvcc.specs.Snapshot.{Snapshot}
use Rattle.store.proofs.Tests.{and_both}

-- ---- numbers that stand once each

abbrev AllBelow : ℕ → List ℕ → Type 0
AllBelow n [] = Unit
AllBelow n (x ∷ xs) = (x < n) × AllBelow n xs

pub distinct_cons : (x : ℕ) (xs : List ℕ) → distinct (x ∷ xs) ≡ true → (mem x xs ≡ false) × (distinct xs ≡ true)
unfolding distinct
distinct_cons x xs e = let b = and_both (not (mem x xs)) (distinct xs) e in (not-true (mem x xs) b.0, b.1)

unfoldable without : ℕ → List ℕ → List ℕ
without x [] = []
without x (y ∷ ys) = pick (eqb y x) (without x ys) (y ∷ without x ys)

without-mem : (x z : ℕ) (l : List ℕ) → mem z l ≡ false → mem z (without x l) ≡ false
unfolding without mem
without-mem x z [] e = refl
without-mem x z (y ∷ ys) e = by_tests (eqb y x) (eqb y z) refl (without-mem x z ys) e
  where
    by_tests : (a b : Bool) → eqb y z ≡ b → (mem z ys ≡ false → mem z (without x ys) ≡ false) → (b || mem z ys) ≡ false
        → mem z (pick a (without x ys) (y ∷ without x ys)) ≡ false
    by_tests a true q ih t = absurd cc
    by_tests true false q ih t = ih t
    by_tests false false q ih t = rw q (ih t)

without-none : (x : ℕ) (l : List ℕ) → mem x l ≡ false → without x l ≡ l
unfolding without mem
without-none x [] e = refl
without-none x (y ∷ ys) e = by_test (eqb y x) (without-none x ys) e
  where
    by_test : (a : Bool) → (mem x ys ≡ false → without x ys ≡ ys) → (a || mem x ys) ≡ false → pick a (without x ys) (y ∷ without x ys) ≡ y ∷ ys
    by_test true ih t = absurd cc
    by_test false ih t = rw (ih t)

without-distinct : (x : ℕ) (l : List ℕ) → distinct l ≡ true → (distinct (without x l) ≡ true) × (length l ≤ suc (length (without x l)))
unfolding without distinct
without-distinct x [] e = (refl, omega arith)
without-distinct x (y ∷ ys) e = let d = distinct_cons y ys e in by_test (eqb y x) refl d.0 (without-distinct x ys d.1)
  where
    by_test : (a : Bool) → eqb y x ≡ a → mem y ys ≡ false → (distinct (without x ys) ≡ true) × (length ys ≤ suc (length (without x ys)))
        → (distinct (pick a (without x ys) (y ∷ without x ys)) ≡ true) × (suc (length ys) ≤ suc (length (pick a (without x ys) (y ∷ without x ys))))
    by_test true q n ih =
        let w : without x ys ≡ ys = without-none x ys (rw (eqb-true y x q) at n) in
        (ih.0, rw w (omega arith))
    by_test false q n ih = (rw (without-mem x y ys n, ih.0), omega arith)

without-below : (n : ℕ) (l : List ℕ) → AllBelow (suc n) l → AllBelow n (without n l)
unfolding without
without-below n [] b = tt
without-below n (y ∷ ys) b = by_test (eqb y n) refl b.0 (without-below n ys b.1)
  where
    by_test : (a : Bool) → eqb y n ≡ a → y < suc n → AllBelow n (without n ys) → AllBelow n (pick a (without n ys) (y ∷ without n ys))
    by_test true q h ih = ih
    by_test false q h ih = let z = eqb-false y n q in (omega arith, ih)

pigeonhole : (n : ℕ) (l : List ℕ) → AllBelow n l → distinct l ≡ true → length l ≤ n
pigeonhole zero [] b d = omega arith
pigeonhole zero (x ∷ xs) b d = absurd (let h = b.0 in omega arith)
pigeonhole (suc n) l b d =
    let w = without-distinct n l d in
    let i = pigeonhole n (without n l) (without-below n l b) w.0 in
    omega arith

-- ---- a turn of a walk

module _ {A : Type 0} (look : A → ℕ → List ℕ → Seen A) (used : ℕ) (s : List ℕ) where
  abbrev next : ℕ → ℕ
  next p = next_leaf (page s p)

  -- the page is not in use; or the walk ends there; or it goes on
  data View (a : A) (p : ℕ) : Type 0 where
    out : used ≤ p → ((m : ℕ) → along s used p look (suc m) a ≡ Err (structural p)) → ((m : ℕ) → meets s used p look (suc m) a ≡ []) → View a p
    last : (t : Result A Fault) → p < used → (turn (look a p (page s p)) ≡ 1 → (next p ≡ 0 → ⊥) → ⊥) → ((m : ℕ) → along s used p look (suc m) a ≡ t)
        → ((m : ℕ) → meets s used p look (suc m) a ≡ p ∷ []) → View a p
    on : (b : A) → p < used → turn (look a p (page s p)) ≡ 1 → (next p ≡ 0 → ⊥) → ((m : ℕ) → along s used p look (suc m) a ≡ along s used (next p) look m b)
        → ((m : ℕ) → meets s used p look (suc m) a ≡ p ∷ meets s used (next p) look m b) → View a p

  view : (a : A) (p : ℕ) → View a p
  unfolding along meets
  view a p = by_tests (ltb p used) refl (look a p (page s p)) refl (eqb (next p) 0) refl
    where
      by_tests : (t : Bool) → ltb p used ≡ t → (r : Seen A) → look a p (page s p) ≡ r → (z : Bool) → eqb (next p) 0 ≡ z → View a p
      by_tests false l r q z e = out (ltb-false p used l) (λ m. rw l) (λ m. rw l)
      by_tests true l (stop b) q z e = last (Ok b) (ltb-true p used l) (λ t n. absurd cc) (λ m. rw (l, q)) (λ m. rw (l, q))
      by_tests true l (broken f) q z e = last (Err f) (ltb-true p used l) (λ t n. absurd cc) (λ m. rw (l, q)) (λ m. rw (l, q))
      by_tests true l (go b) q true e = last (Ok b) (ltb-true p used l) (λ t n. n (eqb-true (next p) 0 e)) (λ m. rw (l, q, e)) (λ m. rw (l, q, e))
      by_tests true l (go b) q false e = on b (ltb-true p used l) (rw q) (eqb-false (next p) 0 e) (λ m. rw (l, q, e)) (λ m. rw (l, q, e))

  met-below : (m : ℕ) (a : A) (p : ℕ) → AllBelow used (meets s used p look m a)
  unfolding meets
  met-below zero a p = tt
  met-below (suc m) a p = by_view (view a p) (λ b. met-below m b (next p))
    where
      by_view : View a p → ((b : A) → AllBelow used (meets s used (next p) look m b)) → AllBelow used (meets s used p look (suc m) a)
      by_view (out h w v) ih = subst (AllBelow used) (sym (v m)) tt
      by_view (last t h n w v) ih = subst (AllBelow used) (sym (v m)) (h, tt)
      by_view (on b h g n w v) ih = subst (AllBelow used) (sym (v m)) (h, ih b)

  -- where at most k pages are met, k is enough
  along-same : (k m : ℕ) (a : A) (p : ℕ) → k ≤ m → length (meets s used p look m a) ≤ k → along s used p look m a ≡ along s used p look k a
  unfolding along
  along-same zero zero a p h l = refl
  along-same (suc k) zero a p h l = absurd (omega arith)
  along-same zero (suc m) a p h l = by_view (view a p)
    where
      by_view : View a p → along s used p look (suc m) a ≡ Err (structural p)
      by_view (out h w v) = w m
      by_view (last t h n w v) = absurd (let e : length (meets s used p look (suc m) a) ≡ 1 = ap length (v m) in omega arith)
      by_view (on b h g n w v) = absurd (let e : length (meets s used p look (suc m) a) ≡ suc (length (meets s used (next p) look m b)) = ap length (v m) in omega arith)
  along-same (suc k) (suc m) a p h l = by_view (view a p) (λ b i. along-same k m b (next p) (omega arith) i)
    where
      by_view : View a p → ((b : A) → length (meets s used (next p) look m b) ≤ k → along s used (next p) look m b ≡ along s used (next p) look k b)
          → along s used p look (suc m) a ≡ along s used p look (suc k) a
      by_view (out h w v) ih = w m ∙ sym (w k)
      by_view (last t h n w v) ih = w m ∙ sym (w k)
      by_view (on b h g n w v) ih =
          let e : length (meets s used p look (suc m) a) ≡ suc (length (meets s used (next p) look m b)) = ap length (v m) in
          w m ∙ (ih b (omega arith) ∙ sym (w k))

pub count-is_enough : (A : Type 0) → CountIsEnough A
count-is_enough A look used m a p s h d = along-same look used s used m a p h (pigeonhole used (meets s used p look m a) (met-below look used s m a p) d)

-- ---- a walk that comes back

module _ {A : Type 0} (look : A → ℕ → List ℕ → Seen A) (steady : Steady look) (used : ℕ) (s : List ℕ) where
  -- whatever was gathered, the walk goes on from p
  record Goes (p : ℕ) : Type 0 where
    in_use : p < used
    turns : (a : A) → turn (look a p (page s p)) ≡ 1
    more : next_leaf (page s p) ≡ 0 → ⊥

  -- it goes on at least k times
  abbrev Runs : ℕ → ℕ → Type 0
  Runs zero p = Unit
  Runs (suc k) p = Goes p × Runs k (next_leaf (page s p))

  runs_less : (k p : ℕ) → Runs (suc k) p → Runs k p
  runs_less zero p r = tt
  runs_less (suc k) p r = (r.0, runs_less k (next_leaf (page s p)) r.1)

  runs_ill : (k : ℕ) (a : A) (p : ℕ) → Runs k p → Ill (along s used p look k a)
  unfolding along
  runs_ill zero a p r = record { fault = structural p; is = refl }
  runs_ill (suc k) a p r = by_view (view look used s a p) (λ b. runs_ill k b (next_leaf (page s p)) r.1)
    where
      by_view : View look used s a p → ((b : A) → Ill (along s used (next_leaf (page s p)) look k b)) → Ill (along s used p look (suc k) a)
      by_view (out h w v) ih = absurd (let g = r.0.in_use in omega arith)
      by_view (last t h n w v) ih = absurd (n (r.0.turns a) r.0.more)
      by_view (on b h g n w v) ih = record { fault = (ih b).fault; is = w k ∙ (ih b).is }

  -- a page that is met runs no longer than the page where the walk began
  met_runs : (m : ℕ) (a : A) (p x : ℕ) → mem x (meets s used p look m a) ≡ true → (k : ℕ) → Runs k x → Runs k p
  unfolding mem meets
  met_runs zero a p x e k r = absurd cc
  met_runs (suc m) a p x e k r = by_view (view look used s a p) (λ b i. met_runs m b (next_leaf (page s p)) x i k r)
    where
      by_test : (t : Bool) → eqb p x ≡ t → (l : List ℕ) → (mem x l ≡ true → Runs k p) → (t || mem x l) ≡ true → Runs k p
      by_test true q l ih u = subst (Runs k) (sym (eqb-true p x q)) r
      by_test false q l ih u = ih u

      by_view : View look used s a p → ((b : A) → mem x (meets s used (next_leaf (page s p)) look m b) ≡ true → Runs k (next_leaf (page s p))) → Runs k p
      by_view (out h w v) ih = absurd (let z : ◌≡◌ {A = Bool} false true = ap (mem x) (sym (v m)) ∙ e in cc)
      by_view (last t h n w v) ih = by_test (eqb p x) refl [] (λ u. absurd cc) (ap (mem x) (sym (v m)) ∙ e)
      by_view (on b h g n w v) ih =
          by_test (eqb p x) refl (meets s used (next_leaf (page s p)) look m b)
          (λ u. runs_less k p (record { in_use = h; turns = λ c. steady c a p (page s p) ∙ g; more = n }, ih b u))
          (ap (mem x) (sym (v m)) ∙ e)

  back_runs : (p : ℕ) → Goes p → ((k : ℕ) → Runs k p → Runs k (next_leaf (page s p))) → (k : ℕ) → Runs k p
  back_runs p g f zero = tt
  back_runs p g f (suc k) = (g, f k (back_runs p g f k))

  twice_runs : (m : ℕ) (a : A) (p : ℕ) → distinct (meets s used p look m a) ≡ false → (k : ℕ) → Runs k p
  unfolding distinct mem meets
  twice_runs zero a p e = absurd cc
  twice_runs (suc m) a p e = by_view (view look used s a p) (λ b i. twice_runs m b (next_leaf (page s p)) i)
    where
      by_mem : Goes p → (b : A) (t : Bool) → mem p (meets s used (next_leaf (page s p)) look m b) ≡ t
          → (distinct (meets s used (next_leaf (page s p)) look m b) ≡ false → (k : ℕ) → Runs k (next_leaf (page s p)))
          → (not t && distinct (meets s used (next_leaf (page s p)) look m b)) ≡ false → (k : ℕ) → Runs k p
      by_mem g b true q ih u k = back_runs p g (met_runs m b (next_leaf (page s p)) p q) k
      by_mem g b false q ih u k = runs_less k p (g, ih u k)

      by_view : View look used s a p → ((b : A) → distinct (meets s used (next_leaf (page s p)) look m b) ≡ false → (k : ℕ) → Runs k (next_leaf (page s p))) → (k : ℕ) → Runs k p
      by_view (out h w v) ih = absurd (let z : ◌≡◌ {A = Bool} true false = ap distinct (sym (v m)) ∙ e in cc)
      by_view (last t h n w v) ih = absurd (let z : ◌≡◌ {A = Bool} true false = ap distinct (sym (v m)) ∙ e in cc)
      by_view (on b h g n w v) ih =
          by_mem (record { in_use = h; turns = λ c. steady c a p (page s p) ∙ g; more = n }) b (mem p (meets s used (next_leaf (page s p)) look m b)) refl (ih b) (ap distinct (sym (v m)) ∙ e)

pub twice_is-ill : (A : Type 0) → TwiceIsIll A
twice_is-ill A look steady used m a p s d = runs_ill look steady used s used a p (twice_runs look steady used s m a p d used)

-- ---- the two walks

-- a leaf's judgement, and whether it holds a larger key, decide whether the walk goes on
by_leaf : {A B : Type 0} (seen : B → Seen A) (good : A → Bool → B) (bad : Fault → B) → ((a b : A) (l : Bool) → turn (seen (good a l)) ≡ turn (seen (good b l)))
    → (a b : A) (l : Bool) (j : Result ℕ Fault) → turn (seen (on_judged (λ e. good a l) bad j)) ≡ turn (seen (on_judged (λ e. good b l) bad j))
by_leaf seen good bad h a b l (Ok e) = h a b l
by_leaf seen good bad h a b l (Err f) = refl

best-turn : (a b : Best) (l : Bool) → turn (seen_best (Ok (a, l))) ≡ turn (seen_best (Ok (b, l)))
best-turn a b true = refl
best-turn a b false = refl

pub steady_best : (sn : Snapshot) (st : ℕ → ℕ) (key : ℕ) → Steady (look_best key sn st)
unfolding find_leaf
steady_best sn st key a b p pg = by_leaf seen_best (λ x l. Ok (x, l)) (λ f. Err f) best-turn _ _ (has_larger key (cells pg)) (judge_leaf pg p)

test_turn : (a b l : Bool) → turn (seen_test (Ok (a, l))) ≡ turn (seen_test (Ok (b, l)))
test_turn a b true = refl
test_turn a b false = refl

pub steady_test : (claiming : Bool) (sn : Snapshot) (st : ℕ → ℕ) (seen key : ℕ) → Steady (look_test key sn st claiming seen)
unfolding test_leaf
steady_test claiming sn st seen key a b p pg = by_leaf seen_test (λ x l. Ok (x, l)) (λ f. Err f) test_turn _ _ (has_larger key (cells pg)) (judge_leaf pg p)
