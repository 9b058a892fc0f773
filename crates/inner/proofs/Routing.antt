-- Laws of judging and of routing: a turn of the loop that judges the keys, each way out of the judgement, and what the place
-- that a search finds has to meet. Assumes nothing.
use Rattle.std.proofs.Common.{Ok, Err, cond}
use Rattle.std.proofs.lemmas.List.Recursion.{is_position_or_len}
use Rattle.std.proofs.lemmas.List.Sums.{position_or_len_is}
use mathlib.Core.Path.{◌≡◌, refl, sym, ap, ◌∙◌}
use mathlib.Core.Bool.{Bool, true, false, ◌&&◌}
use mathlib.Core.List.{List, [], ◌∷◌}
use Prim.Native.Nat.{ℕ, zero, suc, ◌+◌, ◌≤◌, ◌<◌}
use native.Mathlib.Omega.{arith}
use borrow.Author.Tests.{le-leb, lt-leb, leb-true, eq-eqb, ne_eqb}
use lib.Dec.{leb, eqb}
use lib.ListN.{length, get_or}
use Rattle.store.specs.Pick.{pick}
use Rattle.page.specs.Header.{node_type, cell_count}
use Rattle.inner.specs.Inner.{key_at, child_at, keys_from, children_from, never_falls, judge_inner}
use Rattle.row.specs.Fault.{structural}
use Rattle.inner.specs.Route.{first_where, child_place}
use Rattle.store.proofs.Tests.{and_both}

-- ---- keys that never fall

-- a turn of the loop that judges them, with its flag
pub falls-turn : (ok : Bool) (last k i n m : ℕ) (pg : List ℕ) → n ≡ suc m → k ≡ key_at pg i
    → (ok && never_falls last (keys_from pg i n)) ≡ ((ok && leb last k) && never_falls k (keys_from pg (i + 1) m))
unfolding never_falls keys_from
falls-turn true last k i n m pg e f = rw (e, f)
falls-turn false last k i n m pg e f = refl

pub falls-end : (ok : Bool) (last i n : ℕ) (pg : List ℕ) → n ≡ 0 → (ok && never_falls last (keys_from pg i n)) ≡ ok
unfolding never_falls keys_from
falls-end true last i n pg e = rw e
falls-end false last i n pg e = refl

-- ---- the judgement, one law for each way out

module _ (p : ℕ) (pg : List ℕ) where
  pub judge_kind : (node_type pg ≡ 0 → ⊥) → Err (structural p) ≡ judge_inner pg p
  unfolding judge_inner
  judge_kind h = rw (ne_eqb _ _ h)

  pub judge_none : node_type pg ≡ 0 → cell_count pg < 1 → Err (structural p) ≡ judge_inner pg p
  unfolding judge_inner
  judge_none h k = rw (eq-eqb _ _ h, lt-leb _ _ k)

  pub judge_many : node_type pg ≡ 0 → 1 ≤ cell_count pg → 510 < cell_count pg → Err (structural p) ≡ judge_inner pg p
  unfolding judge_inner
  judge_many h k l = rw (eq-eqb _ _ h, le-leb _ _ k, lt-leb _ _ l)

  module _ {n : ℕ} {b : Bool} (kind : node_type pg ≡ 0) (count : n ≡ cell_count pg) (some : 1 ≤ n) (few : n ≤ 510) (is : b ≡ never_falls 0 (keys_from pg 0 n)) where
    pub judge_ok : b ≡ true → Ok n ≡ judge_inner pg p
    unfolding judge_inner
    judge_ok e = rw (eq-eqb _ _ kind, ← count, le-leb _ _ some, le-leb _ _ few, ← is, e)

    pub judge_falls : b ≡ false → Err (structural p) ≡ judge_inner pg p
    unfolding judge_inner
    judge_falls e = rw (eq-eqb _ _ kind, ← count, le-leb _ _ some, le-leb _ _ few, ← is, e)

-- ---- keys that never fall, by their places

-- they are at least what they start from
above : (x n m i j : ℕ) (pg : List ℕ) → j ≡ i + m → never_falls x (keys_from pg i n) ≡ true → m < n → x ≤ key_at pg j
unfolding never_falls keys_from
above x zero m i j pg e h l = absurd (omega arith)
above x (suc n) zero i j pg e h l =
    let f : j ≡ i = omega arith in
    rw f (leb-true x (key_at pg i) (and_both (leb x (key_at pg i)) _ h).0)
above x (suc n) (suc m) i j pg e h l =
    let s = and_both (leb x (key_at pg i)) _ h in
    let a : x ≤ key_at pg i = leb-true x (key_at pg i) s.0 in
    omega (arith, above (key_at pg i) n m (i + 1) j pg (omega arith) s.1 (omega arith))

keys_rise_from : (x n i a b j k : ℕ) (pg : List ℕ) → j ≡ i + a → k ≡ i + b → never_falls x (keys_from pg i n) ≡ true → a ≤ b → b < n → key_at pg j ≤ key_at pg k
unfolding never_falls keys_from
keys_rise_from x zero i a b j k pg ej ek h l u = absurd (omega arith)
keys_rise_from x (suc n) i zero zero j k pg ej ek h l u = let e : j ≡ k = omega arith in rw e (omega arith)
keys_rise_from x (suc n) i zero (suc b) j k pg ej ek h l u =
    let e : j ≡ i = omega arith in
    rw e (above (key_at pg i) n b (i + 1) k pg (omega arith) (and_both (leb x (key_at pg i)) _ h).1 (omega arith))
keys_rise_from x (suc n) i (suc a) zero j k pg ej ek h l u = absurd (omega arith)
keys_rise_from x (suc n) i (suc a) (suc b) j k pg ej ek h l u =
    keys_rise_from (key_at pg i) n (i + 1) a b j k pg (omega arith) (omega arith) (and_both (leb x (key_at pg i)) _ h).1 (omega arith) (omega arith)

pub keys_rise : (n i j : ℕ) (pg : List ℕ) → never_falls 0 (keys_from pg 0 n) ≡ true → i ≤ j → j < n → key_at pg i ≤ key_at pg j
keys_rise n i j pg h l u = keys_rise_from 0 n 0 i j i j pg (omega arith) (omega arith) h l u

-- ---- the first that meets a test, among n keys

pick_le : (b : Bool) (x n : ℕ) → x ≤ n → pick b 0 (suc x) ≤ suc n
pick_le true x n h = omega arith
pick_le false x n h = omega arith

pub first_in : (test : ℕ → Bool) (n i : ℕ) (pg : List ℕ) → first_where test (keys_from pg i n) ≤ n
unfolding first_where keys_from
first_in test zero i pg = omega arith
first_in test (suc n) i pg = pick_le (test (key_at pg i)) (first_where test (keys_from pg (i + 1) n)) n (first_in test n (i + 1) pg)

-- a key that is at least the bound is not before the first such
pub first_le : (bound n m i j : ℕ) (pg : List ℕ) → j ≡ i + m → m < n → bound ≤ key_at pg j → first_where (leb bound) (keys_from pg i n) ≤ m
unfolding first_where keys_from
first_le bound zero m i j pg e h l = absurd (omega arith)
first_le bound (suc n) zero i j pg e h l =
    let f : j ≡ i = omega arith in
    rw (le-leb bound (key_at pg i) (rw f at l)) (omega arith)
first_le bound (suc n) (suc m) i j pg e h l =
    pick_le (leb bound (key_at pg i)) (first_where (leb bound) (keys_from pg (i + 1) n)) m (first_le bound n m (i + 1) j pg (omega arith) (omega arith) l)

-- a key below the bound is before the first that is not, if they never fall
pub first_gt : (bound n m i j x : ℕ) (pg : List ℕ) → j ≡ i + m → never_falls x (keys_from pg i n) ≡ true → m < n → key_at pg j < bound
    → m < first_where (leb bound) (keys_from pg i n)
unfolding first_where never_falls keys_from
first_gt bound zero m i j x pg e h l k = absurd (omega arith)
first_gt bound (suc n) zero i j x pg e h l k =
    let f : j ≡ i = omega arith in
    rw (lt-leb bound (key_at pg i) (rw f at k)) (omega arith)
first_gt bound (suc n) (suc m) i j x pg e h l k =
    let s = and_both (leb x (key_at pg i)) _ h in
    let a : key_at pg i < bound = omega (arith, above (key_at pg i) n m (i + 1) j pg (omega arith) s.1 (omega arith)) in
    rw (lt-leb bound (key_at pg i) a) (omega (arith, first_gt bound n m (i + 1) j (key_at pg i) pg (omega arith) s.1 (omega arith) k))

-- ---- the first that meets a test, of a list that is read place by place, as the keys and the children of a page are

-- it stands at r, if none before r meets the test, and r does, unless it is the end
first_is : (test : ℕ → Bool) (l : List ℕ) (r : ℕ) → r ≤ length l → ((k : ℕ) → k < r → test (get_or l k 0) ≡ false) → (r < length l → test (get_or l r 0) ≡ true) → r ≡ first_where test l
unfolding first_where
first_is test l r h before here = sym (is_position_or_len (first_where test) test refl (λ x xs. step (test x) (first_where test xs)) l ∙ position_or_len_is test l r 0 h before here)
  where
    step : (b : Bool) (n : ℕ) → pick b 0 (suc n) ≡ cond b 0 (1 + n)
    step true n = refl
    step false n = omega arith

module _ (f : ℕ → ℕ) (read : (i n : ℕ) → List ℕ) (none : (i : ℕ) → read i 0 ≡ []) (more : (i n : ℕ) → read i (suc n) ≡ f i ∷ read (i + 1) n) where
  length_read : (n i : ℕ) → length (read i n) ≡ n
  length_read zero i = rw none
  length_read (suc n) i = rw more (ap suc (length_read n (i + 1)))

  read_at : (n k i j : ℕ) → j ≡ i + k → k < n → get_or (read i n) k 0 ≡ f j
  read_at zero k i j e h = absurd (omega arith)
  read_at (suc n) zero i j e h = let e' : j ≡ i = omega arith in rw (more, e')
  read_at (suc n) (suc k) i j e h = rw more (read_at n k (i + 1) j (omega arith) (omega arith))

  first_read : (test : ℕ → Bool) (n r : ℕ) → r ≤ n → ((k : ℕ) → k < r → test (f k) ≡ false) → (r < n → test (f r) ≡ true) → r ≡ first_where test (read 0 n)
  first_read test n r h before here =
      first_is test (read 0 n) r (omega (arith, length_read n 0))
      (λ k u. rw (read_at n k 0 k (omega arith) (omega arith)) (before k u))
      (λ u. let v : r < n = omega (arith, length_read n 0) in rw (read_at n r 0 r (omega arith) v) (here v))

pub first_key : (bound n r : ℕ) (pg : List ℕ) → r ≤ n → ((k : ℕ) → k < r → key_at pg k < bound) → (r < n → bound ≤ key_at pg r) → r ≡ first_where (leb bound) (keys_from pg 0 n)
unfolding keys_from
first_key bound n r pg h before here =
    first_read (key_at pg) (keys_from pg) (λ i. refl) (λ i n. refl) (leb bound) n r h (λ k u. lt-leb _ _ (before k u)) (λ u. le-leb _ _ (here u))

pub first_child : (child n r : ℕ) (pg : List ℕ) → r ≤ n → ((k : ℕ) → k < r → child_at pg k ≡ child → ⊥) → (r < n → child_at pg r ≡ child) → r ≡ child_place child (children_from pg 0 n)
unfolding children_from
first_child child n r pg h before here =
    first_read (child_at pg) (children_from pg) (λ i. refl) (λ i n. refl) (λ c. eqb c child) n r h (λ k u. ne_eqb _ _ (before k u)) (λ u. eq-eqb _ _ (here u))
