-- Laws of the definitions in specs/Lists: what the judging of a list answers, and how a search by halves tells membership
-- and lookup in a rising list. Upper crates cite them, and open no definition. Assumes nothing.
use Rattle.std.proofs.Common.{take, is_ok, nat_cmp, Result, Ok, Err, MatchResult}
use Rattle.std.proofs.lemmas.List.{take_more}
use Rattle.std.proofs.lemmas.List.Recursion.{and_push, or_at, or_from_places}
use Rattle.std.proofs.lemmas.List.Sorted.{searched}
use Rattle.std.specs.List.{IsAllAdjacentAnswer}
use Rattle.std.specs.List.Sorted.{IsBinarySearchResult}
use mathlib.Core.Path.{◌≡◌, refl, sym}
use mathlib.Core.Bool.{Bool, true, false, ◌&&◌, and-eq-true_iff}
use mathlib.Core.List.{List, [], ◌∷◌}
use mathlib.Core.Logic.{⊎_elim}
use Prim.Native.Nat.{ℕ, zero, suc, ◌+◌, ◌≤◌, ◌<◌, zero-le, suc-le-suc}
use native.Mathlib.Nat.{le_of_suc-le-suc, not-suc-le-zero, eq-or-lt_of_le}
use native.Mathlib.Numerals.{add-one}
use native.Mathlib.Omega.{arith}
use lib.ListN.{length, get_or}
use lib.Dec.{ltb, leb, eqb}
use borrow.Author.Tests.{ltb-true, ltb-false, le-leb, lt-leb, eqb-true, eq-eqb, ne_eqb}
use Rattle.mvcc.specs.Lists.{rising, rising_from, are_states, mem, good_active, state_at}
use Rattle.mvcc.specs.Snapshot.{good_statuses, Statuses, statuses}
use Rattle.mvcc.specs.Steps.Snapshot.{StatusesJudged}
use Rattle.store.proofs.PartLaws.{le_or_lt}

-- ---- the turn of the loop that judges states

pub states_more : (s : List ℕ) (i : ℕ) → i < length s → are_states (take (i + 1) s) ≡ (are_states (take i s) && (leb 1 (get_or s i 0) && leb (get_or s i 0) 3))
unfolding are_states
states_more s i h = rw (take_more s i 0 h) (and_push are_states (λ x. leb 1 x && leb x 3) refl (λ _ _. refl) (take i s) (get_or s i 0))

-- ---- rising lists by their elements

-- each element of a list that rises from x is above x
above_first : (x : ℕ) (l : List ℕ) → rising_from x l ≡ true → (m : ℕ) → m < length l → x < get_or l m 0
unfolding rising_from
above_first x [] r m h = absurd (not-suc-le-zero h)
above_first x (y ∷ ys) r zero h = ltb-true x y ((and-eq-true_iff (ltb x y) (rising_from y ys)).0 r).0
above_first x (y ∷ ys) r (suc m) h =
    let p = (and-eq-true_iff (ltb x y) (rising_from y ys)).0 r in
    omega (arith, ltb-true x y p.0, above_first y ys p.1 m (le_of_suc-le-suc h))

tail_rises : (x : ℕ) (l : List ℕ) → rising (x ∷ l) ≡ true → rising l ≡ true
unfolding rising rising_from
tail_rises x [] r = refl
tail_rises x (y ∷ ys) r = ((and-eq-true_iff (ltb x y) (rising_from y ys)).0 r).1

first-least : (x : ℕ) (l : List ℕ) → rising (x ∷ l) ≡ true → (m : ℕ) → m < length l → x < get_or l m 0
unfolding rising
first-least x l r = above_first x l r

-- a later element is larger
rising_lt : (l : List ℕ) (i j : ℕ) → rising l ≡ true → i < j → j < length l → get_or l i 0 < get_or l j 0
rising_lt [] i j r h u = absurd (not-suc-le-zero u)
rising_lt (x ∷ xs) i zero r h u = absurd (not-suc-le-zero h)
rising_lt (x ∷ xs) zero (suc j) r h u = first-least x xs r j (le_of_suc-le-suc u)
rising_lt (x ∷ xs) (suc i) (suc j) r h u =
    rising_lt xs i j (tail_rises x xs r) (le_of_suc-le-suc h) (le_of_suc-le-suc u)

-- what a test of each element and the next answers

rises_from_next : (x : ℕ) (l : List ℕ) → ((k : ℕ) → k < length l → true ≡ ltb (get_or (x ∷ l) k 0) (get_or l k 0)) → rising_from x l ≡ true
unfolding rising_from
rises_from_next x [] h = refl
rises_from_next x (y ∷ ys) h = rw (← h 0 (suc-le-suc zero-le)) (rises_from_next y ys (λ k u. h (suc k) (suc-le-suc u)))

pub rises-adjacent : (l : List ℕ) (r : Bool) → IsAllAdjacentAnswer (λ a b t. t ≡ ltb a b) l r → r ≡ rising l
unfolding rising
rises-adjacent [] true h = refl
rises-adjacent (x ∷ l) true h = sym (rises_from_next x l (λ k u. rw add-one at (h k 0 (omega arith))))
rises-adjacent l false (k, u, t) = go (rising l) refl
  where
    go : (b : Bool) → rising l ≡ b → false ≡ b
    go true e = absurd (omega (arith, rising_lt l k (k + 1) e (omega arith) u, ltb-false _ _ (sym (t 0))))
    go false e = refl

-- ---- membership and lookup, by a place and by the want of one

mem_at : (x : ℕ) (l : List ℕ) (m : ℕ) → m < length l → get_or l m 0 ≡ x → mem x l ≡ true
unfolding mem
mem_at x l m h e = or_at (mem x) (λ y. eqb y x) refl (λ _ _. refl) l m 0 h (eq-eqb _ _ e)

mem-none : (x : ℕ) (l : List ℕ) → ((k : ℕ) → k < length l → get_or l k 0 ≡ x → ⊥) → mem x l ≡ false
unfolding mem
mem-none x l n = or_from_places (mem x) (λ y. eqb y x) refl (λ _ _. refl) l 0 (λ k h. ne_eqb _ _ (n k h))

pub lookup_at : (x : ℕ) (is ss : List ℕ) (m : ℕ) → rising is ≡ true → m < length is → m < length ss → get_or is m 0 ≡ x
    → state_at is ss x ≡ get_or ss m 0
unfolding state_at
lookup_at x [] ss m r h g e = absurd (not-suc-le-zero h)
lookup_at x (i ∷ is) [] m r h g e = absurd (not-suc-le-zero g)
lookup_at x (i ∷ is) (s ∷ ss) zero r h g e = rw (eq-eqb i x e)
lookup_at x (i ∷ is) (s ∷ ss) (suc m) r h g e =
    let lt = first-least i is r m (le_of_suc-le-suc h) in
    rw (ne_eqb i x (λ q. omega arith)) (lookup_at x is ss m (tail_rises i is r) (le_of_suc-le-suc h) (le_of_suc-le-suc g) e)

pub lookup-none : (x : ℕ) (is ss : List ℕ) → ((k : ℕ) → k < length is → get_or is k 0 ≡ x → ⊥) → state_at is ss x ≡ 0
unfolding state_at
lookup-none x [] ss n = refl
lookup-none x (i ∷ is) [] n = refl
lookup-none x (i ∷ is) (s ∷ ss) n =
    rw (ne_eqb i x (n 0 (suc-le-suc zero-le))) (lookup-none x is ss (λ k h. n (suc k) (suc-le-suc h)))

-- ---- what a search by halves finds

module _ (x : ℕ) (l : List ℕ) (rises : rising l ≡ true) where
  never_falls : (i j : ℕ) → i ≤ j → j < length l → get_or l i 0 ≤ get_or l j 0
  never_falls i j h u = ⊎_elim (λ e. rw e (omega arith)) (λ v. omega (arith, rising_lt l i j rises v u)) (eq-or-lt_of_le h)

  -- the place of x, or that x stands nowhere
  pub searched_in : (r : Result ℕ ℕ) → IsBinarySearchResult (λ y. nat_cmp y x) l r
      → MatchResult r (λ i. (i < length l) × (get_or l i 0 ≡ x)) (λ _. (k : ℕ) → k < length l → get_or l k 0 ≡ x → ⊥)
  searched_in (Ok i) h = searched l x (Ok i) h never_falls
  searched_in (Err i) h =
      let p = searched l x (Err i) h never_falls in
      λ k u e. ⊎_elim (λ v. omega (arith, p.2 k v u)) (λ v. omega (arith, p.1 k v)) (le_or_lt i k)

  pub mem-searched : (r : Result ℕ ℕ) → IsBinarySearchResult (λ y. nat_cmp y x) l r → is_ok r ≡ mem x l
  mem-searched (Ok i) h = let p = searched_in (Ok i) h in sym (mem_at x l i p.0 p.1)
  mem-searched (Err i) h = sym (mem-none x l (searched_in (Err i) h))

-- ---- the judgements, way out by way out

pub active-long : (l : List ℕ) → 4096 < length l → false ≡ good_active l
unfolding good_active
active-long l h = rw lt-leb

pub active_rest : (l : List ℕ) → length l ≤ 4096 → rising l ≡ good_active l
unfolding good_active
active_rest l h = rw le-leb

pub statuses-long : (is ss : List ℕ) → 65536 < length is → false ≡ good_statuses (statuses is ss)
unfolding good_statuses
statuses-long is ss h = rw lt-leb

pub statuses_unlike : (is ss : List ℕ) → length is ≤ 65536 → (length is ≡ length ss → ⊥) → false ≡ good_statuses (statuses is ss)
unfolding good_statuses
statuses_unlike is ss h n = rw (le-leb, ne_eqb)

pub statuses_both : (is ss : List ℕ) → length is ≤ 65536 → length is ≡ length ss → good_statuses (statuses is ss) ≡ (rising is && are_states ss)
unfolding good_statuses
statuses_both is ss h e = rw (le-leb, eq-eqb (length is) (length ss) e)

pub statuses_fallen : (is ss : List ℕ) → length is ≤ 65536 → length is ≡ length ss → rising is ≡ false → false ≡ good_statuses (statuses is ss)
statuses_fallen is ss h e r = rw (statuses_both, r)

pub statuses-rest : (is ss : List ℕ) → length is ≤ 65536 → length is ≡ length ss → rising is ≡ true → are_states ss ≡ good_statuses (statuses is ss)
statuses-rest is ss h e r = rw (statuses_both, r)

-- ---- what a good list gives its readers

pub good-active-rises : (l : List ℕ) → good_active l ≡ true → rising l ≡ true
unfolding good_active
good-active-rises l e = ((and-eq-true_iff (leb (length l) 4096) (rising l)).0 e).1

pub good-statuses-judged : (l : Statuses) → good_statuses l ≡ true → StatusesJudged l
unfolding good_statuses
good-statuses-judged l e =
    let p = ((and-eq-true_iff (leb (length l.ids) 65536) (eqb (length l.ids) (length l.states) && (rising l.ids && are_states l.states))).0 e).1 in
    let q = (and-eq-true_iff (eqb (length l.ids) (length l.states)) (rising l.ids && are_states l.states)).0 p in
    record { rises = ((and-eq-true_iff (rising l.ids) (are_states l.states)).0 q.1).0; same = eqb-true _ _ q.0 }
