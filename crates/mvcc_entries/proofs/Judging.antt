-- The pure part of judging entries in one pass. Invariant: the flag, that what is left rises after the entry before it,
-- and that what is left is states, say together what the whole list says. Assumes nothing.
use mathlib.Core.Path.{◌≡◌, refl, ap}
use mathlib.Core.Bool.{Bool, true, false, ◌&&◌, and-true, and-false}
use mathlib.Core.List.{List, [], ◌∷◌}
use Prim.Native.Nat.{ℕ, suc, ◌+◌, ◌≤◌, ◌<◌}
use native.Mathlib.Numerals.{add-one}
use native.Mathlib.Omega.{arith}
use borrow.Author.Tests.{le-leb, eq-eqb}
use lib.ListN.{length, length-map, get_or, drop, drop_of_length-le}
use lib.Seq.{drop-cons}
use lib.Dec.{ltb, leb}
use Rattle.mvcc.specs.Lists.{rising, rising_from, are_states}
use Rattle.mvcc.specs.Snapshot.{good_statuses, statuses}
use Rattle.mvcc_entries.specs.declared.Entry.{Entry}
use Rattle.mvcc_entries.specs.Entries.{txs, sts}
use Rattle.std.proofs.lemmas.Bool.Decides.{nat_tests}
use Rattle.mvcc_entries.proofs.Laws.{none, length-txs, txs_at, length-sts, sts_at}

-- what the flag and the entries from i on say of a list, where the entry before them is of the transaction last
abbrev pub judged : (rest : List Entry) (ok : Bool) (last i : ℕ) → Bool
judged rest ok last i = ok && (rising_from last (drop i (txs rest)) && are_states (drop i (sts rest)))

front_flag : (a s b : Bool) → (a && (s && b)) ≡ (s && (a && b))
front_flag a true b = refl
front_flag a false b = and-false a

-- an empty list is good
pub judged-none : (es : List Entry) → length es ≡ 0 → true ≡ good_statuses (statuses (txs es) (sts es))
unfolding good_statuses txs sts rising are_states
judged-none [] e = refl
judged-none (x ∷ xs) e = absurd (let z : suc (length xs) ≡ 0 = e in omega arith)

module _ (es : List Entry) where
  pub judged-long : 65536 < length es → false ≡ good_statuses (statuses (txs es) (sts es))
  unfolding good_statuses
  judged-long h = grind (arith, nat_tests, length-txs es)

  -- the first entry is e, whose state is one if s says so
  pub judged-start : (e : Entry) (rest : List Entry) (s : Bool) → es ≡ e ∷ rest → length es ≤ 65536 → s ≡ (leb 1 e.state && leb e.state 3)
      → good_statuses (statuses (txs es) (sts es)) ≡ judged rest s e.tx 0
  unfolding good_statuses txs sts rising are_states
  judged-start e rest s is h hs =
      let few : suc (length rest) ≤ 65536 = omega (arith, ap length is) in
      rw (is, length-map rest (λ (x : Entry). x.tx), length-map rest (λ (x : Entry). x.state), le-leb _ _ few, eq-eqb (suc (length rest)) (suc (length rest)) refl, ← hs)
      (front_flag _ s _)

-- a test of the head and the rest after it, twice, beside a flag
regroup : (ok a b r s : Bool) → (ok && ((a && r) && (b && s))) ≡ ((ok && (a && b)) && (r && s))
regroup true true true r s = refl
regroup true true false r s = and-false r
regroup true false b r s = refl
regroup false a b r s = refl

module _ (rest : List Entry) (ok : Bool) (last i : ℕ) where
  abbrev e : Entry
  e = get_or rest i none

  pub judged-turn : (s : Bool) → s ≡ (leb 1 e.state && leb e.state 3) → i < length rest → judged rest ok last i ≡ judged rest (ok && (ltb last e.tx && s)) e.tx (i + 1)
  unfolding rising_from are_states
  judged-turn s hs h =
      let ht : i < length (txs rest) = omega (arith, length-txs rest) in
      let hs' : i < length (sts rest) = omega (arith, length-sts rest) in
      rw (drop-cons (txs rest) i 0, drop-cons (sts rest) i 0, txs_at, sts_at, ← hs, add-one i)
      (regroup ok (ltb last e.tx) s (rising_from e.tx (drop (suc i) (txs rest))) (are_states (drop (suc i) (sts rest))))

  pub judged-end : length rest ≤ i → judged rest ok last i ≡ ok
  unfolding rising_from are_states
  judged-end h =
      let et : drop i (txs rest) ≡ [] = drop_of_length-le (txs rest) {i = i} (omega (arith, length-txs rest)) in
      let es' : drop i (sts rest) ≡ [] = drop_of_length-le (sts rest) {i = i} (omega (arith, length-sts rest)) in
      rw (et, es') (and-true ok)
