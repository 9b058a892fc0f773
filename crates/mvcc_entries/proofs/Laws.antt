-- A run of entries as its two lists of numbers, and what a search by halves says of a transaction.
-- Assumes nothing.
use Rattle.std.proofs.Common.{nat_cmp, Result, Ok, Err}
use Rattle.std.proofs.lemmas.Bool.Decides.{nat_tests}
use Rattle.std.specs.List.Sorted.{IsBinarySearchResult}
use mathlib.Core.Path.{◌≡◌, sym, ◌∙◌}
use mathlib.Core.Bool.{Bool, true}
use mathlib.Core.List.{List, [], ◌∷◌}
use Prim.Native.Nat.{ℕ, ◌+◌, ◌≤◌, ◌<◌}
use native.Mathlib.Nat.{zero-add}
use native.Mathlib.Omega.{arith}
use lib.ListN.{length, get_or, set, drop, length-map, get_or-map, drop_of_length-le}
use borrow.Author.Tests.{eq-eqb}
use Rattle.store.specs.Part.{put}
use Rattle.mvcc.specs.Lists.{rising, state_at}
use Rattle.mvcc.specs.Snapshot.{lookup, statuses}
use Rattle.mvcc_entries.specs.declared.Entry.{Entry}
use Rattle.mvcc_entries.specs.Entries.{txs, sts, unpack_room}
use Rattle.store.proofs.PutLaws.{put-done, step_in}
use Rattle.mvcc.proofs.Laws.{searched_in, lookup_at, lookup-none}

-- what is read past the end
abbrev pub none : Entry
none = record { tx = 0; state = 0 }

pub length-txs : (es : List Entry) → length (txs es) ≡ length es
unfolding txs
length-txs es = length-map es (λ (e : Entry). e.tx)

pub txs_at : (es : List Entry) (i : ℕ) → get_or (txs es) i 0 ≡ (get_or es i none).tx
unfolding txs
txs_at es i = get_or-map (λ (e : Entry). e.tx) es i none

pub length-sts : (es : List Entry) → length (sts es) ≡ length es
unfolding sts
length-sts es = length-map es (λ (e : Entry). e.state)

pub sts_at : (es : List Entry) (i : ℕ) → get_or (sts es) i 0 ≡ (get_or es i none).state
unfolding sts
sts_at es i = get_or-map (λ (e : Entry). e.state) es i none

-- ---- what a search by halves finds, in a list that rises

module _ (es : List Entry) (t : ℕ) where
  tx_at : (k : ℕ) (d : Entry) → get_or (txs es) k d.tx ≡ (get_or es k d).tx
  unfolding txs
  tx_at k d = get_or-map (λ (e : Entry). e.tx) es k d

  abbrev past : ℕ → Entry
  past d = record { tx = d; state = 0 }

  -- a search by the transactions is a search in the transactions
  searched_by_tx : (r : Result ℕ ℕ) → IsBinarySearchResult (λ (e : Entry). nat_cmp e.tx t) es r → IsBinarySearchResult (λ x. nat_cmp x t) (txs es) r
  searched_by_tx (Ok i) h = λ d. rw (tx_at i (past d)) (h (past d))
  searched_by_tx (Err i) h =
      λ rises.
      let p = h (λ i j d u v. rw (tx_at i d, tx_at j d) at (rises i j d.tx u (omega (arith, length-txs es, v)))) in
      (λ k d u v. rw (tx_at k (past d)) (p.0 k (past d) u v), λ k d u v. rw (tx_at k (past d)) (p.1 k (past d) u (omega (arith, length-txs es, v))))

  module _ (rises : rising (txs es) ≡ true) (i : ℕ) where
    pub state_found : IsBinarySearchResult (λ (e : Entry). nat_cmp e.tx t) es (Ok i) → (get_or es i none).state ≡ lookup (statuses (txs es) (sts es)) t
    state_found h =
        let p = searched_in t (txs es) rises (Ok i) (searched_by_tx (Ok i) h) in
        sym (sts_at es i) ∙ sym (lookup_at t (txs es) (sts es) i rises p.0 (omega (arith, length-txs es, length-sts es, p.0)) p.1)

    -- there the entry alone says it
    pub settled_found : IsBinarySearchResult (λ (e : Entry). nat_cmp e.tx t) es (Ok i)
        → lookup (statuses ((get_or es i none).tx ∷ []) ((get_or es i none).state ∷ [])) t ≡ lookup (statuses (txs es) (sts es)) t
    unfolding state_at
    settled_found h =
        let p = searched_in t (txs es) rises (Ok i) (searched_by_tx (Ok i) h) in
        rw (eq-eqb _ _ (sym (txs_at es i) ∙ p.1)) (state_found h)

    pub state_missing : IsBinarySearchResult (λ (e : Entry). nat_cmp e.tx t) es (Err i) → 0 ≡ lookup (statuses (txs es) (sts es)) t
    state_missing h = sym (lookup-none t (txs es) (sts es) (searched_in t (txs es) rises (Err i) (searched_by_tx (Err i) h)))

-- ---- a store into a number slice, one entry a turn: what is left to store after a turn gives what was left before it

put_turn : (i : ℕ) (x s : List ℕ) → i < length x → i < length s → put (i + 1) (drop (i + 1) x) (set s i (get_or x i 0)) ≡ put i (drop i x) s
put_turn i x s h k = simp zero-add at (step_in 0 i x s h (omega arith))

module _ (es : List Entry) (i : ℕ) (s : List ℕ) where
  pub put_txs : i < length es → i < length s → put (i + 1) (drop (i + 1) (txs es)) (set s i (get_or es i none).tx) ≡ put i (drop i (txs es)) s
  put_txs h k = rw (← txs_at es i) (put_turn i (txs es) s (omega (arith, length-txs es)) k)

  pub put_sts : i < length es → i < length s → put (i + 1) (drop (i + 1) (sts es)) (set s i (get_or es i none).state) ≡ put i (drop i (sts es)) s
  put_sts h k = rw (← sts_at es i) (put_turn i (sts es) s (omega (arith, length-sts es)) k)

-- nothing is left
pub txs-put : (es : List Entry) (i : ℕ) {s r : List ℕ} → length es ≤ i → put i (drop i (txs es)) s ≡ r → s ≡ r
txs-put es i h = put-done i (drop_of_length-le (txs es) (omega (arith, length-txs es)))

pub sts-put : (es : List Entry) (i : ℕ) {s r : List ℕ} → length es ≤ i → put i (drop i (sts es)) s ≡ r → s ≡ r
sts-put es i h = put-done i (drop_of_length-le (sts es) (omega (arith, length-sts es)))

-- ---- Ok says that both slices have room

pub room_fits : (good : Bool) (k n m : ℕ) → unpack_room good k n m ≡ Ok tt → (k ≤ n) × (k ≤ m)
unfolding unpack_room
room_fits good k n m e = (grind (arith, nat_tests), grind (arith, nat_tests))
