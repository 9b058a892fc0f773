-- A status list as one slice of entries (document 01, section 4: "a lent run of entries (transaction, state)"), said by
-- mvcc's definitions on its two lists of numbers; and what the two calls on such a list answer (section 6).
use Rattle.std.specs.Prelude.{◌≡◌, Bool, List, map, ℕ, length, ltb, eqb, Result, Ok, Err}
use Rattle.store.specs.Pick.{pick}
use Rattle.store.specs.Part.{put}
use Rattle.mvcc.specs.Snapshot.{lookup, good_statuses, statuses}
use Rattle.mvcc_entries.specs.declared.Entry.{Entry}
use Rattle.call_answers.specs.Names.{BadStatuses, unless}
use Rattle.call_answers.specs.Answer.{outcome_of}
use Rattle.call_answers.specs.declared.Refusal.{Refusal}

-- the transactions of a run of entries, and their states
unfoldable pub txs : List Entry → List ℕ
txs es = map (λ (e : Entry). e.tx) es

unfoldable pub sts : List Entry → List ℕ
sts es = map (λ (e : Entry). e.state) es

-- section 6: 4 is BadStatuses. A state is 0 (absent) to 3, so the two do not meet.
unfoldable pub status_call : List Entry → ℕ → ℕ
status_call es tx = pick (good_statuses (statuses (txs es) (sts es))) (lookup (statuses (txs es) (sts es)) tx) BadStatuses

-- section 6: 4 is BadStatuses, 12 is Short, in that order, and 0 is Done; of a list of k entries, good or not, and room
-- for n and m numbers
unfoldable pub unpack_room : (good : Bool) → (k n m : ℕ) → Result Unit Refusal
unpack_room good k n m = unless good (Err Refusal.BadStatuses) (pick (ltb n k) (Err Refusal.Short) (pick (ltb m k) (Err Refusal.Short) (Ok tt)))

abbrev pub room_code : (good : Bool) → (k n m : ℕ) → ℕ
room_code good k n m = (outcome_of (unpack_room good k n m)).number

unfoldable pub unpack_code : List Entry → (n m : ℕ) → ℕ
unpack_code es n m = room_code (good_statuses (statuses (txs es) (sts es))) (length es) n m

-- section 6: "A refusal carries its number only; buffers and state stay"; else x stands from the start of s on
unfoldable pub unpacked_to : (code : ℕ) → (x s : List ℕ) → List ℕ
unpacked_to code x s = pick (eqb code 0) (put 0 x s) s

-- what unpack answers, and what the two slices hold afterwards
pub record Unpacked (es : List Entry) (ids states : List ℕ) (r : ℕ) (ids' states' : List ℕ) : Type 0 where
  pub code : r ≡ unpack_code es (length ids) (length states)
  pub ids_after : ids' ≡ unpacked_to (unpack_code es (length ids) (length states)) (txs es) ids
  pub states_after : states' ≡ unpacked_to (unpack_code es (length ids) (length states)) (sts es) states
