-- What a call is given to see by (document 01, section 4): a snapshot ("xmax, a strictly rising active list, and possibly a
-- current transaction") and a status list, each as one value, and which of them are refused (section 6).
use Rattle.std.specs.Prelude.{Option, Some, None, Bool, ◌&&◌, List, [], ℕ, length, leb, eqb}
use Rattle.store.specs.Pick.{pick}
use Rattle.mvcc.specs.Lists.{rising, are_states, state_at, good_active}

pub record Snapshot : Type 0 where
  pub xmax : ℕ
  pub active : List ℕ
  pub current : Option ℕ

abbrev pub snapshot : (xmax : ℕ) → (active : List ℕ) → Option ℕ → Snapshot
snapshot xmax active cur = record { xmax = xmax; active = active; current = cur }

-- "active list over 4096 or not strictly rising" is BadSnapshot; this is the rest
abbrev pub good_snapshot : Snapshot → Bool
good_snapshot sn = good_active sn.active

-- a snapshot that is not refused
abbrev pub judged_snapshot : Snapshot → Option Snapshot
judged_snapshot sn = pick (good_snapshot sn) (Some sn) None

-- "xmax 2^64 - 1, an empty list": the snapshot of insert's duplicate test, plain lookup, plain stamp and plain delete
abbrev pub plain_xmax : ℕ
plain_xmax = 18446744073709551615

abbrev pub plain_snapshot : Option ℕ → Snapshot
plain_snapshot cur = snapshot plain_xmax [] cur

-- the transaction that a call is made by, "or 0 if there is none"
abbrev pub creator_of : Option ℕ → ℕ
creator_of (Some t) = t
creator_of None = 0

-- "a lent run of entries (transaction, state)": the transactions, and their states beside them
pub record Statuses : Type 0 where
  pub ids : List ℕ
  pub states : List ℕ

abbrev pub statuses : (ids states : List ℕ) → Statuses
statuses ids states = record { ids = ids; states = states }

abbrev pub no_statuses : Statuses
no_statuses = statuses [] []

-- the function that the list gives: 0 where a transaction is absent, 1 active, 2 committed, 3 aborted
abbrev pub lookup : Statuses → ℕ → ℕ
lookup ss = state_at ss.ids ss.states

abbrev pub max_statuses : ℕ
max_statuses = 65536

-- "over 65,536 entries, not strictly rising, state not 1 to 3" is BadStatuses, and so are lists of unequal lengths; this is
-- the rest
unfoldable pub good_statuses : Statuses → Bool
good_statuses ss =
    leb (length ss.ids) max_statuses && (eqb (length ss.ids) (length ss.states) && (rising ss.ids && are_states ss.states))

-- a status list that is not refused
abbrev pub judged_statuses : Statuses → Option Statuses
judged_statuses ss = pick (good_statuses ss) (Some ss) None
