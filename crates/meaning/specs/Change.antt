-- The calls of demand 3 as values: "two calls from insert, insert version, stamp, claim and remove". What one comes to, "the
-- tree state's numbers aside", is its number and the versions dropped.
use Rattle.std.specs.Prelude.{Option, false, ◌≡◌, List, [], ◌∷◌, ℕ, ◌<◌}
use Rattle.store.specs.Le.{AreBytes}
use Rattle.page.specs.declared.pool.State.{State}
use Rattle.row.specs.Exact.{StampFits, PointerFits}
use Rattle.row.specs.declared.Pointer.{Pointer}
use Rattle.mvcc.specs.Lists.{mem}
use Rattle.page.specs.Pool.{Grown, grown}
use Rattle.mvcc.specs.Snapshot.{creator_of, Snapshot, Statuses}
use Rattle.call_answers.specs.Answer.{Ended, Outcome, nothing, value, Value}
use Rattle.call_insert.specs.Insert.{insert_call, insert_version_call}
use Rattle.call_stamp.specs.Mark.{mark_call}
use Rattle.call_stamp.specs.Claim.{claim_call}
use Rattle.call_clean.specs.Remove.{remove_call}
use Rattle.call_answers.specs.Names.{NoPages, TooDeep, Undividable}

pub data Change : Type 0 where
  inserts : (key : ℕ) → Option ℕ → Statuses → (body : List ℕ) → Change
  inserts_version : (key creator : ℕ) → Option ℕ → Option Pointer → (body : List ℕ) → Change
  stamps : (key : ℕ) → Snapshot → Statuses → (d : ℕ) → Change
  claims : (key : ℕ) → Snapshot → Statuses → Change
  removes : (key : ℕ) → Change

abbrev pub key_of : Change → ℕ
key_of (inserts key cur ss body) = key
key_of (inserts_version key creator stamp pointer body) = key
key_of (stamps key sn ss d) = key
key_of (claims key sn ss) = key
key_of (removes key) = key

-- its numbers fit the types of the call, and data is bytes
abbrev pub Word : ℕ → Type 0
Word n = n < 18446744073709551616

abbrev pub Fits : Change → Type 0
Fits (inserts key cur ss body) = (key < 4294967296) × Word (creator_of cur) × AreBytes body
Fits (inserts_version key creator stamp pointer body) = (key < 4294967296) × Word creator × StampFits stamp × PointerFits pointer × AreBytes body
Fits (stamps key sn ss d) = (key < 4294967296) × Word d
Fits (claims key sn ss) = (key < 4294967296) × Word (creator_of sn.current)
Fits (removes key) = key < 4294967296

-- what it comes to, and the pool and state after it
pub record Ran : Type 0 where
  pub number : ℕ
  pub dropped : ℕ
  pub after : Grown

abbrev pub state_after : State → Value State → State
state_after st (value x) = x
state_after st nothing = st

abbrev pub count_in : Value ℕ → ℕ
count_in (value n) = n
count_in nothing = 0

abbrev pub ran_to : State → Ended (Outcome State) → Ran
ran_to st e = record { number = e.answer.number; dropped = 0; after = grown e.pool (state_after st e.answer.gives) }

abbrev pub ran_out : State → Ended (Outcome ℕ) → Ran
ran_out st e = record { number = e.answer.number; dropped = count_in e.answer.gives; after = grown e.pool st }

unfoldable pub run : Change → Grown → Ran
run (inserts key cur ss body) g = ran_to g.state (insert_call g.pool g.state key cur ss body)
run (inserts_version key creator stamp pointer body) g = ran_to g.state (insert_version_call g.pool g.state key creator stamp pointer body)
run (stamps key sn ss d) g = ran_to g.state (mark_call g.pool g.state key sn ss d)
run (claims key sn ss) g = ran_to g.state (claim_call g.pool g.state key sn ss)
run (removes key) g = ran_out g.state (remove_call g.pool g.state key)

-- "Room refusals are 9, 10, 11"
abbrev pub Roomy : Ran → Type 0
Roomy r = mem r.number (Undividable ∷ NoPages ∷ TooDeep ∷ []) ≡ false
