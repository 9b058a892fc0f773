-- What comes back from a call (document 01, section 6): a number, and what Done gives. Each answer of the code has its
-- number and value here, and the contracts speak of these.
use Rattle.std.specs.Prelude.{◌≡◌, List, ℕ, Some, None, Result, Ok, Err}
use Rattle.page.specs.Pool.{Grown}
use Rattle.page.specs.declared.pool.State.{State}
use Rattle.row.specs.declared.Fault.{Fault}
use Rattle.call_answers.specs.Names.{BadPool, BadTree, BadSnapshot, BadStatuses, BadData, Duplicate, Conflict, Absent, Undividable, NoPages, TooDeep, Short}
use Rattle.call_answers.specs.declared.Refusal.{Refusal}
use Rattle.call_answers.specs.declared.Refused.{Refused}

-- what Done gives, or nothing: "a refusal carries its number only"
pub data Value (A : Type 0) : Type 0 where
  value : A → Value A
  nothing : Value A

pub record Outcome (A : Type 0) : Type 0 where
  pub number : ℕ
  pub gives : Value A

abbrev pub done : {A : Type 0} → A → Outcome A
done a = record { number = 0; gives = value a }

abbrev pub refused : {A : Type 0} → ℕ → Outcome A
refused n = record { number = n; gives = nothing }

-- of a call that may change the pool: its answer, and the pool after it
pub record Ended (A : Type 0) : Type 0 where
  pub answer : A
  pub pool : List ℕ

abbrev pub ended : {A : Type 0} → A → List ℕ → Ended A
ended a s = record { answer = a; pool = s }

-- of a listing: its answer, and the output after it
pub record Written (A : Type 0) : Type 0 where
  pub answer : A
  pub output : List ℕ

abbrev pub written : {A : Type 0} → A → List ℕ → Written A
written a out = record { answer = a; output = out }

-- ---- the answers of the code

-- the number of a refusal
abbrev pub number_of : Refusal → ℕ
number_of Refusal.BadPool = BadPool
number_of Refusal.BadTree = BadTree
number_of Refusal.BadSnapshot = BadSnapshot
number_of Refusal.BadStatuses = BadStatuses
number_of Refusal.BadData = BadData
number_of Refusal.Duplicate = Duplicate
number_of Refusal.Conflict = Conflict
number_of Refusal.Absent = Absent
number_of Refusal.Undividable = Undividable
number_of Refusal.NoPages = NoPages
number_of Refusal.TooDeep = TooDeep
number_of Refusal.Short = Short

-- 0 is Done, with the version (lookup), yes or no (check, conflict), the new state, bytes written (listings) or versions
-- dropped (remove, vacuum); the others by their number
abbrev pub outcome_of : {A : Type 0} → Result A Refusal → Outcome A
outcome_of (Ok a) = done a
outcome_of (Err r) = refused (number_of r)

-- "no two outcomes satisfy it" (section 9): the number and the value that an answer gives determine the answer
abbrev pub OneAnswer : {A B : Type 0} → (A → Outcome B) → Type 0
OneAnswer {A} of = (x y : A) → of x ≡ of y → x ≡ y

-- ---- with the fault behind a BadTree, and without it

-- a refusal without a fault, and a BadTree with its fault
abbrev pub refusal_of : Refusal → Refused
refusal_of r = record { refusal = r; fault = None }

abbrev pub faulty : Fault → Refused
faulty f = record { refusal = Refusal.BadTree; fault = Some f }

-- a writing call is Done, with the pool and state that it comes to; or refused, and the pool stays
abbrev pub changed_to : Grown → Ended (Result State Refused)
changed_to g = ended (Ok g.state) g.pool

abbrev pub stays : {A : Type 0} → List ℕ → Refused → Ended (Result A Refused)
stays s r = ended (Err r) s

abbrev pub hide : {A : Type 0} → Result A Refused → Outcome A
hide (Ok a) = done a
hide (Err r) = refused (number_of r.refusal)

abbrev pub hide_end : {A : Type 0} → Ended (Result A Refused) → Ended (Outcome A)
hide_end e = ended (hide e.answer) e.pool

abbrev pub hide_list : {A : Type 0} → Written (Result A Refused) → Written (Outcome A)
hide_list w = written (hide w.answer) w.output
