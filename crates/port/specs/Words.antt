-- How an answer leaves the port (document 01, section 6): its number comes back, and what Done gives stands in words at the
-- start of a lent array of eight. A refusal leaves the array as it was.
use Rattle.std.specs.Prelude.{Option, Some, None, Bool, List, [], ◌∷◌, ◌++◌, ℕ}
use Rattle.store.specs.Part.{put}
use Rattle.store.specs.Pick.{pick}
use Rattle.page.specs.declared.pool.State.{State}
use Rattle.row.specs.declared.Pointer.{Pointer}
use Rattle.row.specs.declared.Version.{Version}
use Rattle.call_answers.specs.Answer.{Written, Ended, Outcome, nothing, value, Value}

-- a state goes in as two numbers, a current transaction as a flag and a number
abbrev pub state_of : (root used : ℕ) → State
state_of root used = record { root = root; used = used }

abbrev pub current_of : Bool → ℕ → Option ℕ
current_of has tx = pick has (Some tx) None

-- and so do a stamp and a pointer
abbrev pub stamp_of : Bool → ℕ → Option ℕ
stamp_of has tx = pick has (Some tx) None

abbrev pub pointer_of : Bool → (page slot : ℕ) → Option Pointer
pointer_of has p t = pick has (Some (record { page = p; slot = t })) None

-- a stamp and a pointer begin with 1, or are all 0
abbrev pub stamp_words : Option ℕ → List ℕ
stamp_words None = 0 ∷ 0 ∷ []
stamp_words (Some t) = 1 ∷ t ∷ []

abbrev pub pointer_words : Option Pointer → List ℕ
pointer_words None = 0 ∷ 0 ∷ 0 ∷ []
pointer_words (Some p) = 1 ∷ p.page ∷ p.slot ∷ []

-- creator, stamp, pointer, where the data starts in the pool and its length
abbrev pub version_words : Version → List ℕ
version_words v = (v.creator ∷ []) ++ (stamp_words v.stamp ++ (pointer_words v.pointer ++ (v.start ∷ v.len ∷ [])))

abbrev pub state_words : State → List ℕ
state_words st = st.root ∷ st.used ∷ []

-- no is 0, yes is 1
abbrev pub flag_words : Bool → List ℕ
flag_words b = pick b 1 0 ∷ []

abbrev pub count_words : ℕ → List ℕ
count_words n = n ∷ []

-- what comes back
pub record Called : Type 0 where
  pub number : ℕ
  pub words : List ℕ

abbrev pub called : ℕ → List ℕ → Called
called n ws = record { number = n; words = ws }

abbrev pub words_of : {A : Type 0} → (A → List ℕ) → List ℕ → Value A → List ℕ
words_of w old (value a) = put 0 (w a) old
words_of w old nothing = old

abbrev pub given : {A : Type 0} → (A → List ℕ) → Outcome A → (old : List ℕ) → Called
given w o old = called o.number (words_of w old o.gives)

-- what comes back of a listing: also the output, whose bytes the first word counts
pub record CalledList : Type 0 where
  pub number : ℕ
  pub words : List ℕ
  pub output : List ℕ

abbrev pub called_list : ℕ → List ℕ → List ℕ → CalledList
called_list n ws out = record { number = n; words = ws; output = out }

abbrev pub given_list : Written (Outcome ℕ) → (old : List ℕ) → CalledList
given_list w old = called_list w.answer.number (words_of count_words old w.answer.gives) w.output

-- what comes back of a writing call: also the pool after it
pub record CalledPool : Type 0 where
  pub number : ℕ
  pub words : List ℕ
  pub pool : List ℕ

abbrev pub called_pool : ℕ → List ℕ → List ℕ → CalledPool
called_pool n ws s = record { number = n; words = ws; pool = s }

abbrev pub given_pool : {A : Type 0} → (A → List ℕ) → Ended (Outcome A) → (old : List ℕ) → CalledPool
given_pool w e old = called_pool e.answer.number (words_of w old e.answer.gives) e.pool
