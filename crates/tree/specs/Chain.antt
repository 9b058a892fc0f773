-- The walk along the chain of leaves (document 01, sections 3 and 5): "follows the chain, past empty leaves, until a leaf
-- holds a larger key or the chain ends". Each leaf is in use and judged whole. More leaves than pages in use means that a
-- page is met twice.
use Rattle.std.specs.Prelude.{None, Result, Ok, Err, Bool, true, false, List, ℕ, zero, suc, ltb, eqb}
use Rattle.store.specs.Pick.{pick}
use Rattle.page.specs.Page.{page}
use Rattle.page.specs.Header.{next_leaf}
use Rattle.row.specs.declared.Fault.{Fault}
use Rattle.row.specs.Fault.{structural}
use Rattle.leaf.specs.Find.{Best, find_leaf, test_leaf}
use Rattle.mvcc.specs.Snapshot.{Snapshot}

-- what one leaf says: the walk ends here, or it goes on; or the leaf's fault
pub data Seen (A : Type 0) : Type 0 where
  stop : A → Seen A
  go : A → Seen A
  broken : Fault → Seen A

abbrev pub on_seen : {A B : Type 0} → (A → B) → (A → B) → (Fault → B) → Seen A → B
on_seen last more bad (stop a) = last a
on_seen last more bad (go a) = more a
on_seen last more bad (broken f) = bad f

-- from page p, m pages left to meet; a says what was gathered so far. The walk answers what was gathered, or the first fault.
unfoldable pub along : {A : Type 0} → List ℕ → (used : ℕ) → ℕ → (A → ℕ → List ℕ → Seen A) → (m : ℕ) → A → Result A Fault
along s used p look zero a = Err (structural p)
along s used p look (suc m) a =
    pick (ltb p used)
    (on_seen (λ b. Ok b) (λ b. pick (eqb (next_leaf (page s p)) 0) (Ok b) (along s used (next_leaf (page s p)) look m b)) (λ f. Err f) (look a p (page s p)))
    (Err (structural p))

-- ---- lookup: the newest visible version of the key

abbrev pub seen_best : Result (Best × Bool) Fault → Seen Best
seen_best (Ok (b, true)) = stop b
seen_best (Ok (b, false)) = go b
seen_best (Err f) = broken f

abbrev pub look_best : (key : ℕ) → Snapshot → (ℕ → ℕ) → Best → ℕ → List ℕ → Seen Best
look_best key sn st best p pg = seen_best (find_leaf pg p key sn st best)

unfoldable pub best_along : List ℕ → (used p key : ℕ) → Snapshot → (ℕ → ℕ) → Result Best Fault
best_along s used p key sn st = along s used p (look_best key sn st) used None

-- ---- conflict: whether some version of the key meets the test

abbrev pub seen_test : Result (Bool × Bool) Fault → Seen Bool
seen_test (Ok (b, true)) = stop b
seen_test (Ok (b, false)) = go b
seen_test (Err f) = broken f

abbrev pub look_test : (key : ℕ) → Snapshot → (ℕ → ℕ) → Bool → (seen : ℕ) → Bool → ℕ → List ℕ → Seen Bool
look_test key sn st claiming seen found p pg = seen_test (test_leaf pg p key sn st claiming seen found)

unfoldable pub test_along : List ℕ → (used p key : ℕ) → Snapshot → (ℕ → ℕ) → Bool → (seen : ℕ) → Result Bool Fault
test_along s used p key sn st claiming seen = along s used p (look_test key sn st claiming seen) used false
