-- Vacuum (document 01, sections 5 and 6): every leaf of the chain, from the leftmost on, "drops a version whose creator is
-- aborted, or whose deleter is below the given bound and committed in the list; of those kept, an aborted deleter's stamp is
-- cleared". The whole chain is judged before any store.
use Rattle.call_answers.specs.declared.Refused.{Refused}
use Rattle.std.specs.Prelude.{Result, Ok, Err, List, ℕ, zero, suc, ◌+◌, ltb, eqb}
use Rattle.call_answers.specs.declared.Refusal.{Refusal}
use Rattle.store.specs.Pick.{pick}
use Rattle.page.specs.Page.{page, set_page}
use Rattle.page.specs.Header.{next_leaf}
use Rattle.page.specs.Pool.{good_pool}
use Rattle.page.specs.declared.pool.State.{State}
use Rattle.row.specs.declared.Fault.{Fault}
use Rattle.mvcc.specs.Snapshot.{lookup, good_statuses, Statuses}
use Rattle.leaf.specs.Cells.{judge_leaf, on_judged}
use Rattle.leaf_vacuum.specs.Vacuum.{Swept, vacuumed_leaf}
use Rattle.tree.specs.Chain.{Seen, go, broken, along}
use Rattle.tree.specs.Descend.{descend_of, on_leaf}
use Rattle.tree.specs.declared.Route.{Route}
use Rattle.call_answers.specs.Answer.{ended, Ended, Outcome, faulty, refusal_of, stays, hide_end}
use Rattle.call_answers.specs.Names.{unless}

-- ---- the walk: each leaf judged, to the chain's end; it gathers nothing

abbrev pub look_leaf : Unit {0} → ℕ → List ℕ → Seen (Unit {0})
look_leaf n p pg = on_judged (λ e. go n) broken (judge_leaf pg p)

unfoldable pub judged_along : List ℕ → (used p : ℕ) → Result Unit Fault
judged_along s used p = along s used p look_leaf used tt

-- ---- the stores

-- from page p, m leaves at most; n versions were dropped so far
unfoldable pub vacuumed_along : List ℕ → (used p : ℕ) → (ℕ → ℕ) → (bound m n : ℕ) → Ended ℕ
vacuumed_along s used p st bound zero n = ended n s
vacuumed_along s used p st bound (suc m) n =
    pick (ltb p used)
    (on_judged (λ e. after (vacuumed_leaf (page s p) st bound) (λ d t. vacuumed_along t used (next_leaf (page s p)) st bound m d)) (λ f. ended n s) (judge_leaf (page s p) p))
    (ended n s)
  where
    after : Swept → (ℕ → List ℕ → Ended ℕ) → Ended ℕ
    after w on =
        pick (eqb (next_leaf (page s p)) 0) (ended (n + w.told.dropped) (set_page p w.page s)) (on (n + w.told.dropped) (set_page p w.page s))

-- ---- the call

abbrev pub dropped_end : Ended ℕ → Ended (Result ℕ Refused)
dropped_end e = ended (Ok e.answer) e.pool

abbrev pub on_chain_judged : {A : Type 0} → A → (Fault → A) → Result Unit Fault → A
on_chain_judged good bad (Ok _) = good
on_chain_judged good bad (Err f) = bad f

-- 1, 4, 2
unfoldable pub vacuum_run : List ℕ → State → Statuses → (bound : ℕ) → Ended (Result ℕ Refused)
vacuum_run s st ss bound =
    unless (good_pool s st) (stays s (refusal_of Refusal.BadPool))
    (unless (good_statuses ss) (stays s (refusal_of Refusal.BadStatuses))
    (on_leaf
    (λ p. on_chain_judged (dropped_end (vacuumed_along s st.used p (lookup ss) bound st.used 0)) (λ f. stays s (faulty f)) (judged_along s st.used p))
    (λ f. stays s (faulty f))
    (descend_of s st.used st.root Route.First 3)))

unfoldable pub vacuum_call : List ℕ → State → Statuses → (bound : ℕ) → Ended (Outcome ℕ)
vacuum_call s st ss bound = hide_end (vacuum_run s st ss bound)
