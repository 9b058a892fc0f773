-- Remove (document 01, sections 5 and 6): "drops every version of its key that search meets; of a key without versions it is
-- Done, 0". The whole walk is judged before any store; then each of its leaves that holds the key is rewritten.
use Rattle.call_answers.specs.declared.Refused.{Refused}
use Rattle.std.specs.Prelude.{Result, Ok, Err, not, List, ℕ, zero, suc, ◌+◌, ltb, eqb, length}
use Rattle.call_answers.specs.declared.Refusal.{Refusal}
use Rattle.store.specs.Pick.{pick}
use Rattle.page.specs.Page.{page, set_page}
use Rattle.page.specs.Header.{next_leaf}
use Rattle.page.specs.Pool.{good_pool}
use Rattle.page.specs.declared.pool.State.{State}
use Rattle.row.specs.declared.Fault.{Fault}
use Rattle.leaf.specs.Cells.{cells, judge_leaf, on_judged, has_larger}
use Rattle.leaf.specs.Rows.{Row, rows, only, of_key, write_rows}
use Rattle.tree.specs.Chain.{Seen, stop, go, broken, along}
use Rattle.tree.specs.Descend.{descend_of, on_leaf}
use Rattle.tree.specs.declared.Route.{Route}
use Rattle.call_answers.specs.Answer.{ended, Ended, Outcome, faulty, refusal_of, stays, hide_end}
use Rattle.call_answers.specs.Names.{unless}

-- ---- one leaf

-- the versions of the key that it holds
abbrev pub held_rows : List ℕ → (key : ℕ) → List Row
held_rows pg key = only (of_key key) (rows pg)

-- the leaf without them; one that holds none is not written
unfoldable pub removed_leaf : List ℕ → (key : ℕ) → List ℕ
removed_leaf pg key = pick (eqb (length (held_rows pg key)) 0) pg (write_rows (only (λ r. not (of_key key r)) (rows pg)) pg)

-- ---- the walk: how many versions of the key it meets

abbrev pub look_held : (key : ℕ) → ℕ → ℕ → List ℕ → Seen ℕ
look_held key n p pg =
    on_judged (λ e. pick (has_larger key (cells pg)) (stop (n + length (held_rows pg key))) (go (n + length (held_rows pg key)))) (λ f. broken f) (judge_leaf pg p)

unfoldable pub count_along : List ℕ → (used p key : ℕ) → Result ℕ Fault
count_along s used p key = along s used p (look_held key) used 0

-- ---- the stores

-- from page p, m leaves at most
unfoldable pub removed_along : List ℕ → (used p key m : ℕ) → List ℕ
removed_along s used p key zero = s
removed_along s used p key (suc m) =
    pick (ltb p used)
    (on_judged
    (λ e. pick (has_larger key (cells (page s p))) clean (pick (eqb (next_leaf (page s p)) 0) clean (removed_along clean used (next_leaf (page s p)) key m)))
    (λ f. s)
    (judge_leaf (page s p) p))
    s
  where
    clean : List ℕ
    clean = set_page p (removed_leaf (page s p) key) s

-- ---- the call

abbrev pub on_count : {A : Type 0} → (ℕ → A) → (Fault → A) → Result ℕ Fault → A
on_count good bad (Ok n) = good n
on_count good bad (Err f) = bad f

-- 1, 2
unfoldable pub remove_run : List ℕ → State → (key : ℕ) → Ended (Result ℕ Refused)
remove_run s st key =
    unless (good_pool s st) (stays s (refusal_of Refusal.BadPool))
    (on_leaf (λ p. on_count (λ n. ended (Ok n) (removed_along s st.used p key st.used)) (λ f. stays s (faulty f)) (count_along s st.used p key)) (λ f. stays s (faulty f))
    (descend_of s st.used st.root (Route.Search key) 3))

unfoldable pub remove_call : List ℕ → State → (key : ℕ) → Ended (Outcome ℕ)
remove_call s st key = hide_end (remove_run s st key)
