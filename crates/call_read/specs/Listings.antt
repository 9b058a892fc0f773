-- The listings of versions (document 01, sections 2, 4 and 6): those of a key, and all, in chain order. `list_run` also says
-- the fault behind a BadTree; the calls hide it. Each gives the answer and the output after it.
use Rattle.std.specs.Prelude.{Result, Err, List, ℕ}
use Rattle.page.specs.Pool.{good_pool}
use Rattle.page.specs.declared.pool.State.{State}
use Rattle.list_versions.specs.Listed.{list_tree}
use Rattle.list_versions.specs.declared.Which.{Which}
use Rattle.call_answers.specs.declared.Refused.{Refused}
use Rattle.call_answers.specs.declared.Refusal.{Refusal}
use Rattle.call_answers.specs.Answer.{hide_list, written, Written, Outcome, refusal_of}
use Rattle.call_answers.specs.Names.{unless}

-- 1, 2, 12
unfoldable pub list_run : List ℕ → State → Which → List ℕ → Written (Result ℕ Refused)
list_run s st w out = unless (good_pool s st) (written (Err (refusal_of Refusal.BadPool)) out) (list_tree s st.used st.root w out)

unfoldable pub versions_of_call : List ℕ → State → (key : ℕ) → List ℕ → Written (Outcome ℕ)
versions_of_call s st key out = hide_list (list_run s st (Which.Key key) out)

unfoldable pub all_versions_call : List ℕ → State → List ℕ → Written (Outcome ℕ)
all_versions_call s st out = hide_list (list_run s st Which.All out)
