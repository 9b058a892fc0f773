-- The listing of page numbers (document 01, sections 2 and 6). `numbers_run` also says the fault behind a BadTree.
use Rattle.std.specs.Prelude.{Result, Err, List, ℕ}
use Rattle.page.specs.Pool.{good_pool}
use Rattle.page.specs.declared.pool.State.{State}
use Rattle.list_pages.specs.Numbers.{numbers_tree}
use Rattle.call_answers.specs.declared.Refused.{Refused}
use Rattle.call_answers.specs.declared.Refusal.{Refusal}
use Rattle.call_answers.specs.Answer.{written, Written, Outcome, refusal_of, hide_list}
use Rattle.call_answers.specs.Names.{unless}

-- 1, 2, 12
unfoldable pub numbers_run : List ℕ → State → List ℕ → Written (Result ℕ Refused)
numbers_run s st out = unless (good_pool s st) (written (Err (refusal_of Refusal.BadPool)) out) (numbers_tree s st.used st.root out)

unfoldable pub page_numbers_call : List ℕ → State → List ℕ → Written (Outcome ℕ)
page_numbers_call s st out = hide_list (numbers_run s st out)
