-- Check (document 01, sections 3 and 6): yes exactly for a well-formed tree; it never says BadTree.
use Rattle.std.specs.Prelude.{Bool, List, ℕ}
use Rattle.page.specs.Pool.{good_pool}
use Rattle.page.specs.declared.pool.State.{State}
use Rattle.tree_check.specs.Check.{is_well_formed}
use Rattle.call_answers.specs.Answer.{refused, done, Outcome}
use Rattle.call_answers.specs.Names.{BadPool, unless}

-- 1
unfoldable pub check_call : List ℕ → State → Outcome Bool
check_call s st = unless (good_pool s st) (refused BadPool) (done (is_well_formed s st.used st.root))
