-- Create (document 01, section 6): "makes the next page the root, zeros but type 1 and is-root 1; NoPages on a full pool."
use Rattle.std.specs.Prelude.{Bool, List, ℕ, ◌/◌, ltb, length}
use Rattle.page.specs.Pool.{good_pool}
use Rattle.page.specs.declared.pool.State.{State}
use Rattle.tree.specs.Create.{rooted, created_pool}
use Rattle.call_answers.specs.Answer.{Ended, refused, done, Outcome, ended}
use Rattle.call_answers.specs.Names.{BadPool, NoPages, unless}

-- a page is left
abbrev pub has_page : List ℕ → State → Bool
has_page s st = ltb st.used (length s / 4096)

-- 1, 10
unfoldable pub create_call : List ℕ → State → Ended (Outcome State)
create_call s st =
    unless (good_pool s st) (ended (refused BadPool) s)
    (unless (has_page s st) (ended (refused NoPages) s)
    (ended (done (rooted s st)) (created_pool s st)))
