-- A new tree (document 01, section 6): create "makes the next page the root, zeros but type 1 and is-root 1".
use Rattle.std.specs.Prelude.{List, ℕ}
use Rattle.page.specs.Page.{page, set_page}
use Rattle.page.specs.Header.{with_node_type, with_is_root}
use Rattle.page.specs.Pool.{next_page, allocated, with_fresh}
use Rattle.page.specs.declared.pool.State.{State}

-- the new root
abbrev pub rooted : List ℕ → State → State
rooted s st = record { root = next_page s st; used = (allocated s st).state.used }

-- the pool with that page as an empty leaf
unfoldable pub created_pool : List ℕ → State → List ℕ
created_pool s st = set_page (next_page s st) (with_is_root 1 (with_node_type 1 (page (with_fresh s st) (next_page s st)))) (with_fresh s st)
