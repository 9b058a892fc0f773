-- The pool and the state of a tree in it: which pools are refused (document 01, section 6, BadPool),
-- and where pages come from (section 5: allocation is in order; section 2: a new page starts as zeros).
use Rattle.std.specs.Prelude.{Bool, ◌&&◌, List, ℕ, ◌+◌, ◌/◌, ◌%◌, leb, eqb, length}
use Rattle.store.specs.Part.{zeros}
use Rattle.page.specs.Page.{set_page}
use Rattle.page.specs.declared.pool.State.{State}
use Rattle.page.specs.declared.pool.Allocated.{Allocated}

-- the pool and the tree's numbers, which change together
pub record Grown : Type 0 where
  pub pool : List ℕ
  pub state : State

abbrev pub grown : List ℕ → State → Grown
grown s st = record { pool = s; state = st }

abbrev pub max_pages : ℕ
max_pages = 65536

-- "length not 1 to 65,536 whole pages, or pages in use above that" is BadPool; this is the rest
unfoldable pub good_pool : List ℕ → State → Bool
good_pool s st =
    eqb (length s % 4096) 0 && (leb 1 (length s / 4096) && (leb (length s / 4096) max_pages && leb st.used (length s / 4096)))

-- the page that is handed out next
unfoldable pub next_page : List ℕ → State → ℕ
next_page s st = st.used

-- that page with the state after it is handed out, and the pool, where it has become zeros
unfoldable pub allocated : List ℕ → State → Allocated
allocated s st = record { page = next_page s st; state = record { root = st.root; used = st.used + 1 } }

unfoldable pub with_fresh : List ℕ → State → List ℕ
with_fresh s st = set_page (next_page s st) (zeros 4096) s
