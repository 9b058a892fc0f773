-- Pages of 4096 bytes in a pool (document 01, section 2).
use Rattle.std.specs.Prelude.{List, ℕ, ◌*◌}
use Rattle.store.specs.Part.{part, splice}

-- the 4096 bytes of page p
unfoldable pub page : List ℕ → ℕ → List ℕ
page s p = part (p * 4096) 4096 s

-- the pool with the bytes x in the place of page p
unfoldable pub set_page : ℕ → List ℕ → List ℕ → List ℕ
set_page p x s = splice (p * 4096) 4096 x s
