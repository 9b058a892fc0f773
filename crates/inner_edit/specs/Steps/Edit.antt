-- What parent links need: every page that is written is there when it is written.
use Rattle.std.specs.Prelude.{List, ℕ, zero, suc, ◌+◌, ◌*◌, ◌≤◌, length}
use Rattle.page.specs.Page.{page, set_page}
use Rattle.page.specs.Header.{with_parent}
use Rattle.inner.specs.Inner.{child_at}

-- every page that is so written is there when it is written
unfoldable pub AdoptSafe : (n i p q : ℕ) → List ℕ → Type 0
AdoptSafe zero i p q s = Unit
AdoptSafe (suc n) i p q s =
    (child_at (page s p) i * 4096 + 4096 ≤ length s)
    × AdoptSafe n (i + 1) p q (set_page (child_at (page s p) i) (with_parent q (page s (child_at (page s p) i))) s)
