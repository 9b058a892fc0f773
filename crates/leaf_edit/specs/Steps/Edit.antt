-- The gap that an edit opens before its writer fills it.
use Rattle.std.specs.Prelude.{List, ℕ, ◌+◌, ◌-◌}
use Rattle.store.specs.Part.{part, put, zeros}

-- the page, whose cells end at e, with a gap of m bytes in the place of those from a to b: what stands in the gap is
-- what stood there, until a writer fills it
unfoldable pub gapped : (a b e m : ℕ) → List ℕ → List ℕ
gapped a b e m pg = put (a + m + (e - b)) (zeros (4096 - (a + m + (e - b)))) (put (a + m) (part b (e - b) pg) pg)
