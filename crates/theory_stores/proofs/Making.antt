-- The header of a page that is made anew: bytes, zeros up to 4096, and a count. Assumes nothing.
use mathlib.Core.Path.{◌≡◌, ◌∙◌}
use mathlib.Core.List.{List, ◌++◌}
use Prim.Native.Nat.{ℕ, ◌+◌, ◌≤◌, ◌<◌}
use native.Mathlib.Omega.{arith}
use lib.ListN.{length, length-append}
use Rattle.store.specs.Le.{le_at}
use Rattle.store.specs.Part.{part, pad}
use Rattle.page.specs.Header.{cell_count, with_count}
use Rattle.store.proofs.LeLaws.{length-put_at, le_at-put_at, le_at-put_at-below, le_at-put_at_above}
use Rattle.store.proofs.PartLaws.{length_part, le_at-same, part-part}
use Rattle.store.proofs.SeamLaws.{part_left, length-pad, part-pad}

module _ (count : ℕ) (x : List ℕ) (fits : length x ≤ 4096) where
  pub made_long : length (with_count count (pad 4096 x)) ≡ 4096
  made_long = length-put_at 2 (pad 4096 x) 6 count ∙ length-pad 4096 x fits

  pub made_count : count < 65536 → cell_count (with_count count (pad 4096 x)) ≡ count
  made_count h = le_at-put_at 2 (pad 4096 x) 6 count (omega (arith, length-pad 4096 x fits)) h

  -- a field before the count, and one after it
  pub made_below : (w b : ℕ) → b + w ≤ 6 → b + w ≤ length x → le_at w (with_count count (pad 4096 x)) b ≡ le_at w x b
  made_below w b h l = le_at-put_at-below w 2 (pad 4096 x) 6 count b h ∙ le_at-same w b b (pad 4096 x) x (part-pad 4096 b w x l)

  pub made_above : (w b : ℕ) → 8 ≤ b → b + w ≤ length x → le_at w (with_count count (pad 4096 x)) b ≡ le_at w x b
  made_above w b h l = le_at-put_at_above w 2 (pad 4096 x) 6 count b h ∙ le_at-same w b b (pad 4096 x) x (part-pad 4096 b w x l)

-- the header of pg, and y after it
module _ (pg y : List ℕ) (len : length pg ≡ 4096) where
  pub length_headed : length (part 0 12 pg ++ y) ≡ 12 + length y
  length_headed = rw (length-append, length_part 0 12 pg (omega arith))

  pub headed_field : (w b : ℕ) → b + w ≤ 12 → le_at w (part 0 12 pg ++ y) b ≡ le_at w pg b
  headed_field w b h =
      let z : 0 + b ≡ b = omega arith in
      le_at-same w b b (part 0 12 pg ++ y) pg (part_left b w (part 0 12 pg) y (omega (arith, length_part 0 12 pg (omega arith))) ∙ rw z at (part-part 0 12 b w pg h))
