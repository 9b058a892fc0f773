-- The pairs of key and child as chunks of eight bytes, and what the search by halves among them finds. Assumes nothing.
use Rattle.std.proofs.Common.{drop-drop}
use mathlib.Core.Path.{◌≡◌, refl, ap}
use mathlib.Core.Bool.{Bool, true, false}
use mathlib.Core.List.{List, []}
use Prim.Native.Nat.{ℕ, zero, suc, ◌+◌, ◌-◌, ◌*◌, ◌/◌, ◌≤◌, ◌<◌}
use native.Mathlib.Nat.{add-zero}
use native.Mathlib.Omega.{arith}
use lib.Dec.{ltb, leb}
use lib.ListN.{length, get_or, drop}
use borrow.Author.Tests.{ltb-true, ltb-false, lt-ltb}
use borrow.Rule.Slice.PartMut.{mid_of}
use Rattle.std.specs.Simd.{first_chunks}
use Rattle.std.specs.List.Sorted.{IsPartitionedBy, IsPartitionPoint}
use Rattle.store.specs.Part.{part}
use Rattle.store.proofs.PartLaws.{lent, length_part, le_at-part}
use Rattle.page.specs.Key.{rank_at, flip}
use Rattle.inner.specs.Inner.{key_at, keys_from, never_falls}
use Rattle.inner.specs.Route.{first_where}
use Rattle.inner.proofs.Routing.{keys_rise, first_key}

-- a chunk is the part of the list where it stands
chunk_at : (k m : ℕ) (s d : List ℕ) → k < m → get_or (first_chunks 8 m s) k d ≡ part (8 * k) 8 s
unfolding part
chunk_at k zero s d h = absurd (omega arith)
chunk_at zero (suc m) s d h = refl
chunk_at (suc k) (suc m) s d h =
    let e : 8 * suc k ≡ 8 + 8 * k = omega arith in
    rw (chunk_at k m (drop 8 s) d (omega arith), drop-drop, e)

-- the search's test of a pair
abbrev pub is_below : ℕ → List ℕ → Bool
is_below bound pair = ltb (rank_at pair 0) bound

-- the pairs of n keys are the chunks of what follows byte 16
module _ (n : ℕ) (pg : List ℕ) (pairs : List (List ℕ)) (fits : n ≤ 510) (whole : length pg ≡ 4096)
    (chunks : pairs ≡ first_chunks 8 (length (mid_of 16 (16 + 8 * n - 16) pg) / 8) (mid_of 16 (16 + 8 * n - 16) pg)) where
  are : pairs ≡ first_chunks 8 n (part 16 (8 * n) pg)
  are =
      let e : length (part 16 (8 * n) pg) / 8 ≡ n = omega (arith, length_part 16 (8 * n) pg (omega arith)) in
      rw (chunks, lent, e)

  key_of : (k : ℕ) (d : List ℕ) → k < n → rank_at (get_or pairs k d) 0 ≡ key_at pg k
  unfolding key_at
  key_of k d h = ap flip (rw (are, chunk_at k n (part 16 (8 * n) pg) d h, le_at-part 4 (8 * k) 8 (part 16 (8 * n) pg) 0 (omega arith), add-zero, le_at-part 4 16 (8 * n) pg (8 * k) (omega arith)))

  module _ (bound : ℕ) (rises : never_falls 0 (keys_from pg 0 n) ≡ true) (count : length pairs ≡ n) where
    parted : IsPartitionedBy (is_below bound) pairs
    parted i j d h u t =
        let kj : rank_at (get_or pairs j d) 0 ≡ key_at pg j = key_of j d (omega arith) in
        let ki : rank_at (get_or pairs i d) 0 ≡ key_at pg i = key_of i d (omega arith) in
        let v : key_at pg i ≤ key_at pg j = keys_rise n i j pg rises h (omega arith) in
        lt-ltb _ _ (omega (arith, ltb-true _ _ t))

    pub first_pair : (r : ℕ) → r ≤ length pairs → (IsPartitionedBy (is_below bound) pairs → IsPartitionPoint (λ y. is_below bound y ≡ true) (λ y. is_below bound y ≡ false) pairs r)
        → (r ≡ first_where (leb bound) (keys_from pg 0 n)) × (r ≤ n)
    first_pair r h point =
        let p = point parted in (
          first_key bound n r pg (omega arith)
              (λ k u. omega (arith, key_of k [] (omega arith), ltb-true _ _ (p.0 k [] (omega arith) u)))
              (λ u. omega (arith, key_of r [] u, ltb-false _ _ (p.1 r [] (omega arith) (omega arith)))),
          omega arith,
        )
