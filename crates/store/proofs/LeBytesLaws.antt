-- What std's `from_le_bytes` and `to_le_bytes` say, as the little-endian numbers of `specs/Le`. Assumes nothing.
use mathlib.Core.Path.{◌≡◌, refl, sym, ◌∙◌}
use mathlib.Core.List.{List}
use Prim.Native.Nat.{ℕ, zero, suc, ◌+◌, ◌-◌, ◌*◌, ◌/◌, ◌%◌, ◌^◌, ◌≤◌}
use native.Mathlib.Nat.{zero-add, mul_comm, pow-zero, pow-suc, div-one, div-div-eq-div-mul}
use native.Mathlib.Omega.{arith}
use lib.ListN.{length, get_or}
use borrow.Rule.Slice.PartMut.{mid_of, put_mid}
use Rattle.std.specs.Int.{sum_through, byte_worth, bytes_low_first, byte_at}
use Rattle.store.specs.Le.{le_at, bytes_le, put_at}
use Rattle.store.proofs.LeLaws.{le_at_add, length-bytes_le}
use Rattle.store.proofs.PartLaws.{lent, le_at-part}
use Rattle.store.proofs.PutLaws.{put_back, put_at-put}

-- ---- reading

whole : (w : ℕ) (b : List ℕ) → sum_through (λ i. byte_worth i (get_or b i 0)) w ≡ le_at (suc w) b 0
unfolding le_at
whole zero b = omega arith
whole (suc w) b =
    let e : suc w + 1 ≡ suc (suc w) = omega arith in
    let f : le_at (suc (suc w)) b 0 ≡ le_at (suc w) b 0 + 256 ^ suc w * le_at 1 b (0 + suc w) = rw e at (le_at_add (suc w) 1 b 0) in
    let g : le_at 1 b (0 + suc w) ≡ get_or b (suc w) 0 = rw zero-add (omega arith) in
    sym (f ∙ rw (g, ← whole w b, mul_comm (256 ^ suc w) (get_or b (suc w) 0)))

-- the number that `from_le_bytes` makes of the bytes lent from a on
pub number_lent : (w a : ℕ) (s : List ℕ) {b : List ℕ} → b ≡ mid_of a (a + suc w - a) s → sum_through (λ i. byte_worth i (get_or b i 0)) w ≡ le_at (suc w) s a
number_lent w a s {b} e =
    let f : a + 0 ≡ a = omega arith in
    whole w b ∙ rw (e, lent a (suc w) s) (rw f at (le_at-part (suc w) a (suc w) s 0 (omega arith)))

-- ---- writing

byte_is : (i x : ℕ) → byte_at i x ≡ x / 256 ^ i % 256
byte_is zero x = rw (pow-zero, div-one)
byte_is (suc i) x = refl

low_first : (i w x : ℕ) → bytes_low_first i w x ≡ bytes_le w (x / 256 ^ i)
unfolding bytes_le
low_first i zero x = refl
low_first i (suc w) x =
    let e : x / 256 ^ suc i ≡ x / 256 ^ i / 256 = rw (div-div-eq-div-mul, pow-suc) in
    rw (byte_is, low_first (suc i) w x, e)

-- the bytes that `to_le_bytes` makes
pub number_bytes : (w x : ℕ) {b : List ℕ} → b ≡ bytes_low_first 0 w x → b ≡ bytes_le w x
number_bytes w x e = e ∙ (low_first 0 w x ∙ rw (pow-zero, div-one))

-- and written over those lent from a on
pub number_back : (w a x : ℕ) (s : List ℕ) {b : List ℕ} → a + w ≤ length s → b ≡ bytes_low_first 0 w x → put_mid a (a + w - a) s b ≡ put_at w s a x
number_back w a x s h e =
    let k : a + w - a ≡ w = omega arith in
    rw k (put_back a w (bytes_le w x) s (length-bytes_le w x) (number_bytes w x e) ∙ sym (put_at-put w a x s h))
