-- Laws of the little-endian numbers, each once over the width. Assumes nothing.
use mathlib.Core.Path.{◌≡◌, refl, sym, ap, ap₂, ◌∙◌}
use mathlib.Core.List.{List, [], ◌∷◌, ◌++◌, append_assoc}
use Prim.Native.Nat.{ℕ, zero, suc, ◌+◌, ◌*◌, ◌/◌, ◌%◌, ◌^◌, ◌≤◌, ◌<◌}
use native.Mathlib.Nat.{zero-add, suc-add, add-zero, mul_assoc, mul_comm, one-mul, pow-zero, pow-suc, mod-eq_of_lt, mod-one, div-one, one-le-pow, zero-lt-suc, div-div-eq-div-mul}
use native.Mathlib.Numerals.{add-one}
use native.Mathlib.Omega.{arith}
use lib.Arith.{mod-mul}
use lib.ListN.{length, get_or, set, take, drop, length-set, length-append, take-append-drop}
use lib.Seq.{get_or-set_same, get_or-set_other, drop-set-lt, take-suc-set, drop-cons, get_or_at, append_snoc}
use Rattle.store.specs.Le.{AreBytes, le_at, bytes_le, put_at}

-- ---- powers of 256

pub pos256 : (w : ℕ) → 0 < 256 ^ w
pos256 w = one-le-pow w 256 (zero-lt-suc 255)

-- the low suc w digits: the lowest, and w of the rest
pub mod_suc256 : (w x : ℕ) → x % 256 ^ suc w ≡ x % 256 + 256 * (x / 256 % 256 ^ w)
mod_suc256 w x =
    rw (pow-suc, mod-mul x {m = 256 ^ w} {c = 256} (pos256 w) (zero-lt-suc 255)) (omega arith)

pub low256 : (w x : ℕ) → x % 256 ^ suc w % 256 ≡ x % 256
low256 w x = rw (mod_suc256 w x) (omega arith)

pub high256 : (w x : ℕ) → x % 256 ^ suc w / 256 ≡ x / 256 % 256 ^ w
high256 w x = rw (mod_suc256 w x) (omega arith)

-- ---- reading

-- the number of v + w bytes: the first v, and the next w above them
pub le_at_add : (v w : ℕ) (s : List ℕ) (a : ℕ) → le_at (v + w) s a ≡ le_at v s a + 256 ^ v * le_at w s (a + v)
unfolding le_at
le_at_add zero w s a = rw (zero-add, zero-add, add-zero, pow-zero, one-mul)
le_at_add (suc v) w s a =
    let e : a + 1 + v ≡ a + suc v = omega arith in
    rw (suc-add, le_at, le_at_add v w s (a + 1), e, pow-suc, mul_comm (256 ^ v) 256, mul_assoc) (omega arith)

-- only the bytes of the field count
pub le_at_ext : (w : ℕ) (s t : List ℕ) (a b : ℕ) → ((k : ℕ) → k < w → get_or s (a + k) 0 ≡ get_or t (b + k) 0) → le_at w s a ≡ le_at w t b
unfolding le_at
le_at_ext zero s t a b h = refl
le_at_ext (suc w) s t a b h =
    let h0 : get_or s a 0 ≡ get_or t b 0 = simp add-zero at (h 0 (omega arith)) in
    ap₂ (λ (x y : ℕ). x + 256 * y) h0
    (le_at_ext w s t (a + 1) (b + 1) (λ k l.
    let ea : a + 1 + k ≡ a + suc k = omega arith in
    let eb : b + 1 + k ≡ b + suc k = omega arith in
    rw (ea, eb) (h (suc k) (omega arith))))

pub le_at_lt : (w : ℕ) (s : List ℕ) (a : ℕ) → AreBytes s → le_at w s a < 256 ^ w
unfolding le_at
le_at_lt zero s a h = rw pow-zero (omega arith)
le_at_lt (suc w) s a h = rw pow-suc (omega (arith, le_at_lt w s (a + 1) h, h a))

-- ---- writing

pub length-put_at : (w : ℕ) (s : List ℕ) (a x : ℕ) → length (put_at w s a x) ≡ length s
unfolding put_at
length-put_at zero s a x = refl
length-put_at (suc w) s a x = rw (length-put_at w (set s a (x % 256)) (a + 1) (x / 256)) (length-set s a (x % 256))

pub put_at_add : (v w : ℕ) (s : List ℕ) (a x : ℕ) → put_at (v + w) s a x ≡ put_at w (put_at v s a x) (a + v) (x / 256 ^ v)
unfolding put_at
put_at_add zero w s a x = rw (zero-add, add-zero, pow-zero, div-one)
put_at_add (suc v) w s a x =
    let e : a + 1 + v ≡ a + suc v = omega arith in
    rw (suc-add, put_at, put_at_add v w (set s a (x % 256)) (a + 1) (x / 256), e, div-div-eq-div-mul, pow-suc, mul_comm (256 ^ v) 256)

-- only the low w digits are written
pub put_at_mod : (w : ℕ) (s : List ℕ) (a x : ℕ) → put_at w s a (x % 256 ^ w) ≡ put_at w s a x
unfolding put_at
put_at_mod zero s a x = refl
put_at_mod (suc w) s a x = rw (low256, high256, put_at_mod w (set s a (x % 256)) (a + 1) (x / 256))

-- a field of v + w bytes is written as one of v and one of w
pub put_at-two : (v w : ℕ) (s : List ℕ) (a x : ℕ) → put_at (v + w) s a x ≡ put_at w (put_at v s a (x % 256 ^ v)) (a + v) (x / 256 ^ v)
put_at-two v w s a x = rw (put_at_mod v s a x) (put_at_add v w s a x)

-- ---- frames

pub get_d-put_at-below : (w : ℕ) (s : List ℕ) (a x k : ℕ) → k < a → get_or (put_at w s a x) k 0 ≡ get_or s k 0
unfolding put_at
get_d-put_at-below zero s a x k h = refl
get_d-put_at-below (suc w) s a x k h =
    rw (get_d-put_at-below w (set s a (x % 256)) (a + 1) (x / 256) k (omega arith)) (get_or-set_other s a k (x % 256) 0 (λ e. omega arith))

pub get_d-put_at_above : (w : ℕ) (s : List ℕ) (a x k : ℕ) → a + w ≤ k → get_or (put_at w s a x) k 0 ≡ get_or s k 0
unfolding put_at
get_d-put_at_above zero s a x k h = refl
get_d-put_at_above (suc w) s a x k h =
    rw (get_d-put_at_above w (set s a (x % 256)) (a + 1) (x / 256) k (omega arith)) (get_or-set_other s a k (x % 256) 0 (λ e. omega arith))

-- a field before or after the one written is as it was
pub le_at-put_at-below : (v w : ℕ) (s : List ℕ) (a x b : ℕ) → b + v ≤ a → le_at v (put_at w s a x) b ≡ le_at v s b
le_at-put_at-below v w s a x b h = le_at_ext v (put_at w s a x) s b b (λ k l. get_d-put_at-below w s a x (b + k) (omega arith))

pub le_at-put_at_above : (v w : ℕ) (s : List ℕ) (a x b : ℕ) → a + w ≤ b → le_at v (put_at w s a x) b ≡ le_at v s b
le_at-put_at_above v w s a x b h = le_at_ext v (put_at w s a x) s b b (λ k l. get_d-put_at_above w s a x (b + k) (omega arith))

-- ---- the round trip

pub le_at-put_at_mod : (w : ℕ) (s : List ℕ) (a x : ℕ) → a + w ≤ length s → le_at w (put_at w s a x) a ≡ x % 256 ^ w
unfolding le_at put_at
le_at-put_at_mod zero s a x h = sym (ap (λ (m : ℕ). x % m) (pow-zero 256) ∙ mod-one x)
le_at-put_at_mod (suc w) s a x h =
    rw (
      get_d-put_at-below w (set s a (x % 256)) (a + 1) (x / 256) a (omega arith),
      get_or-set_same s a (x % 256) 0 (omega arith),
      le_at-put_at_mod w (set s a (x % 256)) (a + 1) (x / 256) (rw length-set (omega arith)),
    )
    (sym (mod_suc256 w x))

pub le_at-put_at : (w : ℕ) (s : List ℕ) (a x : ℕ) → a + w ≤ length s → x < 256 ^ w → le_at w (put_at w s a x) a ≡ x
le_at-put_at w s a x h l = le_at-put_at_mod w s a x h ∙ mod-eq_of_lt l

-- ---- the bytes as a list

pub length-bytes_le : (w x : ℕ) → length (bytes_le w x) ≡ w
unfolding bytes_le
length-bytes_le zero x = refl
length-bytes_le (suc w) x = ap suc (length-bytes_le w (x / 256))

-- a field written is its bytes pasted
pub put_at-bytes : (w : ℕ) (s : List ℕ) (a x : ℕ) → a + w ≤ length s → put_at w s a x ≡ take a s ++ (bytes_le w x ++ drop (a + w) s)
unfolding put_at bytes_le
put_at-bytes zero s a x h = rw add-zero (sym (take-append-drop a s))
put_at-bytes (suc w) s a x h =
    let d : ℕ = x % 256 in
    let e : a + 1 + w ≡ a + suc w = omega arith in
    put_at-bytes w (set s a (x % 256)) (a + 1) (x / 256) (rw length-set (omega arith))
    ∙ rw (e, drop-set-lt (a + suc w) s a (x % 256) (omega arith), add-one, take-suc-set s a (x % 256) (omega arith), append_assoc)

-- reading what was pasted
pub le_at-bytes : (w x : ℕ) (p t : List ℕ) (a : ℕ) → length p ≡ a → le_at w (p ++ (bytes_le w x ++ t)) a ≡ x % 256 ^ w
unfolding le_at bytes_le
le_at-bytes zero x p t a e = sym (ap (λ (m : ℕ). x % m) (pow-zero 256) ∙ mod-one x)
le_at-bytes (suc w) x p t a e =
    rw (
      get_or_at p (x % 256) (bytes_le w (x / 256) ++ t) 0 a e,
      ← append_snoc p (x % 256) (bytes_le w (x / 256) ++ t),
      le_at-bytes w (x / 256) (p ++ (x % 256 ∷ [])) t (a + 1) (length-append p (x % 256 ∷ []) ∙ ap (λ (k : ℕ). k + 1) e),
    )
    (sym (mod_suc256 w x))

-- a field's value gives its bytes back
pub bytes_le-le_at : (w : ℕ) (s : List ℕ) (a : ℕ) → AreBytes s → a + w ≤ length s → bytes_le w (le_at w s a) ≡ take w (drop a s)
unfolding le_at bytes_le
bytes_le-le_at zero s a h l = refl
bytes_le-le_at (suc w) s a h l =
    let lo : (get_or s a 0 + 256 * le_at w s (a + 1)) % 256 ≡ get_or s a 0 = omega (arith, h a) in
    let hi : (get_or s a 0 + 256 * le_at w s (a + 1)) / 256 ≡ le_at w s (a + 1) = omega (arith, h a) in
    rw (lo, hi, bytes_le-le_at w s (a + 1) h (omega arith), drop-cons s a 0 (omega arith), add-one)

pub one_byte : (x : ℕ) → x < 256 → bytes_le 1 x ≡ x ∷ []
unfolding bytes_le
one_byte x h = rw (mod-eq_of_lt h)
