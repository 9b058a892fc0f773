-- Laws of a part and of a list with a part replaced. Assumes nothing.
use mathlib.Core.Path.{◌≡◌, refl, sym, ap, ◌∙◌}
use mathlib.Core.List.{List, [], ◌∷◌, ◌++◌}
use mathlib.Core.Logic.{◌⊎◌, inl, inr, ⊎_elim}
use Prim.Native.Nat.{ℕ, zero, suc, ◌+◌, ◌-◌, ◌/◌, ◌%◌, ◌^◌, ◌≤◌, ◌<◌, zero-le, suc-le-suc}
use native.Mathlib.Nat.{sub-zero, zero-sub, suc-sub-suc, add_assoc, mod-eq_of_lt}
use native.Mathlib.Numerals.{add-one}
use native.Mathlib.Omega.{arith}
use borrow.Rule.Slice.PartMut.{mid_of, put_mid}
use lib.ListN.{length, get_or, set, take, drop, get_or-eq_default, length-append, length-take, length-drop, get_or-append, take-append-drop}
use lib.Seq.{length-take-le, get_or-take, get_or-drop, get_or-append-add, ext_get_or, take-set-lt, drop-set-add, take_at, drop_at, take-suc, drop-drop, take-take, take-nil, take-add}
use Rattle.store.specs.Le.{AreBytes, le_at, bytes_le, put_at}
use Rattle.store.specs.Part.{part, splice}
use Rattle.store.proofs.LeLaws.{le_at_ext, le_at-bytes, bytes_le-le_at, length-put_at, get_d-put_at-below, get_d-put_at_above}

pub le_or_lt : (a b : ℕ) → (a ≤ b) ⊎ (b < a)
le_or_lt zero b = inl zero-le
le_or_lt (suc a) zero = inr (suc-le-suc zero-le)
le_or_lt (suc a) (suc b) = ⊎_elim (λ p. inl (suc-le-suc p)) (λ q. inr (suc-le-suc q)) (le_or_lt a b)

-- ---- what the borrow checker says of `&s[a..e]` and of `&mut s[a..e]`, with `let e = a + n;`

pub lent : (a n : ℕ) (s : List ℕ) → mid_of a (a + n - a) s ≡ part a n s
unfolding part
lent a n s = let e : a + n - a ≡ n = omega arith in rw e

pub back : (a n : ℕ) (s y : List ℕ) → put_mid a (a + n - a) s y ≡ splice a n y s
unfolding splice
back a n s y = let e : a + n - a ≡ n = omega arith in rw e

-- ---- a part

pub get_d_part : (a n : ℕ) (s : List ℕ) (i : ℕ) → i < n → get_or (part a n s) i 0 ≡ get_or s (a + i) 0
unfolding part
get_d_part a n s i h = rw (get_or-take, get_or-drop)

pub length_part : (a n : ℕ) (s : List ℕ) → a + n ≤ length s → length (part a n s) ≡ n
unfolding part
length_part a n s h = length-take-le n (drop a s) (rw length-drop (omega arith))

pub le_at-part : (w a n : ℕ) (s : List ℕ) (b : ℕ) → b + w ≤ n → le_at w (part a n s) b ≡ le_at w s (a + b)
le_at-part w a n s b h = le_at_ext w (part a n s) s b (a + b) (λ k l. get_d_part a n s (b + k) (omega arith) ∙ ap (λ (i : ℕ). get_or s i 0) (sym (add_assoc a b k)))

-- equal parts hold equal numbers
pub le_at-same : (w a b : ℕ) (s t : List ℕ) → part a w s ≡ part b w t → le_at w s a ≡ le_at w t b
le_at-same w a b s t e =
    let f : a + 0 ≡ a = omega arith in
    let g : b + 0 ≡ b = omega arith in
    sym (rw f at (le_at-part w a w s 0 (omega arith))) ∙ rw e (rw g at (le_at-part w b w t 0 (omega arith)))

set-part : (a n : ℕ) (s : List ℕ) (b v : ℕ) → b < n → set (part a n s) b v ≡ part a n (set s (a + b) v)
unfolding part
set-part a n s b v h = rw (drop-set-add, take-set-lt)

-- a store in a part is a store in the whole
pub put_at-part : (w a n : ℕ) (s : List ℕ) (b x : ℕ) → b + w ≤ n → put_at w (part a n s) b x ≡ part a n (put_at w s (a + b) x)
unfolding put_at
put_at-part zero a n s b x h = refl
put_at-part (suc w) a n s b x h =
    let e : a + b + 1 ≡ a + (b + 1) = omega arith in
    rw (set-part a n s b (x % 256) (omega arith), put_at-part w a n (set s (a + b) (x % 256)) (b + 1) (x / 256) (omega arith), e)

-- two parts are equal by their elements
part-length_eq : (a n : ℕ) (s t : List ℕ) → length s ≡ length t → length (part a n s) ≡ length (part a n t)
unfolding part
part-length_eq a n s t e = rw (length-take, length-take, length-drop, length-drop, e)

part_less : (a n : ℕ) (s : List ℕ) (i : ℕ) → i < length (part a n s) → i < n
unfolding part
part_less a n s i b = omega (arith, length-take n (drop a s))

pub part_ext : (a n : ℕ) (s t : List ℕ) → length s ≡ length t → ((i : ℕ) → i < n → get_or s (a + i) 0 ≡ get_or t (a + i) 0) → part a n s ≡ part a n t
part_ext a n s t e h =
    ext_get_or 0 (part a n s) (part a n t) (part-length_eq a n s t e) (λ i b.
    let l : i < n = part_less a n s i b in
    get_d_part a n s i l ∙ h i l ∙ sym (get_d_part a n t i l))

-- ---- a part replaced

module _ (a n : ℕ) (x s : List ℕ) (fits : a + n ≤ length s) (len : length x ≡ n) where
  pub length-splice : length (splice a n x s) ≡ length s
  unfolding splice
  length-splice = simp (length-append, length-take, length-drop) (omega arith)

  pub get_d-splice-below : (i : ℕ) → i < a → get_or (splice a n x s) i 0 ≡ get_or s i 0
  unfolding splice
  get_d-splice-below i h =
      get_or-append (take a s) (x ++ drop n (drop a s)) 0 i (rw (length-take-le a s (omega arith)) h) ∙ get_or-take a s i 0 h

  pub get_d-splice_in : (i : ℕ) → i < n → get_or (splice a n x s) (a + i) 0 ≡ get_or x i 0
  unfolding splice
  get_d-splice_in i h =
      let e : length (take a s) ≡ a = length-take-le a s (omega arith) in
      ap (λ (k : ℕ). get_or (take a s ++ (x ++ drop n (drop a s))) (k + i) 0) (sym e)
      ∙ get_or-append-add (take a s) (x ++ drop n (drop a s)) i 0
      ∙ get_or-append x (drop n (drop a s)) 0 i (omega arith)

  pub get_d-splice_above : (i : ℕ) → a + n ≤ i → get_or (splice a n x s) i 0 ≡ get_or s i 0
  unfolding splice
  get_d-splice_above i h =
      let e : length (take a s) ≡ a = length-take-le a s (omega arith) in
      let j : i ≡ length (take a s) + (length x + (i - a - n)) = omega arith in
      ap (λ (k : ℕ). get_or (take a s ++ (x ++ drop n (drop a s))) k 0) j
      ∙ get_or-append-add (take a s) (x ++ drop n (drop a s)) (length x + (i - a - n)) 0
      ∙ get_or-append-add x (drop n (drop a s)) (i - a - n) 0
      ∙ get_or-drop n (drop a s) (i - a - n) 0
      ∙ get_or-drop a s (n + (i - a - n)) 0
      ∙ ap (λ (k : ℕ). get_or s k 0) (omega arith)

  pub part-splice : part a n (splice a n x s) ≡ x
  unfolding part splice
  part-splice = rw (drop_at (take a s) (x ++ drop n (drop a s)) a (length-take-le a s (omega arith)), take_at x (drop n (drop a s)) n len)

  pub part-splice-below : (b m : ℕ) → b + m ≤ a → part b m (splice a n x s) ≡ part b m s
  part-splice-below b m h = part_ext b m (splice a n x s) s length-splice (λ i l. get_d-splice-below (b + i) (omega arith))

  pub part-splice_above : (b m : ℕ) → a + n ≤ b → part b m (splice a n x s) ≡ part b m s
  part-splice_above b m h = part_ext b m (splice a n x s) s length-splice (λ i l. get_d-splice_above (b + i) (omega arith))

  splice_inner : (t : List ℕ) → part a n t ≡ x → (i : ℕ) → a ≤ i → i < a + n → get_or t i 0 ≡ get_or (splice a n x s) i 0
  splice_inner t mid i h h2 =
      let e : i ≡ a + (i - a) = omega arith in
      ap (λ (j : ℕ). get_or t j 0) e
      ∙ sym (get_d_part a n t (i - a) (omega arith))
      ∙ ap (λ (l : List ℕ). get_or l (i - a) 0) mid
      ∙ sym (get_d-splice_in (i - a) (omega arith))
      ∙ ap (λ (j : ℕ). get_or (splice a n x s) j 0) (sym e)

  -- a list that is x in the part and s elsewhere
  pub splice_unique : (t : List ℕ) → length t ≡ length s → ((i : ℕ) → i < a → get_or t i 0 ≡ get_or s i 0) → part a n t ≡ x
      → ((i : ℕ) → a + n ≤ i → i < length s → get_or t i 0 ≡ get_or s i 0) → t ≡ splice a n x s
  splice_unique t e lo mid hi =
      ext_get_or 0 t (splice a n x s) (e ∙ sym length-splice) (λ i b.
      ⊎_elim
      (λ (h : a ≤ i). ⊎_elim
      (λ (h2 : a + n ≤ i). hi i h2 (omega arith) ∙ sym (get_d-splice_above i h2))
      (λ (h2 : i < a + n). splice_inner t mid i h h2)
      (le_or_lt (a + n) i))
      (λ (h : i < a). lo i h ∙ sym (get_d-splice-below i h))
      (le_or_lt a i))

-- a store in the whole, within a part, is that part replaced
pub put_at-splice : (w a n : ℕ) (s : List ℕ) (b x : ℕ) → a + n ≤ length s → b + w ≤ n → put_at w s (a + b) x ≡ splice a n (put_at w (part a n s) b x) s
put_at-splice w a n s b x fits h =
    splice_unique a n (put_at w (part a n s) b x) s fits (length-put_at w (part a n s) b x ∙ length_part a n s fits)
    (put_at w s (a + b) x) (length-put_at w s (a + b) x)
    (λ i l. get_d-put_at-below w s (a + b) x i (omega arith))
    (sym (put_at-part w a n s b x h))
    (λ i l k. get_d-put_at_above w s (a + b) x i (omega arith))

pub splice-part : (a n : ℕ) (s : List ℕ) → splice a n (part a n s) s ≡ s
unfolding splice part
splice-part a n s = rw (take-append-drop, take-append-drop)

-- a part replaced twice
pub splice-splice : (a n : ℕ) (x y s : List ℕ) → a + n ≤ length s → length x ≡ n → splice a n y (splice a n x s) ≡ splice a n y s
unfolding splice
splice-splice a n x y s fits len =
    let e : length (take a s) ≡ a = length-take-le a s (omega arith) in
    rw (take_at (take a s) (x ++ drop n (drop a s)) a e, drop_at (take a s) (x ++ drop n (drop a s)) a e, drop_at x (drop n (drop a s)) n len)

-- one element more
pub part_snoc : (f n : ℕ) (s : List ℕ) → f + n < length s → part f n s ++ (get_or s (f + n) 0 ∷ []) ≡ part f (n + 1) s
unfolding part
part_snoc f n s h =
    let hd : n < length (drop f s) = rw length-drop (omega arith) in
    rw (add-one, take-suc (drop f s) n 0 hd, get_or-drop)

-- ---- a part of a part

pub drop-take : (b n : ℕ) (s : List ℕ) → drop b (take n s) ≡ take (n - b) (drop b s)
drop-take zero n s = rw sub-zero
drop-take (suc b) zero s = rw zero-sub
drop-take (suc b) (suc n) [] = sym (take-nil (suc n - suc b))
drop-take (suc b) (suc n) (x ∷ s) = rw suc-sub-suc (drop-take b n s)

pub part-part : (a n b m : ℕ) (s : List ℕ) → b + m ≤ n → part b m (part a n s) ≡ part (a + b) m s
unfolding part
part-part a n b m s h =
    rw (drop-take b n (drop a s), drop-drop, take-take m (n - b) (drop (a + b) s) (omega arith))

-- what was replaced in the whole, seen in a part around it
pub part_around : (a n b m : ℕ) (x s : List ℕ) → a + n ≤ length s → b + m ≤ n → length x ≡ m → part a n (splice (a + b) m x s) ≡ splice b m x (part a n s)
part_around a n b m x s fits h len =
    let f : a + b + m ≤ length s = omega arith in
    let ls : length (splice (a + b) m x s) ≡ length s = length-splice (a + b) m x s f len in
    let lp : length (part a n s) ≡ n = length_part a n s fits in
    splice_unique b m x (part a n s) (omega arith) len
    (part a n (splice (a + b) m x s)) (length_part a n (splice (a + b) m x s) (omega arith) ∙ sym lp)
    (λ i l. get_d_part a n (splice (a + b) m x s) i (omega arith) ∙ get_d-splice-below (a + b) m x s f len (a + i) (omega arith) ∙ sym (get_d_part a n s i (omega arith)))
    (part-part a n b m (splice (a + b) m x s) h ∙ part-splice (a + b) m x s f len)
    (λ i l k. get_d_part a n (splice (a + b) m x s) i (omega arith) ∙ get_d-splice_above (a + b) m x s f len (a + i) (omega arith) ∙ sym (get_d_part a n s i (omega arith)))

-- a part replaced within a part is replaced in the whole
pub splice-within : (a n b m : ℕ) (x s : List ℕ) → a + n ≤ length s → b + m ≤ n → length x ≡ m → splice a n (splice b m x (part a n s)) s ≡ splice (a + b) m x s
splice-within a n b m x s fits h len =
    let f : a + b + m ≤ length s = omega arith in
    let lp : length (part a n s) ≡ n = length_part a n s fits in
    let lx : length (splice b m x (part a n s)) ≡ n = length-splice b m x (part a n s) (omega arith) len ∙ lp in
    sym (splice_unique a n (splice b m x (part a n s)) s fits lx
    (splice (a + b) m x s) (length-splice (a + b) m x s f len)
    (λ i l. get_d-splice-below (a + b) m x s f len i (omega arith))
    (part_around a n b m x s fits h len)
    (λ i l k. get_d-splice_above (a + b) m x s f len i (omega arith)))

-- ---- a list taken apart, field by field

pub part_add : (a n m : ℕ) (s : List ℕ) → part a (n + m) s ≡ part a n s ++ part (a + n) m s
unfolding part
part_add a n m s = rw (take-add, drop-drop)

-- a field is the bytes of its number
pub part_bytes : (w a : ℕ) (s : List ℕ) → AreBytes s → a + w ≤ length s → part a w s ≡ bytes_le w (le_at w s a)
unfolding part
part_bytes w a s b h = sym (bytes_le-le_at w s a b h)

-- the first n elements of a part
pub part-first : (a n m : ℕ) (x t s : List ℕ) → length x ≡ n → part a (n + m) s ≡ x ++ t → part a n s ≡ x
unfolding part
part-first a n m x t s len e =
    let k : n ≤ n + m = omega arith in
    sym (take-take n (n + m) (drop a s) k) ∙ (ap (take n) e ∙ take_at x t n len)

-- what stands after the first n elements of a part
pub part_peel : (a n m : ℕ) (x t s : List ℕ) → length x ≡ n → part a (n + m) s ≡ x ++ t → part (a + n) m s ≡ t
unfolding part
part_peel a n m x t s len e =
    let k : n + m - n ≡ m = omega arith in
    let d : drop n (take (n + m) (drop a s)) ≡ take m (drop (a + n) s) = rw (drop-take n (n + m) (drop a s), drop-drop, k) in
    sym d ∙ (ap (drop n) e ∙ drop_at x t n len)

-- the number that stands first in a part
pub le_at-first : (w a m x : ℕ) (t s : List ℕ) → w ≤ m → x < 256 ^ w → part a m s ≡ bytes_le w x ++ t → le_at w s a ≡ x
le_at-first w a m x t s h l e =
    let k : a + 0 ≡ a = omega arith in
    sym (rw k at (le_at-part w a m s 0 (omega arith))) ∙ (rw e (le_at-bytes w x [] t 0 refl) ∙ mod-eq_of_lt l)

length-part_le : (a n : ℕ) (s : List ℕ) → length (part a n s) ≤ n
unfolding part
length-part_le a n s = rw length-take (omega arith)

pub bytes-part : (a n : ℕ) (s : List ℕ) → AreBytes s → AreBytes (part a n s)
bytes-part a n s B i =
    ⊎_elim
    (λ (h : n ≤ i). rw (get_or-eq_default (part a n s) 0 (short h)) (omega arith))
    (λ (h : i < n). rw (get_d_part a n s i h) (B (a + i)))
    (le_or_lt n i)
  where
    short : n ≤ i → length (part a n s) ≤ i
    short h = omega (arith, length-part_le a n s)
