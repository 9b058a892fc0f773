-- Laws of `put`: what stores leave, part by part, and what two stores side by side make. Assumes nothing.
use mathlib.Core.Path.{◌≡◌, refl, ap, sym, ◌∙◌}
use mathlib.Core.List.{List, [], ◌∷◌, ◌++◌, append_assoc, append-nil}
use Prim.Native.Nat.{ℕ, zero, suc, ◌+◌, ◌-◌, ◌≤◌, ◌<◌}
use native.Mathlib.Nat.{add-zero, zero-add, add-suc, suc-add, add_assoc, le_refl}
use native.Mathlib.Numerals.{add-one}
use native.Mathlib.Omega.{arith}
use lib.ListN.{length, take, drop, set, get_or, length-append, length-take, length-drop, length-replicate, take-append-drop, drop_of_length-le}
use lib.Seq.{take-suc-set, drop-set-lt, drop-cons, drop_at, take_at, length-take-le, drop-drop, take-append-le, take-take, drop-append-add, drop-length, take-nil, take_all}
use borrow.Rule.Slice.PartMut.{mid_of, put_mid, mid_len}
use Rattle.store.specs.Le.{bytes_le, put_at}
use Rattle.std.specs.List.{copy_within}
use Rattle.store.specs.Part.{part, splice, put, zeros, pad, spliced}
use Rattle.store.proofs.LeLaws.{put_at-bytes, length-bytes_le}
use Rattle.store.proofs.PartLaws.{length_part, splice-part, part_add}

pub put_def : (a : ℕ) (x s : List ℕ) → put a x s ≡ take a s ++ (x ++ drop (a + length x) s)
unfolding put splice
put_def a x s = rw drop-drop

pub put-splice : (a n : ℕ) (x s : List ℕ) → length x ≡ n → put a x s ≡ splice a n x s
unfolding put
put-splice a n x s e = rw e

-- a part put back where it stood
pub put-part : (a n : ℕ) (s : List ℕ) → a + n ≤ length s → put a (part a n s) s ≡ s
put-part a n s h = put-splice a n (part a n s) s (length_part a n s h) ∙ splice-part a n s

pub put_nil : (a : ℕ) (s : List ℕ) → put a [] s ≡ s
put_nil a s = put_def a [] s ∙ rw (add-zero, take-append-drop)

pub length-put : (a : ℕ) (x s : List ℕ) → a + length x ≤ length s → length (put a x s) ≡ length s
length-put a x s h = rw put_def (simp (length-append, length-take, length-drop) (omega arith))

-- ---- fields of numbers

pub put_at-put : (w a x : ℕ) (s : List ℕ) → a + w ≤ length s → put_at w s a x ≡ put a (bytes_le w x) s
put_at-put w a x s h = put_at-bytes w s a x h ∙ rw (put_def, length-bytes_le)

-- ---- the turns of a loop: what is left to do after a turn gives what was left to do before it

-- the first element stored, the rest to do
put_cons : (a v : ℕ) (x s : List ℕ) → a < length s → put (a + 1) x (set s a v) ≡ put a (v ∷ x) s
put_cons a v x s h =
    let e : a + suc (length x) ≡ suc a + length x = rw (add-suc, suc-add) in
    let l : a < suc a + length x = omega arith in
    put_def (a + 1) x (set s a v) ∙ rw (add-one, take-suc-set, drop-set-lt, put_def, e, append_assoc)

pub part_none : (a n : ℕ) (s : List ℕ) → n ≡ 0 → part a n s ≡ []
unfolding part
part_none a n s e = rw e

pub put-done : {r s : List ℕ} (a : ℕ) {x : List ℕ} → x ≡ [] → put a x s ≡ r → s ≡ r
put-done {r} {s} a {x} e h = sym (rw e (put_nil a s)) ∙ h

pub step_in : (at j : ℕ) (x s : List ℕ) → j < length x → at + j < length s
    → put (at + (j + 1)) (drop (j + 1) x) (set s (at + j) (get_or x j 0)) ≡ put (at + j) (drop j x) s
step_in at j x s h k =
    let e : at + (j + 1) ≡ (at + j) + 1 = omega arith in
    rw (e, add-one j, drop-cons x j 0) (put_cons (at + j) (get_or x j 0) (drop (suc j) x) s k)

-- ---- what a `put` leaves, part by part

take-drop : (a n : ℕ) (s : List ℕ) → take n (drop a s) ≡ drop a (take (a + n) s)
take-drop zero n s = rw zero-add
take-drop (suc a) n [] = rw (suc-add, take-nil)
take-drop (suc a) n (x ∷ s) = rw suc-add (take-drop a n s)

module _ (a : ℕ) (x s : List ℕ) (in₀ : a ≤ length s) where
  head-length : length (take a s) ≡ a
  head-length = length-take-le a s in₀

  take_put : (k : ℕ) → k ≤ a → take k (put a x s) ≡ take k s
  take_put k h =
      let l : k ≤ length (take a s) = rw head-length h in
      rw (put_def, take-append-le k (take a s), take-take)

  drop-put : drop a (put a x s) ≡ x ++ drop (a + length x) s
  drop-put = rw put_def (drop_at (take a s) (x ++ drop (a + length x) s) a head-length)

  drop_past : (k : ℕ) → a + length x ≤ k → drop k (put a x s) ≡ drop k s
  drop_past k h =
      let e : k ≡ a + (length x + (k - (a + length x))) = omega arith in
      let f : a + length x + (k - (a + length x)) ≡ k = omega arith in
      ap (λ (i : ℕ). drop i (put a x s)) e
      ∙ sym (drop-drop (length x + (k - (a + length x))) a (put a x s))
      ∙ rw drop-put (drop-append-add x (drop (a + length x) s) (k - (a + length x)))
      ∙ drop-drop (k - (a + length x)) (a + length x) s
      ∙ ap (λ (i : ℕ). drop i s) f

  take_thru : take (a + length x) (put a x s) ≡ take a s ++ x
  take_thru =
      let l : length (take a s ++ x) ≡ a + length x = rw (length-append, head-length) in
      rw (put_def, ← append_assoc) (take_at (take a s ++ x) (drop (a + length x) s) (a + length x) l)

  -- a part does not see a store before or after it
  pub part-put-below : (b n : ℕ) → b + n ≤ a → part b n (put a x s) ≡ part b n s
  unfolding part
  part-put-below b n h = rw (take-drop b n (put a x s), take_put (b + n), ← take-drop b n s)

  pub part-put_above : (b n : ℕ) → a + length x ≤ b → part b n (put a x s) ≡ part b n s
  unfolding part
  part-put_above b n h = rw drop_past

  pub part-put : part a (length x) (put a x s) ≡ x
  unfolding part
  part-put = rw drop-put (take_at x (drop (a + length x) s) (length x) refl)

  -- what was stored, with what stands before it
  pub part_thru : (m : ℕ) → m ≡ a + length x → part 0 m (put a x s) ≡ part 0 a s ++ x
  unfolding part
  part_thru m e = rw e take_thru

  -- a store that reaches the end
  pub put-end : a + length x ≡ length s → put a x s ≡ part 0 a s ++ x
  unfolding part
  put-end e = put_def a x s ∙ rw (e, drop-length, append-nil)

-- ---- two stores

-- side by side they are one
pub put-after : (a : ℕ) (x y s : List ℕ) → a ≤ length s → put (a + length x) y (put a x s) ≡ put a (x ++ y) s
put-after a x y s h =
    let l : a + length x ≤ a + length x + length y = omega arith in
    put_def (a + length x) y (put a x s)
    ∙ rw (take_thru a x s h, drop_past a x s h (a + length x + length y) l, put_def, length-append, append_assoc, append_assoc, add_assoc)

pub put-after_at : (a n : ℕ) (x y s : List ℕ) → a ≤ length s → n ≡ a + length x → put n y (put a x s) ≡ put a (x ++ y) s
put-after_at a n x y s h e = rw e (put-after a x y s h)

-- a field right after what was stored
pub put-field : (w a b v : ℕ) (x s : List ℕ) → b ≡ a + length x → b + w ≤ length s → put_at w (put a x s) b v ≡ put a (x ++ bytes_le w v) s
put-field w a b v x s e h =
    let l : length (put a x s) ≡ length s = length-put a x s (omega arith) in
    put_at-put w b v (put a x s) (omega arith) ∙ put-after_at a b x (bytes_le w v) s (omega arith) e

pub put-before : (a : ℕ) (x y s : List ℕ) → a + length x ≤ length s → put a x (put (a + length x) y s) ≡ put a (x ++ y) s
put-before a x y s h =
    let l : a ≤ a + length x = omega arith in
    put_def a x (put (a + length x) y s)
    ∙ rw (take_put (a + length x) y s h a l, drop-put (a + length x) y s h, put_def, length-append, append_assoc, add_assoc)

-- ---- a lent part that has come back

-- a run x written over a lent part of as many elements
pub put_back : (a k : ℕ) (x s : List ℕ) {y : List ℕ} → length x ≡ k → y ≡ x → put_mid a k s y ≡ put a x s
unfolding put splice
put_back a k x s l e = rw (e, l)

-- a store at the start of a lent tail `&mut s[at..]` is a store in the whole
pub tail_back : (s y : List ℕ) (at : ℕ) (x : List ℕ) → at + length x ≤ length s → length y ≡ length (mid_of at (length s - at) s)
    → y ≡ put 0 x (mid_of at (length s - at) s) → put_mid at (length s - at) s y ≡ put at x s
tail_back s y at x h l e =
    let t : take (length s - at) (drop at s) ≡ drop at s = take_all (length s - at) (drop at s) (rw length-drop (omega arith)) in
    let f : y ≡ x ++ drop (at + length x) s = e ∙ rw (put_def, t, zero-add, drop-drop) in
    let k : length s ≤ at + length y = rw (l, mid_len at (length s) s (le_refl (length s))) (omega arith) in
    let n : drop (at + length y) s ≡ [] = drop_of_length-le s k in
    put_back at (length s - at) y s (l ∙ mid_len at (length s) s (le_refl (length s))) refl ∙ rw (put_def, n, append-nil, f, put_def)

-- what `copy_within` leaves
pub put_copied : (src dst n : ℕ) (s : List ℕ) → src + n ≤ length s → copy_within s src (src + n) dst ≡ put dst (part src n s) s
unfolding part
put_copied src dst n s h =
    let e : src + n - src ≡ n = omega arith in
    let l : length (part src n s) ≡ n = length_part src n s h in
    rw (put_def, l, e) (append_assoc (take dst s) (part src n s) (drop (dst + n) s))

-- ---- a run copied in two parts, cut at h: it has come over whole where the order of the parts is the direction's

module _ (src dst h n : ℕ) (s : List ℕ) (cut : h ≤ n) (fits : src + n ≤ length s) where
  halves : part src h s ++ part (src + h) (n - h) s ≡ part src n s
  halves =
      let e : h + (n - h) ≡ n = omega arith in
      sym (part_add src h (n - h) s) ∙ ap (λ (k : ℕ). part src k s) e

  rest_copied : copy_within s (src + h) (src + n) (dst + h) ≡ put (dst + h) (part (src + h) (n - h) s) s
  rest_copied =
      let e : src + h + (n - h) ≡ src + n = omega arith in
      rw e at (put_copied (src + h) (dst + h) (n - h) s (omega arith))

-- down
pub front_first : (src dst h n : ℕ) (s : List ℕ) → dst ≤ src → h ≤ n → src + n ≤ length s
    → copy_within (copy_within s src (src + h) dst) (src + h) (src + n) (dst + h) ≡ put dst (part src n s) s
front_first src dst h n s d i k =
    let x = part src h s in
    let y = part (src + h) (n - h) s in
    let t = put dst x s in
    let e : length x ≡ h = length_part src h s (omega arith) in
    let l : length t ≡ length s = length-put dst x s (omega arith) in
    let b : part (src + h) (n - h) t ≡ y = part-put_above dst x s (omega arith) (src + h) (n - h) (omega arith) in
    let o : put (dst + h) y t ≡ put dst (x ++ y) s = put-after_at dst (dst + h) x y s (omega arith) (omega arith) in
    rw (put_copied src dst h s (omega arith), rest_copied src dst h n t i (omega arith), b, o, halves src dst h n s i k)

-- up
pub back_first : (src dst h n : ℕ) (s : List ℕ) → src ≤ dst → h ≤ n → src + n ≤ length s → dst + n ≤ length s
    → copy_within (copy_within s (src + h) (src + n) (dst + h)) src (src + h) dst ≡ put dst (part src n s) s
back_first src dst h n s d i k m =
    let x = part src h s in
    let y = part (src + h) (n - h) s in
    let t = put (dst + h) y s in
    let e : length x ≡ h = length_part src h s (omega arith) in
    let f : length y ≡ n - h = length_part (src + h) (n - h) s (omega arith) in
    let l : length t ≡ length s = length-put (dst + h) y s (omega arith) in
    let b : part src h t ≡ x = part-put-below (dst + h) y s (omega arith) src h (omega arith) in
    let o : put dst x t ≡ put dst (x ++ y) s = rw e at (put-before dst x y s (omega arith)) in
    rw (rest_copied src dst h n s i k, put_copied src dst h t (omega arith), b, o, halves src dst h n s i k)

-- ---- a body with a part replaced

pub length-spliced : (a b e : ℕ) (new s : List ℕ) → a ≤ b → b ≤ e → e ≤ length s → length (spliced a b e new s) ≡ a + length new + (e - b)
unfolding spliced
length-spliced a b e new s h₀ h₁ h₂ =
    let f : length (part b (e - b) s) ≡ e - b = length_part b (e - b) s (omega arith) in
    let g : length (part 0 a s) ≡ a = length_part 0 a s (omega arith) in
    rw (length-append, length-append, f, g) (omega arith)

pad_def : (n : ℕ) (x : List ℕ) → pad n x ≡ x ++ zeros (n - length x)
unfolding pad
pad_def n x = refl

-- the stores of `splice_body`
pub splice-done : (s : List ℕ) {s₁ s₂ s₃ : List ℕ} (a b e : ℕ) (new : List ℕ) → a ≤ b → b ≤ e → e ≤ length s → a + length new + (e - b) ≤ length s
    → s₁ ≡ put (a + length new) (part b (e - b) s) s → s₂ ≡ put a new s₁
    → s₃ ≡ put (a + length new + (e - b)) (zeros (length s - (a + length new + (e - b)))) s₂ → s₃ ≡ pad (length s) (spliced a b e new s)
unfolding spliced
splice-done s {s₁} {s₂} {s₃} a b e new h₀ h₁ h₂ h₃ p q r =
    let T = part b (e - b) s in
    let l : length T ≡ e - b = length_part b (e - b) s (omega arith) in
    let f : length (new ++ T) ≡ length new + (e - b) = rw (length-append, l) in
    let x : a + length new + (e - b) ≡ a + length (new ++ T) = omega arith in
    let y : length (part 0 a s ++ (new ++ T)) ≡ a + length (new ++ T) = rw (length-append, length_part 0 a s (omega arith)) in
    let z : a + length ((new ++ T) ++ zeros (length s - (a + length (new ++ T)))) ≡ length s = rw (length-append, length-replicate) (omega arith) in
    r
    ∙ rw (q, p, put-before a new T s (omega arith), x, put-after a (new ++ T) _ s (omega arith), put-end a _ s (omega arith) z, pad_def, y)
    (simp append_assoc)
