-- Laws of a part across a seam: a part of `x ++ y`; of a body with a part replaced (`spliced`), which is before, in or
-- after what is new; and of a list with zeros after it. Assumes nothing.
use mathlib.Core.Path.{◌≡◌, refl, ◌∙◌}
use mathlib.Core.List.{List, ◌++◌}
use Prim.Native.Nat.{ℕ, ◌+◌, ◌-◌, ◌≤◌}
use native.Mathlib.Omega.{arith}
use lib.ListN.{length, drop, length-drop, length-append, length-replicate}
use lib.Seq.{drop-append-le, take-append-le, drop-append-add, take_all}
use Rattle.store.specs.Part.{part, put, zeros, pad, spliced}
use Rattle.store.proofs.PartLaws.{length_part, part-part}
use Rattle.store.proofs.PutLaws.{put-end}

pub part_left : (b n : ℕ) (x y : List ℕ) → b + n ≤ length x → part b n (x ++ y) ≡ part b n x
unfolding part
part_left b n x y h =
    let l : n ≤ length (drop b x) = rw length-drop (omega arith) in
    rw (drop-append-le b x y (omega arith), take-append-le n (drop b x) y l)

pub part_right : (b n k : ℕ) (x y : List ℕ) → k ≡ length x + b → part k n (x ++ y) ≡ part b n y
unfolding part
part_right b n k x y e = rw (e, drop-append-add x y b)

pub part-whole : (n : ℕ) (x : List ℕ) → length x ≡ n → part 0 n x ≡ x
unfolding part
part-whole n x e = take_all n x (omega arith)

-- ---- a body with a part replaced

module _ (a b e : ℕ) (new s : List ℕ) (in₀ : a ≤ b) (in₁ : b ≤ e) (in₂ : e ≤ length s) where
  front : length (part 0 a s) ≡ a
  front = length_part 0 a s (omega arith)

  pub spliced-before : (k n : ℕ) → k + n ≤ a → part k n (spliced a b e new s) ≡ part k n s
  unfolding spliced
  spliced-before k n h =
      let f : 0 + k ≡ k = omega arith in
      part_left k n (part 0 a s) (new ++ part b (e - b) s) (omega (arith, front)) ∙ rw f at (part-part 0 a k n s h)

  pub spliced-new : (k n : ℕ) → k ≡ a → length new ≡ n → part k n (spliced a b e new s) ≡ new
  unfolding spliced
  spliced-new k n f l =
      part_right 0 n k (part 0 a s) (new ++ part b (e - b) s) (omega (arith, front))
      ∙ part_left 0 n new (part b (e - b) s) (omega arith)
      ∙ part-whole n new l

  -- what stood at j stands at k
  pub spliced-after : (j k n : ℕ) → b ≤ j → j + n ≤ e → k + b ≡ j + (a + length new) → part k n (spliced a b e new s) ≡ part j n s
  unfolding spliced
  spliced-after j k n h l f =
      let g : b + (j - b) ≡ j = omega arith in
      part_right (length new + (j - b)) n k (part 0 a s) (new ++ part b (e - b) s) (omega (arith, front))
      ∙ part_right (j - b) n (length new + (j - b)) new (part b (e - b) s) refl
      ∙ rw g at (part-part b (e - b) (j - b) n s (omega arith))

-- ---- zeros up to a length

pub length-pad : (n : ℕ) (x : List ℕ) → length x ≤ n → length (pad n x) ≡ n
unfolding pad
length-pad n x h = rw (length-append x (zeros (n - length x)), length-replicate) (omega arith)

pub part-pad : (n b m : ℕ) (x : List ℕ) → b + m ≤ length x → part b m (pad n x) ≡ part b m x
unfolding pad
part-pad n b m x h = part_left b m x (zeros (n - length x)) h

-- zeros stored from m up to the end
pub put-zeros : (n m : ℕ) (s : List ℕ) → length s ≡ n → m ≤ n → put m (zeros (n - m)) s ≡ pad n (part 0 m s)
unfolding pad
put-zeros n m s len h =
    let l : length (part 0 m s) ≡ m = length_part 0 m s (omega arith) in
    let e : m + length (zeros (n - m)) ≡ length s = rw length-replicate (omega arith) in
    put-end m (zeros (n - m)) s (omega arith) e ∙ rw l
