-- A list that is read place by place, as the keys and the children of a page are: its laws, said once for both.
-- Assumes nothing.
use mathlib.Core.Path.{◌≡◌, refl, ap, ap₂}
use mathlib.Core.List.{List, [], ◌∷◌, ◌++◌}
use Prim.Native.Nat.{ℕ, zero, suc, ◌+◌, ◌-◌, ◌≤◌, ◌<◌}
use native.Mathlib.Nat.{zero-add, suc-add, add-zero}
use native.Mathlib.Omega.{arith}
use lib.ListN.{length, take, drop, get_or}
use lib.Seq.{take_at, drop_at}
use Rattle.inner.specs.Inner.{key_at, child_at, keys_from, children_from}
use Rattle.inner_edit.specs.Facts.{insert_at}

-- what f reads at the n places from i on
unfoldable pub read_from : (ℕ → ℕ) → (i n : ℕ) → List ℕ
read_from f i zero = []
read_from f i (suc n) = f i ∷ read_from f (i + 1) n

pub keys_read : (n i : ℕ) (pg : List ℕ) → keys_from pg i n ≡ read_from (key_at pg) i n
unfolding keys_from read_from
keys_read zero i pg = refl
keys_read (suc n) i pg = ap (λ (l : List ℕ). key_at pg i ∷ l) (keys_read n (i + 1) pg)

pub children_read : (n i : ℕ) (pg : List ℕ) → children_from pg i n ≡ read_from (child_at pg) i n
unfolding children_from read_from
children_read zero i pg = refl
children_read (suc n) i pg = ap (λ (l : List ℕ). child_at pg i ∷ l) (children_read n (i + 1) pg)

length_read : (f : ℕ → ℕ) (n i : ℕ) → length (read_from f i n) ≡ n
unfolding read_from
length_read f zero i = refl
length_read f (suc n) i = ap suc (length_read f n (i + 1))

-- equal readings give equal lists
pub read_ext : (f g : ℕ → ℕ) (n i j : ℕ) → ((k : ℕ) → k < n → f (i + k) ≡ g (j + k)) → read_from f i n ≡ read_from g j n
unfolding read_from
read_ext f g zero i j h = refl
read_ext f g (suc n) i j h =
    ap₂ (λ (x : ℕ) (l : List ℕ). x ∷ l) (simp add-zero at (h 0 (omega arith)))
    (read_ext f g n (i + 1) (j + 1) (λ k l.
    let ei : i + 1 + k ≡ i + suc k = omega arith in
    let ej : j + 1 + k ≡ j + suc k = omega arith in
    rw (ei, ej) (h (suc k) (omega arith))))

read_add : (f : ℕ → ℕ) (m n i : ℕ) → read_from f i (m + n) ≡ read_from f i m ++ read_from f (i + m) n
unfolding read_from
read_add f zero n i = rw (zero-add, add-zero)
read_add f (suc m) n i =
    let e : i + suc m ≡ i + 1 + m = omega arith in
    rw (suc-add, e) (ap (λ (l : List ℕ). f i ∷ l) (read_add f m n (i + 1)))

module _ (f : ℕ → ℕ) (n m r i : ℕ) (split : n ≡ m + r) where
  pub read_take : take m (read_from f i n) ≡ read_from f i m
  read_take = rw (split, read_add f m r i) (take_at (read_from f i m) (read_from f (i + m) r) m (length_read f m i))

  pub read_drop : drop m (read_from f i n) ≡ read_from f (i + m) r
  read_drop = rw (split, read_add f m r i) (drop_at (read_from f i m) (read_from f (i + m) r) m (length_read f m i))

pub read_at : (f : ℕ → ℕ) (n k i : ℕ) → k < n → get_or (read_from f i n) k 0 ≡ f (i + k)
unfolding read_from
read_at f zero k i h = absurd (omega arith)
read_at f (suc n) zero i h = rw add-zero
read_at f (suc n) (suc k) i h = let e : i + suc k ≡ i + 1 + k = omega arith in rw e (read_at f n k (i + 1) (omega arith))

read_cons : (g : ℕ → ℕ) (i n : ℕ) → read_from g i (suc n) ≡ g i ∷ read_from g (i + 1) n
unfolding read_from
read_cons g i n = refl

-- x is put in at place i: g reads as f before it, x there, and as f one place earlier after it
pub read_insert : (f g : ℕ → ℕ) (n i x : ℕ) → i ≤ n → ((k : ℕ) → k < i → g k ≡ f k) → g i ≡ x → ((k : ℕ) → i ≤ k → k < n → g (k + 1) ≡ f k)
    → read_from g 0 (n + 1) ≡ insert_at i x (read_from f 0 n)
read_insert f g n i x h lo here hi =
    let e : n + 1 ≡ i + suc (n - i) = omega arith in
    let s : n ≡ i + (n - i) = omega arith in
    let front : read_from g 0 i ≡ read_from f 0 i = read_ext g f i 0 0 (λ k l. rw zero-add (lo k l)) in
    let rest : read_from g (i + 1) (n - i) ≡ read_from f i (n - i) =
    read_ext g f (n - i) (i + 1) i (λ k l. let t : i + 1 + k ≡ i + k + 1 = omega arith in rw t (hi (i + k) (omega arith) (omega arith))) in
    rw (e, read_add g i (suc (n - i)) 0, zero-add i, read_cons g i (n - i), here, rest, front, read_take f n i (n - i) 0 s, read_drop f n i (n - i) 0 s, zero-add i)
