-- What is made of bytes holds bytes: the words in which stores are said, each once. Assumes nothing.
use Rattle.std.proofs.Common.{Option, Some, None}
use mathlib.Core.Path.{◌≡◌, refl}
use mathlib.Core.List.{List, [], ◌∷◌, ◌++◌}
use Prim.Native.Nat.{ℕ, zero, suc, ◌+◌, ◌-◌, ◌*◌, ◌/◌, ◌%◌, ◌<◌}
use native.Mathlib.Omega.{arith}
use lib.ListN.{length, get_or, set, take, drop}
use lib.Seq.{get_or-drop}
use Rattle.store.specs.Le.{AreBytes, le_at, bytes_le, put_at}
use Rattle.store.specs.Part.{part, splice, zeros, pad, spliced}
use Rattle.page.specs.Key.{flip, key_bytes}
use Rattle.page.specs.Page.{set_page}
use Rattle.row.specs.Write.{stamp_len, pointer_len, stamp_bytes, pointer_bytes, head_bytes, cell_bytes}
use Rattle.row.specs.declared.Pointer.{Pointer}
use Rattle.store.proofs.PartLaws.{bytes-part}

-- ---- lists

pub bytes_more : (v : ℕ) (x : List ℕ) → v < 256 → AreBytes x → AreBytes (v ∷ x)
bytes_more v x h b zero = h
bytes_more v x h b (suc i) = b i

pub bytes-none : AreBytes []
bytes-none i = omega arith

pub bytes-append : (x y : List ℕ) → AreBytes x → AreBytes y → AreBytes (x ++ y)
bytes-append [] y a b i = b i
bytes-append (v ∷ x) y a b zero = a zero
bytes-append (v ∷ x) y a b (suc i) = bytes-append x y (λ k. a (suc k)) b i

bytes_take : (n : ℕ) (s : List ℕ) → AreBytes s → AreBytes (take n s)
bytes_take zero s a i = omega arith
bytes_take (suc n) [] a i = omega arith
bytes_take (suc n) (v ∷ s) a zero = a zero
bytes_take (suc n) (v ∷ s) a (suc i) = bytes_take n s (λ k. a (suc k)) i

bytes_drop : (n : ℕ) (s : List ℕ) → AreBytes s → AreBytes (drop n s)
bytes_drop n s a i = rw (get_or-drop n s i 0) (a (n + i))

bytes-set : (s : List ℕ) (j v : ℕ) → AreBytes s → v < 256 → AreBytes (set s j v)
bytes-set [] j v a h i = a i
bytes-set (x ∷ s) zero v a h zero = h
bytes-set (x ∷ s) zero v a h (suc i) = a (suc i)
bytes-set (x ∷ s) (suc j) v a h zero = a zero
bytes-set (x ∷ s) (suc j) v a h (suc i) = bytes-set s j v (λ k. a (suc k)) h i

zero_byte : (n i : ℕ) → get_or (zeros n) i 0 ≡ 0
zero_byte zero i = refl
zero_byte (suc n) zero = refl
zero_byte (suc n) (suc i) = zero_byte n i

pub bytes-zeros : (n : ℕ) → AreBytes (zeros n)
bytes-zeros n i = rw (zero_byte n i) (omega arith)

-- ---- numbers

pub zero_number : (w n a : ℕ) → le_at w (zeros n) a ≡ 0
unfolding le_at
zero_number zero n a = refl
zero_number (suc w) n a = rw (zero_byte n a, zero_number w n (a + 1))

pub bytes-number : (w x : ℕ) → AreBytes (bytes_le w x)
unfolding bytes_le
bytes-number zero x i = omega arith
bytes-number (suc w) x zero = omega arith
bytes-number (suc w) x (suc i) = bytes-number w (x / 256) i

pub bytes-field : (w : ℕ) (s : List ℕ) (a x : ℕ) → AreBytes s → AreBytes (put_at w s a x)
unfolding put_at
bytes-field zero s a x b = b
bytes-field (suc w) s a x b = bytes-field w (set s a (x % 256)) (a + 1) (x / 256) (bytes-set s a (x % 256) b (omega arith))

-- ---- parts

pub bytes-pad : (n : ℕ) (x : List ℕ) → AreBytes x → AreBytes (pad n x)
unfolding pad
bytes-pad n x b = bytes-append x (zeros (n - length x)) b (bytes-zeros (n - length x))

pub bytes-spliced : (a b e : ℕ) (new s : List ℕ) → AreBytes new → AreBytes s → AreBytes (spliced a b e new s)
unfolding spliced
bytes-spliced a b e new s n h =
    bytes-append (part 0 a s) (new ++ part b (e - b) s) (bytes-part 0 a s h) (bytes-append new (part b (e - b) s) n (bytes-part b (e - b) s h))

pub bytes-set-page : (p : ℕ) (x s : List ℕ) → AreBytes x → AreBytes s → AreBytes (set_page p x s)
unfolding set_page splice
bytes-set-page p x s b h =
    bytes-append (take (p * 4096) s) (x ++ drop 4096 (drop (p * 4096) s)) (bytes_take (p * 4096) s h)
    (bytes-append x (drop 4096 (drop (p * 4096) s)) b (bytes_drop 4096 (drop (p * 4096) s) (bytes_drop (p * 4096) s h)))

-- ---- a cell

bytes-stamp : (x : Option ℕ) → AreBytes (stamp_bytes x)
bytes-stamp None = bytes_more 0 [] (omega arith) bytes-none
bytes-stamp (Some t) = bytes_more 1 (bytes_le 8 t) (omega arith) (bytes-number 8 t)

bytes-pointer : (x : Option Pointer) → AreBytes (pointer_bytes x)
bytes-pointer None = bytes_more 0 [] (omega arith) bytes-none
bytes-pointer (Some p) =
    bytes_more 1 (bytes_le 4 p.page ++ bytes_le 2 p.slot) (omega arith) (bytes-append (bytes_le 4 p.page) (bytes_le 2 p.slot) (bytes-number 4 p.page) (bytes-number 2 p.slot))

bytes-head : (key n creator : ℕ) → AreBytes (head_bytes key n creator)
unfolding head_bytes
bytes-head key n creator =
    bytes-append (key_bytes key) (bytes_le 4 n ++ (129 ∷ bytes_le 8 creator)) (bytes-number 4 (flip key))
    (bytes-append (bytes_le 4 n) (129 ∷ bytes_le 8 creator) (bytes-number 4 n) (bytes_more 129 (bytes_le 8 creator) (omega arith) (bytes-number 8 creator)))

-- a cell is bytes where its data is
pub bytes-cell : (key creator : ℕ) (x : Option ℕ) (y : Option Pointer) (body : List ℕ) → AreBytes body → AreBytes (cell_bytes key creator x y body)
unfolding cell_bytes
bytes-cell key creator x y body B =
    let n = 9 + stamp_len x + pointer_len y + length body in
    bytes-append (head_bytes key n creator) (stamp_bytes x ++ (pointer_bytes y ++ body)) (bytes-head key n creator)
    (bytes-append (stamp_bytes x) (pointer_bytes y ++ body) (bytes-stamp x) (bytes-append (pointer_bytes y) body (bytes-pointer y) B))
