-- The table of listed pages, one bit a page: what a bit that is set changes, and what it leaves. Assumes nothing.
use mathlib.Core.Path.{◌≡◌, refl, sym, ap, ◌∙◌}
use mathlib.Core.Bool.{Bool, true, false, ◌||◌, or-true, or-false}
use mathlib.Core.List.{List}
use mathlib.Core.Logic.{⊎_elim}
use Prim.Native.Nat.{ℕ, zero, suc, ◌+◌, ◌*◌, ◌/◌, ◌%◌, ◌^◌, ◌<◌}
use native.Mathlib.Nat.{div-div-eq-div-mul, zero-div, pow-suc}
use native.Mathlib.Omega.{arith}
use borrow.Author.Tests.{eqb-true, eqb-false, eq-eqb, ne_eqb}
use lib.Bits.{bit_and}
use lib.Dec.{eqb}
use lib.ListN.{length, get_or, set, length-replicate}
use Rattle.std.specs.Int.RustNames.{bit_or}
use Rattle.std.specs.Int.Bits.{or_add_and}
use Rattle.std.proofs.lemmas.Nat.Bits.{shr_and_one, and_pow}
use Rattle.std.proofs.lemmas.List.{set-get_or}
use Rattle.store.specs.Le.{le_at, put_at}
use Rattle.store.specs.Part.{zeros}
use Rattle.list_pages.specs.Steps.Table.{bit_at, with_bit}
use Rattle.store.proofs.LeLaws.{length-put_at, le_at-put_at, le_at-put_at-below, le_at-put_at_above}
use Rattle.store.proofs.PartLaws.{le_or_lt}

-- ---- the bits of a number

-- two to the i, by its clauses
abbrev power : ℕ → ℕ
power zero = 1
power (suc n) = 2 * power n

power_is : (i : ℕ) → 2 ^ i ≡ power i
power_is zero = refl
power_is (suc i) = let e = power_is i in pow-suc 2 i ∙ omega arith

power_pos : (i : ℕ) → 0 < power i
power_pos zero = omega arith
power_pos (suc i) = omega (arith, power_pos i)

halve : (i b : ℕ) → b / power (suc i) ≡ b / 2 / power i
halve i b = sym (div-div-eq-div-mul b 2 (power i))

halve_added : (i j b : ℕ) → (b + power (suc i)) / power (suc j) ≡ (b / 2 + power i) / power j
halve_added i j b =
    let e : (b + power (suc i)) / 2 ≡ b / 2 + power i = omega arith in
    halve j (b + power (suc i)) ∙ rw e

-- a number below 2^k has room for a bit that it does not have
no_carry : (k i b : ℕ) → i < k → b < power k → b / power i % 2 ≡ 0 → b + power i < power k
no_carry zero i b h l e = absurd (omega arith)
no_carry (suc k) zero b h l e = omega arith
no_carry (suc k) (suc i) b h l e = omega (arith, no_carry k i (b / 2) (omega arith) (omega arith) (rw (halve i b) at e))

bit_set : (i b : ℕ) → b / power i % 2 ≡ 0 → (b + power i) / power i % 2 ≡ 1
bit_set zero b e = omega arith
bit_set (suc i) b e = rw (halve_added i i b) (bit_set i (b / 2) (rw (halve i b) at e))

bit_other : (i j b : ℕ) → (i ≡ j → ⊥) → b / power i % 2 ≡ 0 → (b + power i) / power j % 2 ≡ b / power j % 2
bit_other zero zero b n e = absurd (n refl)
bit_other zero (suc j) b n e =
    let h : (b + 1) / 2 ≡ b / 2 = omega arith in
    rw (halve j (b + 1), halve j b, h)
bit_other (suc i) zero b n e = omega arith
bit_other (suc i) (suc j) b n e = rw (halve_added i j b, halve j b) (bit_other i j (b / 2) (λ q. n (ap suc q)) (rw (halve i b) at e))

-- ---- the table

bit_clear : (seen : List ℕ) (p : ℕ) → bit_at seen p ≡ false → le_at 1 seen (p / 8) / power (p % 8) % 2 ≡ 0
unfolding bit_at
bit_clear seen p e =
    let n = eqb-false (le_at 1 seen (p / 8) / 2 ^ (p % 8) % 2) 1 e in
    rw (← power_is (p % 8)) (omega arith)

bit_at_lem : (seen : List ℕ) (q b : ℕ) → le_at 1 seen (q / 8) ≡ b → bit_at seen q ≡ eqb (b / power (q % 8) % 2) 1
unfolding bit_at
bit_at_lem seen q b e = rw (e, power_is)

bit_fits : (seen : List ℕ) (p : ℕ) → le_at 1 seen (p / 8) < 256 → bit_at seen p ≡ false → le_at 1 seen (p / 8) + power (p % 8) < 256
bit_fits seen p l e = no_carry 8 (p % 8) (le_at 1 seen (p / 8)) (omega arith) l (bit_clear seen p e)

byte_other : (s : List ℕ) (a b x : ℕ) → (a ≡ b → ⊥) → le_at 1 (put_at 1 s a x) b ≡ le_at 1 s b
byte_other s a b x n =
    ⊎_elim
    (λ h. le_at-put_at_above 1 1 s a x b (omega arith))
    (λ h. le_at-put_at-below 1 1 s a x b (omega arith))
    (le_or_lt a b)

with_set : (seen : List ℕ) (p : ℕ) → bit_at seen p ≡ true → with_bit seen p ≡ seen
unfolding with_bit
with_set seen p e = rw e

with_clear : (seen : List ℕ) (p : ℕ) → bit_at seen p ≡ false → with_bit seen p ≡ put_at 1 seen (p / 8) (le_at 1 seen (p / 8) + power (p % 8))
unfolding with_bit
with_clear seen p e = rw (e, power_is)

-- 8192 numbers, each a byte
abbrev pub Table : List ℕ → Type 0
Table seen = (length seen ≡ 8192) × ((a : ℕ) → le_at 1 seen a < 256)

-- one more bit, and the others as they were
module _ (seen : List ℕ) (table : Table seen) (p : ℕ) (in-range : p < 65536) where
  fits-set : bit_at seen p ≡ false → le_at 1 (with_bit seen p) (p / 8) ≡ le_at 1 seen (p / 8) + power (p % 8)
  fits-set e =
      let n = table.0 in
      rw (with_clear seen p e)
      (le_at-put_at 1 seen (p / 8) (le_at 1 seen (p / 8) + power (p % 8)) (omega arith) (bit_fits seen p (table.1 (p / 8)) e))

  far_set : bit_at seen p ≡ false → (a : ℕ) → (p / 8 ≡ a → ⊥) → le_at 1 (with_bit seen p) a ≡ le_at 1 seen a
  far_set e a n = rw (with_clear seen p e) (byte_other seen (p / 8) a (le_at 1 seen (p / 8) + power (p % 8)) n)

  new_bit : bit_at seen p ≡ false → (q : ℕ) → bit_at (with_bit seen p) q ≡ (bit_at seen q || eqb p q)
  new_bit e q = by_byte (eqb (p / 8) (q / 8)) refl
    where
      by_place : (b : Bool) → eqb (p % 8) (q % 8) ≡ b → p / 8 ≡ q / 8 → bit_at (with_bit seen p) q ≡ (bit_at seen q || eqb p q)
      by_place true t h =
          let same : p ≡ q = omega (arith, eqb-true (p % 8) (q % 8) t) in
          let set : bit_at (with_bit seen p) p ≡ true = bit_at_lem (with_bit seen p) p _ (fits-set e) ∙ eq-eqb _ 1 (bit_set (p % 8) (le_at 1 seen (p / 8)) (bit_clear seen p e)) in
          rw (← same, set, eq-eqb p p refl, or-true)
      by_place false t h =
          let other = eqb-false (p % 8) (q % 8) t in
          let differ : p ≡ q → ⊥ = (λ u. other (ap (λ (n : ℕ). n % 8) u)) in
          rw (ne_eqb p q differ, or-false)
          (bit_at_lem (with_bit seen p) q _ (rw h at (fits-set e))
          ∙ ap (λ (n : ℕ). eqb n 1) (bit_other (p % 8) (q % 8) (le_at 1 seen (q / 8)) other (rw h at (bit_clear seen p e)))
          ∙ sym (bit_at_lem seen q _ refl))

      by_byte : (b : Bool) → eqb (p / 8) (q / 8) ≡ b → bit_at (with_bit seen p) q ≡ (bit_at seen q || eqb p q)
      by_byte true t = by_place (eqb (p % 8) (q % 8)) refl (eqb-true (p / 8) (q / 8) t)
      by_byte false t =
          let other = eqb-false (p / 8) (q / 8) t in
          let differ : p ≡ q → ⊥ = (λ u. other (ap (λ (n : ℕ). n / 8) u)) in
          rw (ne_eqb p q differ, or-false) (bit_at_lem (with_bit seen p) q _ (far_set e (q / 8) other) ∙ sym (bit_at_lem seen q _ refl))

  old_bit : bit_at seen p ≡ true → (q : ℕ) → bit_at (with_bit seen p) q ≡ (bit_at seen q || eqb p q)
  old_bit e q = rw (with_set seen p e) (by_page (eqb p q) refl)
    where
      by_page : (b : Bool) → eqb p q ≡ b → bit_at seen q ≡ (bit_at seen q || b)
      by_page true t = rw or-true (rw (eqb-true p q t) at e)
      by_page false t = rw or-false refl

  pub bit_with : (q : ℕ) → bit_at (with_bit seen p) q ≡ (bit_at seen q || eqb p q)
  bit_with q = by_bit (bit_at seen p) refl
    where
      by_bit : (b : Bool) → bit_at seen p ≡ b → bit_at (with_bit seen p) q ≡ (bit_at seen q || eqb p q)
      by_bit true e = old_bit e q
      by_bit false e = new_bit e q

  pub table_with : Table (with_bit seen p)
  table_with = by_bit (bit_at seen p) refl
    where
      by_byte : bit_at seen p ≡ false → (a : ℕ) (b : Bool) → eqb (p / 8) a ≡ b → le_at 1 (with_bit seen p) a < 256
      by_byte e a true t = rw (← eqb-true (p / 8) a t, fits-set e) (bit_fits seen p (table.1 (p / 8)) e)
      by_byte e a false t = rw (far_set e a (eqb-false (p / 8) a t)) (table.1 a)

      by_bit : (b : Bool) → bit_at seen p ≡ b → Table (with_bit seen p)
      by_bit true e = rw (with_set seen p e) table
      by_bit false e = (rw (with_clear seen p e) (length-put_at 1 seen (p / 8) _ ∙ table.0), λ a. by_byte e a (eqb (p / 8) a) refl)

-- ---- an empty table

byte_zero : (n a : ℕ) → get_or (zeros n) a 0 ≡ 0
byte_zero zero a = refl
byte_zero (suc n) zero = refl
byte_zero (suc n) (suc a) = byte_zero n a

number_zero : (n a : ℕ) → le_at 1 (zeros n) a ≡ 0
unfolding le_at
number_zero n a = omega (arith, byte_zero n a)

pub table_zero : (n : ℕ) → n ≡ 8192 → Table (zeros n)
table_zero n e = (length-replicate n 0 ∙ e, λ a. omega (arith, number_zero n a))

pub bit_zero : (n q : ℕ) → bit_at (zeros n) q ≡ false
bit_zero n q = bit_at_lem (zeros n) q 0 (number_zero n (q / 8)) ∙ ne_eqb (0 / power (q % 8) % 2) 1 (λ e. omega (arith, zero-div (power (q % 8))))

-- ---- what the code reads and writes: the byte by its place, the bit by shifts

power_small : (i : ℕ) → i < 8 → power i < 256
power_small i h = let e = no_carry 8 i 0 h (omega arith) (rw (zero-div (power i))) in omega arith

byte_is : (s : List ℕ) (a : ℕ) → get_or s a 0 ≡ le_at 1 s a
unfolding le_at
byte_is s a = omega arith

put_byte : (s : List ℕ) (a x : ℕ) → x < 256 → put_at 1 s a x ≡ set s a x
unfolding put_at
put_byte s a x h = let e : x % 256 ≡ x = omega arith in rw e

-- with a bit by `|`
or_is : (k b : ℕ) → bit_or b (power k) + b / power k % 2 * power k ≡ b + power k
or_is k b = rw (power_is k) at (rw (and_pow b k) at (or_add_and b (2 ^ k)))

or_known : (k b : ℕ) → b / power k % 2 ≡ 1 → bit_or b (power k) ≡ b
or_known k b q = let e = rw q at (or_is k b) in omega (arith, e)

or_new : (k b : ℕ) → b / power k % 2 ≡ 0 → bit_or b (power k) ≡ b + power k
or_new k b q = let e = rw q at (or_is k b) in omega (arith, e)

module _ (seen : List ℕ) (p : ℕ) where
  pub listed_read : eqb (bit_and (get_or seen (p / 8) 0 / 2 ^ (p % 8)) 1) 1 ≡ bit_at seen p
  unfolding bit_at
  listed_read = rw (shr_and_one, byte_is)

  bit_known : bit_at seen p ≡ true → le_at 1 seen (p / 8) / power (p % 8) % 2 ≡ 1
  unfolding bit_at
  bit_known e = rw (← power_is (p % 8)) (eqb-true _ 1 e)

  -- the bit's weight, as the shift gives it
  weight : 1 * 2 ^ (p % 8) % 256 ≡ power (p % 8)
  weight = let e = power_is (p % 8) in let l = power_small (p % 8) (omega arith) in omega arith

  pub marked : get_or seen (p / 8) 0 < 256 → set seen (p / 8) (bit_or (get_or seen (p / 8) 0) (1 * 2 ^ (p % 8) % 256)) ≡ with_bit seen p
  marked l = by_bit (bit_at seen p) refl
    where
      by_bit : (b : Bool) → bit_at seen p ≡ b → set seen (p / 8) (bit_or (get_or seen (p / 8) 0) (1 * 2 ^ (p % 8) % 256)) ≡ with_bit seen p
      by_bit true e =
          let known : get_or seen (p / 8) 0 / power (p % 8) % 2 ≡ 1 = rw byte_is (bit_known e) in
          rw (weight, or_known _ _ known, set-get_or) (sym (with_set seen p e))
      by_bit false e =
          let clear : get_or seen (p / 8) 0 / power (p % 8) % 2 ≡ 0 = rw byte_is (bit_clear seen p e) in
          let fits = bit_fits seen p (rw byte_is at l) e in
          rw (weight, or_new _ _ clear, byte_is) (sym (with_clear seen p e ∙ put_byte seen (p / 8) _ fits))
