-- Laws of keys and ranks: the rank has the signed order, and stored bits and ranks go into each other. Assumes nothing.
use mathlib.Core.Path.{◌≡◌, refl, sym, ap, ◌∙◌}
use mathlib.Core.Logic.{⊎_elim}
use Prim.Native.Nat.{ℕ, suc, ◌+◌, ◌-◌, ◌≤◌, ◌<◌}
use native.Mathlib.Omega.{arith}
use lib.IntN.{ℤ, pos, negsuc, ◌+ℤ◌}
use lib.Signed.{lt_z}
use lib.Dec.{ltb}
use borrow.Author.Tests.{lt-ltb, le-ltb}
use mir.Syntax.{w32}
use mir.Val.{SFits, of_z}
use Rattle.store.specs.Le.{bytes_le}
use Rattle.page.specs.Key.{rank_of, flip}
use Rattle.page.specs.Keys.{RanksAreKeys}
use Rattle.store.proofs.PartLaws.{le_or_lt}

pub rank_fits : (z : ℤ) → SFits w32 z → rank_of z < 4294967296
rank_fits (pos n) f = omega (arith, f.sfits)
rank_fits (negsuc n) f = omega (arith, f.sfits)

-- the wider sum that makes a rank
pub sum_rank : (z : ℤ) → SFits w32 z → z +ℤ pos 2147483648 ≡ pos (rank_of z)
sum_rank (pos n) f = ap pos (omega arith)
sum_rank (negsuc n) f = rw (le-ltb 2147483648 (suc n) (omega (arith, f.sfits)))

-- two tests that agree
pub ltb_same : (a b c d : ℕ) → (a < b → c < d) → (b ≤ a → d ≤ c) → ltb a b ≡ ltb c d
ltb_same a b c d f g =
    ⊎_elim
    (λ (h : b ≤ a). le-ltb a b h ∙ sym (le-ltb c d (g h)))
    (λ (h : a < b). lt-ltb a b h ∙ sym (lt-ltb c d (f h)))
    (le_or_lt b a)

-- the ranks have the keys' order
pub rank_less : (y z : ℤ) → SFits w32 y → SFits w32 z → ltb (rank_of y) (rank_of z) ≡ lt_z y z
rank_less (pos a) (pos b) f g = ltb_same (2147483648 + a) (2147483648 + b) a b (λ h. omega arith) (λ h. omega arith)
rank_less (pos a) (negsuc b) f g = le-ltb (2147483648 + a) (2147483648 - suc b) (omega arith)
rank_less (negsuc a) (pos b) f g = lt-ltb (2147483648 - suc a) (2147483648 + b) (omega arith)
rank_less (negsuc a) (negsuc b) f g =
    ltb_same (2147483648 - suc a) (2147483648 - suc b) b a (λ h. omega arith) (λ h. omega (arith, f.sfits, g.sfits))

pub flip-flip : (b : ℕ) → b < 4294967296 → flip (flip b) ≡ b
unfolding flip
flip-flip b h = omega arith

pub flip_less : (b : ℕ) → flip b < 4294967296
unfolding flip
flip_less b = omega arith

-- two keys with one rank are one key
pub rank_inj : (y z : ℤ) → SFits w32 y → SFits w32 z → rank_of y ≡ rank_of z → y ≡ z
rank_inj (pos a) (pos b) f g e = ap pos (omega arith)
rank_inj (pos a) (negsuc b) f g e = absurd (omega arith)
rank_inj (negsuc a) (pos b) f g e = absurd (omega arith)
rank_inj (negsuc a) (negsuc b) f g e = ap negsuc (omega (arith, f.sfits, g.sfits))

-- the bits that are stored for a key, by its rank, are its two's complement
pub bits_rank : (z : ℤ) → SFits w32 z → flip (rank_of z) ≡ of_z w32 z
unfolding flip
bits_rank (pos n) f = omega (arith, f.sfits)
bits_rank (negsuc n) f = omega (arith, f.sfits)

pub ranks_are_keys : RanksAreKeys
unfolding flip bytes_le
ranks_are_keys =
    record {
      order = rank_less;
      one_each = rank_inj;
      twos_complement = λ z f. ap (bytes_le 4) (bits_rank z f);
      minus_one = refl;
      before_zero = refl;
    }
