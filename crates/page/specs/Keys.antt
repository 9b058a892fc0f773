-- What is proved of ranks: they have the keys' signed order, no two keys share one, and the stored bytes are the
-- key's two's complement ("-1 is FF FF FF FF and sorts before 0", document 01, section 2).
use Rattle.std.specs.Prelude.{◌≡◌, [], ◌∷◌, true, ltb, ℤ, pos, negsuc}
use Rattle.std.specs.Int.Signed.{lt_z}
use Rattle.std.specs.Int.{w32}
use Rattle.std.proofs.Common.{SFits, of_z}
use Rattle.store.specs.Le.{bytes_le}
use Rattle.page.specs.Key.{rank_of, key_bytes}

pub record RanksAreKeys : Type 0 where
  pub order : (y z : ℤ) → SFits w32 y → SFits w32 z → ltb (rank_of y) (rank_of z) ≡ lt_z y z
  pub one_each : (y z : ℤ) → SFits w32 y → SFits w32 z → rank_of y ≡ rank_of z → y ≡ z
  pub twos_complement : (z : ℤ) → SFits w32 z → key_bytes (rank_of z) ≡ bytes_le 4 (of_z w32 z)
  pub minus_one : key_bytes (rank_of (negsuc 0)) ≡ 255 ∷ 255 ∷ 255 ∷ 255 ∷ []
  pub before_zero : ltb (rank_of (negsuc 0)) (rank_of (pos 0)) ≡ true
