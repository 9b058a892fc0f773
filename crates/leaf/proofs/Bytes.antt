-- A page of a pool of bytes holds bytes. Assumes nothing.
use mathlib.Core.List.{List}
use Prim.Native.Nat.{ℕ, ◌*◌}
use Rattle.store.specs.Le.{AreBytes}
use Rattle.page.specs.Page.{page}
use Rattle.store.proofs.PartLaws.{bytes-part}

pub bytes-page : (p : ℕ) (s : List ℕ) → AreBytes s → AreBytes (page s p)
unfolding page
bytes-page p s B = bytes-part (p * 4096) 4096 s B
