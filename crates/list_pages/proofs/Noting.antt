-- A page is noted: its bit, and its record where there is room for it. Assumes nothing.
use mathlib.Core.Path.{◌≡◌}
use mathlib.Core.List.{List}
use Prim.Native.Nat.{ℕ, ◌+◌, ◌*◌, ◌≤◌, ◌<◌}
use borrow.Author.Tests.{le-leb, lt-leb}
use lib.ListN.{length}
use Rattle.std.specs.Int.{bytes_low_first}
use Rattle.store.specs.Part.{put}
use Rattle.row.specs.Write.{record_bytes}
use Rattle.list_pages.specs.Steps.Table.{with_bit, log_of, noted}
use Rattle.store.proofs.LeBytesLaws.{number_bytes}

module _ (seen out : List ℕ) (count p : ℕ) {s : List ℕ} (bit : s ≡ with_bit seen p) where
  pub note-written : {x y : List ℕ} → count * 10 + 10 ≤ length out → x ≡ bytes_low_first 0 4 p → y ≡ put (count * 10) (record_bytes 5 x) out
      → log_of (count + 1) s y ≡ noted p (log_of count seen out)
  unfolding noted
  note-written h e q = rw (bit, q, number_bytes 4 p e, le-leb (count * 10 + 10) (length out) h)

  pub note_short : length out < count * 10 + 10 → log_of (count + 1) s out ≡ noted p (log_of count seen out)
  unfolding noted
  note_short h = rw (bit, lt-leb (count * 10 + 10) (length out) h)
