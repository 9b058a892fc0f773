-- "A reader accepts exactly the bytes that such a version writes" (document 01, section 2), as two statements over
-- the definitions, and the worked record of that section.
use Rattle.std.specs.Prelude.{Option, Some, None, Ok, ◌≡◌, List, [], ◌∷◌, ℕ, ◌+◌, ◌≤◌, ◌<◌, pos, length}
use Rattle.store.specs.Le.{AreBytes}
use Rattle.store.specs.Part.{part}
use Rattle.page.specs.Key.{rank_of}
use Rattle.row.specs.Read.{cell_at}
use Rattle.row.specs.Write.{stamp_len, pointer_len, cell_size, cell_bytes, record_bytes, max_data}
use Rattle.row.specs.declared.Pointer.{Pointer}
use Rattle.row.specs.declared.Cell.{Cell}

-- the numbers fit the widths in which they are stored
abbrev pub StampFits : Option ℕ → Type 0
StampFits None = Unit
StampFits (Some t) = t < 18446744073709551616

abbrev pub PointerFits : Option Pointer → Type 0
PointerFits None = Unit
PointerFits (Some p) = (p.page < 4294967296) × (p.slot < 65536)

-- the cell that is read where a version was written at `at`
abbrev pub cell_of : (at key creator : ℕ) → Option ℕ → Option Pointer → ℕ → Cell
cell_of at key creator st pt n =
    record {
      at = at;
      key = key;
      version = record { creator = creator; stamp = st; pointer = pt; start = at + (17 + stamp_len st + pointer_len pt); len = n };
      next = at + cell_size st pt n;
    }

-- what is written is read back
abbrev pub WrittenIsRead : Type 0
WrittenIsRead =
    (s : List ℕ) (at key creator : ℕ) (st : Option ℕ) (pt : Option Pointer) (body : List ℕ) → key < 4294967296 → creator < 18446744073709551616
    → StampFits st → PointerFits pt → length body ≤ max_data → at + cell_size st pt (length body) ≤ length s
    → part at (cell_size st pt (length body)) s ≡ cell_bytes key creator st pt body
    → cell_at s at ≡ Ok (cell_of at key creator st pt (length body))

-- what is read is what a version writes, and lies inside the bytes
pub record CellIs (s : List ℕ) (at : ℕ) (c : Cell) : Type 0 where
  pub here : c.at ≡ at
  pub inside : c.next ≤ length s
  pub few : c.version.len ≤ max_data
  pub place : c ≡ cell_of at c.key c.version.creator c.version.stamp c.version.pointer c.version.len
  pub key_fits : c.key < 4294967296
  pub creator_fits : c.version.creator < 18446744073709551616
  pub stamp_fits : StampFits c.version.stamp
  pub pointer_fits : PointerFits c.version.pointer
  pub bytes : part at (cell_size c.version.stamp c.version.pointer c.version.len) s
      ≡ cell_bytes c.key c.version.creator c.version.stamp c.version.pointer (part c.version.start c.version.len s)

abbrev pub ReadIsWritten : Type 0
ReadIsWritten = (s : List ℕ) (at : ℕ) (c : Cell) → AreBytes s → cell_at s at ≡ Ok c → CellIs s at c

-- "Key 7, creator 5, live, data 00 00 gives 27 bytes"
abbrev pub WorkedRecord : Type 0
WorkedRecord =
    record_bytes 1 (cell_bytes (rank_of (pos 7)) 5 None None (0 ∷ 0 ∷ []))
    ≡ 23 ∷ 0 ∷ 0 ∷ 0 ∷ 1 ∷ 0 ∷ 7 ∷ 0 ∷ 0 ∷ 0 ∷ 13 ∷ 0 ∷ 0 ∷ 0 ∷ 129 ∷ 5 ∷ 0 ∷ 0 ∷ 0 ∷ 0 ∷ 0 ∷ 0 ∷ 0 ∷ 0 ∷ 0 ∷ 0 ∷ 0 ∷ []
