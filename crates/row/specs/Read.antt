-- What stands at an offset of any bytes (document 01, section 2, "Leaf cell"): the cell, or the kind of its fault:
-- an unknown format byte, a flag above 1, a payload short or past the end, data over 4051.
use Rattle.std.specs.Prelude.{Option, Some, None, Result, Ok, Err, Bool, true, false, not, ◌&&◌, ◌||◌, List, ℕ, ◌+◌, ◌-◌, ltb, leb, eqb, length}
use Rattle.store.specs.Pick.{pick}
use Rattle.store.specs.Le.{le_at}
use Rattle.page.specs.Key.{rank_at}
use Rattle.row.specs.declared.Pointer.{Pointer}
use Rattle.row.specs.declared.Cell.{Cell}
use Rattle.row.specs.declared.CellFault.{CellFault}
use Rattle.row.specs.Write.{format_version, max_data}

-- "a stamp, which is either absent (byte 0) or byte 1 and the deleter's u64": its size by that byte, and the stamp at i
unfoldable pub stamp_size : ℕ → ℕ
stamp_size flag = pick (eqb flag 0) 1 9

unfoldable pub stamp_in : List ℕ → ℕ → Option ℕ
stamp_in s i = pick (eqb (le_at 1 s i) 0) None (Some (le_at 8 s (i + 1)))

-- "a version pointer, absent (0) or byte 1, page u32, slot u16"
unfoldable pub pointer_size : ℕ → ℕ
pointer_size flag = pick (eqb flag 0) 1 7

unfoldable pub pointer_in : List ℕ → ℕ → Option Pointer
pointer_in s i = pick (eqb (le_at 1 s i) 0) None (Some (record { page = le_at 4 s (i + 1); slot = le_at 2 s (i + 5) }))

-- "Payload: V; creator u64; a stamp; a version pointer; then data": the places in a payload that starts at i
unfoldable pub pointer_place : List ℕ → ℕ → ℕ
pointer_place s i = i + 9 + stamp_size (le_at 1 s (i + 9))

unfoldable pub data_place : List ℕ → ℕ → ℕ
data_place s i = pointer_place s i + pointer_size (le_at 1 s (pointer_place s i))

-- the flag at k is there, before m, and above 1
unfoldable pub flag_bad : List ℕ → (k m : ℕ) → Bool
flag_bad s k m = ltb k m && ltb 1 (le_at 1 s k)

-- The first kind that holds of the fields, on the bytes that are there, which end at m, if any.
unfoldable pub head_fault : List ℕ → (i m : ℕ) → Option CellFault
head_fault s i m =
    pick (ltb i m && not (eqb (le_at 1 s i) format_version)) (Some CellFault.Format)
    (pick (flag_bad s (i + 9) m || flag_bad s (pointer_place s i) m) (Some CellFault.Flag)
    (pick (ltb m (data_place s i)) (Some CellFault.Short)
    None))

-- The same with those of the data: the payload goes on past the bytes that are there, or its data is over 4051.
unfoldable pub data_fault : List ℕ → (i m : ℕ) → Bool → Option CellFault
data_fault s i m past = pick past (Some CellFault.Short) (pick (ltb max_data (m - data_place s i)) (Some CellFault.Long) None)

abbrev pub or_fault : {A : Type 0} → Option CellFault → Result A CellFault → Result A CellFault
or_fault None r = r
or_fault (Some kind) r = Err kind

-- the cell at `at` whose payload ends at m
unfoldable pub cell_in : List ℕ → (at m : ℕ) → Cell
cell_in s at m =
    record {
      at = at;
      key = rank_at s at;
      version =
          record {
            creator = le_at 8 s (at + 8 + 1);
            stamp = stamp_in s (at + 8 + 9);
            pointer = pointer_in s (pointer_place s (at + 8));
            start = data_place s (at + 8);
            len = m - data_place s (at + 8);
          };
      next = m;
    }

unfoldable pub payload_at : List ℕ → (at m : ℕ) → Bool → Result Cell CellFault
payload_at s at m past = or_fault (head_fault s (at + 8) m) (or_fault (data_fault s (at + 8) m past) (Ok (cell_in s at m)))

-- "signed 32-bit key, payload length u32, payload": a cell whose first 8 bytes do not fit is of kind 3
unfoldable pub cell_at : List ℕ → ℕ → Result Cell CellFault
cell_at s at =
    pick (leb (at + 8) (length s))
    (pick (leb (at + 8 + le_at 4 s (at + 4)) (length s))
    (payload_at s at (at + 8 + le_at 4 s (at + 4)) false)
    (payload_at s at (length s) true))
    (Err CellFault.Short)
