-- The bytes that a version writes (document 01, section 2, "Leaf cell"), its cell's size, and the listing record.
use Rattle.std.specs.Prelude.{Option, Some, None, List, [], ◌∷◌, ◌++◌, ℕ, ◌+◌, length}
use Rattle.store.specs.Le.{bytes_le}
use Rattle.page.specs.Key.{key_bytes}
use Rattle.row.specs.declared.Pointer.{Pointer}

-- V, the first byte of every payload
abbrev pub format_version : ℕ
format_version = 129

-- "data 0 to 4051"
abbrev pub max_data : ℕ
max_data = 4051

abbrev pub stamp_bytes : Option ℕ → List ℕ
stamp_bytes None = 0 ∷ []
stamp_bytes (Some t) = 1 ∷ bytes_le 8 t

abbrev pub pointer_bytes : Option Pointer → List ℕ
pointer_bytes None = 0 ∷ []
pointer_bytes (Some p) = 1 ∷ (bytes_le 4 p.page ++ bytes_le 2 p.slot)

abbrev pub stamp_len : Option ℕ → ℕ
stamp_len None = 1
stamp_len (Some t) = 9

abbrev pub pointer_len : Option Pointer → ℕ
pointer_len None = 1
pointer_len (Some p) = 7

-- "A cell is 19 bytes plus data when live and unpointed, at most 33 plus data."
abbrev pub cell_size : Option ℕ → Option Pointer → ℕ → ℕ
cell_size st pt n = 17 + stamp_len st + pointer_len pt + n

-- key, payload length, V, creator
unfoldable pub head_bytes : (key n creator : ℕ) → List ℕ
head_bytes key n creator = key_bytes key ++ (bytes_le 4 n ++ (format_version ∷ bytes_le 8 creator))

unfoldable pub cell_bytes : (key creator : ℕ) → Option ℕ → Option Pointer → List ℕ → List ℕ
cell_bytes key creator st pt body =
    head_bytes key (9 + stamp_len st + pointer_len pt + length body) creator ++ (stamp_bytes st ++ (pointer_bytes pt ++ body))

-- "one record per version: u32 length of what follows, kind u16 = 1, then the leaf cell"
unfoldable pub record_bytes : (kind : ℕ) → List ℕ → List ℕ
record_bytes kind x = bytes_le 4 (2 + length x) ++ (bytes_le 2 kind ++ x)
