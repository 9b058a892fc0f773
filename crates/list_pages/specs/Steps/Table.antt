-- How the walk keeps its log: a bit for each page that is listed, how many there are, and the output, in which a record is
-- written where there is room.
use Rattle.std.specs.Prelude.{Result, Ok, Err, ◌≡◌, Bool, List, [], ◌∷◌, ℕ, zero, suc, ◌+◌, ◌*◌, ◌/◌, ◌%◌, ◌^◌, leb, eqb, length}
use Rattle.row.specs.declared.Fault.{Fault}
use Rattle.store.specs.Le.{le_at, put_at, bytes_le}
use Rattle.store.specs.Part.{part, put}
use Rattle.store.specs.Pick.{pick}
use Rattle.row.specs.Write.{record_bytes}
use Rattle.list_pages.specs.Numbers.{visiting}
use Rattle.tree.specs.declared.climb.Path.{Path}

-- bit p % 8 of byte p / 8
unfoldable pub bit_at : List ℕ → ℕ → Bool
bit_at seen p = eqb (le_at 1 seen (p / 8) / 2 ^ (p % 8) % 2) 1

unfoldable pub with_bit : List ℕ → ℕ → List ℕ
with_bit seen p = pick (bit_at seen p) seen (put_at 1 seen (p / 8) (le_at 1 seen (p / 8) + 2 ^ (p % 8)))

pub record Log : Type 0 where
  pub count : ℕ
  pub seen : List ℕ
  pub out : List ℕ

abbrev pub log_of : ℕ → (seen out : List ℕ) → Log
log_of n seen out = record { count = n; seen = seen; out = out }

unfoldable pub noted : ℕ → Log → Log
noted p l =
    record {
      count = l.count + 1;
      seen = with_bit l.seen p;
      out = pick (leb (l.count * 10 + 10) (length l.out)) (put (l.count * 10) (record_bytes 5 (bytes_le 4 p)) l.out) l.out;
    }

unfoldable pub visit_of : List ℕ → (used k : ℕ) → (up : List ℕ) → Log → (p : ℕ) → Result Log Fault
visit_of s used k up l p = visiting s used (λ m q. bit_at m.seen q) noted k up l p

-- what the walk leaves behind; after a fault nothing is said of it
abbrev pub LogEnds : Result ℕ Fault → (seen out : List ℕ) → Result Log Fault → Type 0
LogEnds (Ok n) seen out (Ok l) = log_of n seen out ≡ l
LogEnds (Ok n) seen out (Err f) = ⊥
LogEnds (Err g) seen out (Ok l) = ⊥
LogEnds (Err g) seen out (Err f) = g ≡ f

-- how many pages at most are added below a page, k levels above the last: what keeps the count small
unfoldable pub cap_of : ℕ → ℕ
cap_of zero = 1
cap_of (suc k) = 1 + 511 * cap_of k

-- the pages above, and one more
abbrev pub line_of : Path → List ℕ
line_of line = part 0 line.len line.pages

abbrev pub line_with : Path → ℕ → Path
line_with line p = record { pages = put line.len (p ∷ []) line.pages; len = line.len + 1 }
