-- Two passes over a chain whose keys never fall. The first judges every leaf, counts the bytes that all its versions would
-- take, and sees whether a key falls. The second lists: the version that is chosen for the key at hand waits until another
-- key comes.
use Rattle.std.specs.Prelude.{Option, Some, None, Result, Ok, Err, ◌≡◌, false, ◌||◌, List, [], ◌∷◌, ◌++◌, ℕ, ◌+◌, ◌*◌, ◌-◌, ◌≤◌, ltb, eqb, length}
use Rattle.row.specs.declared.Fault.{Fault}
use Rattle.store.specs.Pick.{pick}
use Rattle.store.specs.Part.{part, put}
use Rattle.page.specs.Page.{page}
use Rattle.row.specs.Write.{record_bytes}
use Rattle.row.specs.declared.Cell.{Cell}
use Rattle.mvcc.specs.Rules.{visible}
use Rattle.leaf.specs.Cells.{cells, fold_cells, judge_leaf, on_judged}
use Rattle.tree.specs.Chain.{Seen, go, broken, along}
use Rattle.call_answers.specs.Answer.{written, Written}
use Rattle.list_visible.specs.declared.Bound.{Bound}
use Rattle.list_visible.specs.declared.pass.Chosen.{Chosen}
use Rattle.list_visible.specs.declared.pass.Scan.{Scan}
use Rattle.mvcc.specs.Snapshot.{Snapshot}

-- ---- the first pass

-- with one more cell: its key, its record's bytes, and whether it falls
abbrev pub bound_cell : Bound → Cell → Bound
bound_cell b x = record { last = x.key; size = b.size + (6 + (x.next - x.at)); falls = b.falls || ltb x.key b.last }

unfoldable pub bound_leaf : (p : ℕ) → Bound → List ℕ → Result Bound Fault
bound_leaf p b pg = on_judged (λ e. Ok (fold_cells bound_cell b (cells pg))) (λ f. Err f) (judge_leaf pg p)

-- what a leaf answers: the walk goes on to the end of the chain, or the leaf's fault ends it
abbrev pub goes_on : {A : Type 0} → Result A Fault → Seen A
goes_on (Ok a) = go a
goes_on (Err f) = broken f

abbrev pub look_bound : Bound → ℕ → List ℕ → Seen Bound
look_bound b p pg = goes_on (bound_leaf p b pg)

abbrev pub start_bound : Bound
start_bound = record { last = 0; size = 0; falls = false }

unfoldable pub bound_along : List ℕ → (used p : ℕ) → Result Bound Fault
bound_along s used p = along s used p look_bound used start_bound

-- ---- the second pass

-- the cell x of page p, by its place in the pool
abbrev pub chosen_of : (p : ℕ) → Cell → Chosen
chosen_of p x = record { from = p * 4096 + x.at; to = p * 4096 + x.next; key = x.key; creator = x.version.creator }

abbrev pub record_size : Chosen → ℕ
record_size x = 6 + (x.to - x.from)

abbrev pub waiting_for : Chosen → (size : ℕ) → Scan
waiting_for x size = record { wait = Some x; size = size }

-- a visible version: of one key the larger creator waits, on a tie the first; another key lists what waited
abbrev pub step_from : Option Chosen → Scan → Chosen → Scan
step_from None sc x = waiting_for x sc.size
step_from (Some o) sc x = pick (eqb o.key x.key) (pick (ltb o.creator x.creator) (waiting_for x sc.size) sc) (waiting_for x (sc.size + record_size o))

-- others change nothing
unfoldable pub scanned : Snapshot → (ℕ → ℕ) → (p : ℕ) → Scan → Cell → Scan
scanned sn st p sc x = pick (visible sn st x.version.creator x.version.stamp) (step_from sc.wait sc (chosen_of p x)) sc

-- a leaf that was judged
unfoldable pub scan_leaf : List ℕ → (p : ℕ) → Snapshot → (ℕ → ℕ) → Scan → Scan
scan_leaf pg p sn st sc = fold_cells (scanned sn st p) sc (cells pg)

abbrev pub start_scan : Scan
start_scan = record { wait = None; size = 0 }

-- with what still waits
abbrev pub wait_size : Option Chosen → ℕ
wait_size None = 0
wait_size (Some o) = record_size o

abbrev pub full_size : Scan → ℕ
full_size sc = sc.size + wait_size sc.wait

-- the record of what waits, from the pool's own bytes
abbrev pub wait_bytes : Option Chosen → List ℕ → List ℕ
wait_bytes None s = []
wait_bytes (Some o) s = record_bytes 1 (part o.from (o.to - o.from) s)

-- what a version makes listed
abbrev pub pushed_by : Option Chosen → Chosen → List ℕ → List ℕ
pushed_by None x s = []
pushed_by (Some o) x s = pick (eqb o.key x.key) [] (wait_bytes (Some o) s)

unfoldable pub pushed : Snapshot → (ℕ → ℕ) → (p : ℕ) → Scan → Cell → List ℕ → List ℕ
pushed sn st p sc x s = pick (visible sn st x.version.creator x.version.stamp) (pushed_by sc.wait (chosen_of p x) s) []

unfoldable pub pushed_all : Snapshot → (ℕ → ℕ) → (p : ℕ) → Scan → List Cell → List ℕ → List ℕ
pushed_all sn st p sc [] s = []
pushed_all sn st p sc (x ∷ xs) s = pushed sn st p sc x s ++ pushed_all sn st p (scanned sn st p sc x) xs s

-- what waits after a leaf, and the output with the records that the leaf makes listed, from sc.size on
unfoldable pub pass_leaf : (s : List ℕ) → (p : ℕ) → Snapshot → (ℕ → ℕ) → Scan → (out : List ℕ) → Written Scan
pass_leaf s p sn st sc out =
    written (scan_leaf (page s p) p sn st sc) (put sc.size (pushed_all sn st p sc (cells (page s p)) s) out)

-- along the chain: what waits, and all bytes so far
pub record Pass : Type 0 where
  pub scan : Scan
  pub bytes : List ℕ

abbrev pub look_pass : List ℕ → Snapshot → (ℕ → ℕ) → Pass → ℕ → List ℕ → Seen Pass
look_pass s sn st a p pg =
    on_judged
    (λ e. go (record { scan = scan_leaf pg p sn st a.scan; bytes = a.bytes ++ pushed_all sn st p a.scan (cells pg) s }))
    (λ f. broken f)
    (judge_leaf pg p)

unfoldable pub pass_along : List ℕ → (used p : ℕ) → Snapshot → (ℕ → ℕ) → Result Pass Fault
pass_along s used p sn st = along s used p (look_pass s sn st) used (record { scan = start_scan; bytes = [] })

-- the whole listing by this way
abbrev pub pass_bytes : List ℕ → Result Pass Fault → List ℕ
pass_bytes s (Ok a) = a.bytes ++ wait_bytes a.scan.wait s
pass_bytes s (Err f) = []

-- its length, and the output with it
abbrev pub passed : (x out : List ℕ) → Written ℕ
passed x out = written (length x) (put 0 x out)

-- ---- what the second pass needs

-- the leaf was judged
pub record WasJudged (p : ℕ) (pg : List ℕ) : Type 0 where
  pub end : ℕ
  pub judged : judge_leaf pg p ≡ Ok end

-- what waits has a cell's bytes at most; and they lie in the pool
abbrev pub Whole : Option Chosen → Type 0
Whole None = Unit
Whole (Some o) = (o.from ≤ o.to) × (o.to - o.from ≤ 4096)

abbrev pub Waits : Option Chosen → List ℕ → Type 0
Waits None s = Unit
Waits (Some o) s = (o.from ≤ o.to) × (o.to - o.from ≤ 4096) × (o.to ≤ length s)

-- the chain was judged, and its listing can be counted
pub record Through (t : Result Pass Fault) (s : List ℕ) : Type 0 where
  pub pass : Pass
  pub judged : t ≡ Ok pass
  pub few : length (pass_bytes s t) ≤ 9223372036854775807

-- and there is room for it
pub record PassFits (t : Result Pass Fault) (s out : List ℕ) : Type 0 where
  pub through : Through t s
  pub room : length (pass_bytes s t) ≤ length out
