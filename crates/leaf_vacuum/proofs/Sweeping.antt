-- The edits of a vacuum, on a page whose cells from some offset on are the bytes of rows: what each leaves, and what the
-- loop over the cells does from one to the next. Assumes nothing.
use Rattle.std.proofs.Common.{Option, Some, None, Result, Ok, Err}
use mathlib.Core.Path.{◌≡◌, refl, sym, ap, ap₂, ◌∙◌, subst}
use mathlib.Core.Bool.{Bool, true, false}
use mathlib.Core.List.{List, [], ◌∷◌, ◌++◌, append_assoc}
use Prim.Native.Nat.{ℕ, zero, suc, ◌+◌, ◌-◌, ◌/◌, ◌%◌, ◌≤◌, ◌<◌}
use native.Mathlib.Nat.{zero-add}
use native.Mathlib.Omega.{arith}
use lib.ListN.{length, set, length-append, length-replicate, length-set}
use lib.Seq.{set-append_left, set-set, set_comm, take_at, drop_at}
use Rattle.store.specs.Pick.{pick}
use Rattle.store.specs.Le.{AreBytes, bytes_le, put_at}
use Rattle.store.specs.Part.{part, put, zeros, pad, spliced}
use Rattle.page.specs.Header.{cell_count, with_count}
use Rattle.page.specs.Key.{flip, key_bytes}
use Rattle.row.specs.Read.{cell_at}
use Rattle.row.specs.Write.{stamp_len, pointer_len, stamp_bytes, pointer_bytes, cell_size, head_bytes, cell_bytes}
use Rattle.row.specs.Exact.{cell_of}
use Rattle.row.specs.declared.Pointer.{Pointer}
use Rattle.row.specs.declared.Cell.{Cell}
use Rattle.row.specs.declared.CellFault.{CellFault}
use Rattle.mvcc.specs.Rules.{of_deleter}
use Rattle.mvcc.specs.Vacuum.{dropped, aborted_deleter, fate}
use Rattle.mvcc.specs.declared.vacuum.Fate.{Fate}
use Rattle.leaf.specs.Cells.{cells, cells_of}
use Rattle.leaf.specs.Rows.{Row, AllFit, row_of, rows, row_size, row_bytes, rows_bytes}
use Rattle.leaf.specs.RowFacts.{Sound}
use Rattle.leaf_edit.specs.Steps.Edit.{gapped}
use Rattle.leaf_edit.specs.Edit.{without}
use Rattle.leaf_vacuum.specs.Vacuum.{cleared_row}
use Rattle.leaf_vacuum.specs.Steps.Vacuum.{without_stamp, sweep}
use Rattle.store.proofs.LeLaws.{length-bytes_le, length-put_at, one_byte}
use Rattle.store.proofs.PartLaws.{length_part, part_add, part-first, part_peel}
use Rattle.store.proofs.SeamLaws.{part_left, spliced-before, length-pad}
use Rattle.store.proofs.PutLaws.{length-put, length-spliced, put-field, put-after_at, part-put_above, put-part}
use Rattle.row.proofs.Writing.{stamp_len_lem, pointer_len_lem, length-head, length-cell}
use Rattle.row.proofs.Exact.{written-is_read}
use Rattle.leaf.proofs.Rowing.{rows_cons, length-rows, rows_read, end_of}
use Rattle.leaf.proofs.Chain.{split_at}
use Rattle.leaf.proofs.RowFacts.{rows_fill}
use Rattle.leaf_edit.proofs.Editing.{gap_filled, gap_closed, body_of, cell-ends, cell-bytes}

-- ---- a stamp taken off

-- a store of what stands there
put_same : (a n : ℕ) (x s : List ℕ) → a + n ≤ length s → part a n s ≡ x → put a x s ≡ s
put_same a n x s h e = ap (λ (y : List ℕ). put a y s) (sym e) ∙ put-part a n s h

-- the page with bytes out, and what stands before them
module _ (a b e : ℕ) (pg : List ℕ) (len : length pg ≡ 4096) (in₀ : a ≤ b) (in₁ : b ≤ e) (in₂ : e ≤ 4096) where
  length_closed : length (gapped a b e 0 pg) ≡ 4096
  length_closed =
      let l = length-spliced a b e [] pg in₀ in₁ (omega arith) in
      ap length (gap_closed a b e pg len in₀ in₁ in₂) ∙ length-pad 4096 (spliced a b e [] pg) (omega arith)

  part_closed : (k n : ℕ) → k + n ≤ a → part k n (gapped a b e 0 pg) ≡ part k n pg
  unfolding pad
  part_closed k n h =
      let l = length-spliced a b e [] pg in₀ in₁ (omega arith) in
      ap (part k n) (gap_closed a b e pg len in₀ in₁ in₂)
      ∙ (part_left k n (spliced a b e [] pg) (zeros (4096 - length (spliced a b e [] pg))) (omega arith) ∙ spliced-before a b e [] pg in₀ in₁ (omega arith) k n h)

module _ (at key creator n₀ : ℕ) (s : List ℕ) where
  -- the stores over a head: its length, and a flag after it
  head-cleared : (n : ℕ) → at + 18 ≤ length s → part at 17 s ≡ head_bytes key n₀ creator
      → put_at 1 (put_at 4 s (at + 4) n) (at + 17) 0 ≡ put at (head_bytes key n creator ++ (0 ∷ [])) s
  unfolding head_bytes
  head-cleared n h e =
      let mid : List ℕ = 129 ∷ bytes_le 8 creator in
      let lk : length (key_bytes key) ≡ 4 = length-bytes_le 4 (flip key) in
      let e₁ : part at 4 s ≡ key_bytes key = part-first at 4 13 (key_bytes key) (bytes_le 4 n₀ ++ mid) s lk e in
      let e₂ = part_peel at 4 13 (key_bytes key) (bytes_le 4 n₀ ++ mid) s lk e in
      let i : at + 4 + 4 ≡ at + 8 = omega arith in
      let e₃ : part (at + 8) 9 s ≡ mid = rw i at (part_peel (at + 4) 4 9 (bytes_le 4 n₀) mid s (length-bytes_le 4 n₀) e₂) in
      let x₁ = key_bytes key ++ bytes_le 4 n in
      let l₁ : length x₁ ≡ 8 = simp (length-append, length-bytes_le) in
      let lm : length mid ≡ 9 = simp length-bytes_le in
      let p₁ : put_at 4 s (at + 4) n ≡ put at x₁ s
      = ap (λ (z : List ℕ). put_at 4 z (at + 4) n) (sym (put_same at 4 (key_bytes key) s (omega arith) e₁)) ∙ put-field 4 at (at + 4) n (key_bytes key) s (omega arith) (omega arith) in
      let v : part (at + 8) 9 (put at x₁ s) ≡ mid = part-put_above at x₁ s (omega arith) (at + 8) 9 (omega arith) ∙ e₃ in
      let w : length (put at x₁ s) ≡ length s = length-put at x₁ s (omega arith) in
      let p₂ : put at x₁ s ≡ put at (x₁ ++ mid) s = sym (put_same (at + 8) 9 mid (put at x₁ s) (omega arith) v) ∙ put-after_at at (at + 8) x₁ mid s (omega arith) (omega arith) in
      let l₂ : at + 17 ≡ at + length (x₁ ++ mid) = rw (length-append x₁ mid) (omega arith) in
      rw (p₁, p₂, put-field 1 at (at + 17) 0 (x₁ ++ mid) s l₂ (omega arith), one_byte 0 (omega arith))
      (ap (λ (z : List ℕ). put at (z ++ (0 ∷ [])) s) (append_assoc (key_bytes key) (bytes_le 4 n) mid))

-- a cell that was stamped by d
cell-cleared : (at e n key creator d : ℕ) (pt : Option Pointer) (body pg : List ℕ) → length pg ≡ 4096 → at + cell_size (Some d) pt (length body) ≤ e → e ≤ 4096
    → n ≡ 10 + pointer_len pt + length body → part at (cell_size (Some d) pt (length body)) pg ≡ cell_bytes key creator (Some d) pt body
    → put_at 1 (put_at 4 (gapped (at + 18) (at + 26) e 0 pg) (at + 4) n) (at + 17) 0
    ≡ pad 4096 (spliced at (at + cell_size (Some d) pt (length body)) e (cell_bytes key creator None pt body) pg)
unfolding cell_bytes spliced
cell-cleared at e n key creator d pt body pg len h k i q =
    let N = 9 + stamp_len (Some d) + pointer_len pt + length body in
    let m = pointer_len pt + length body in
    let rest = pointer_bytes pt ++ body in
    let size : cell_size (Some d) pt (length body) ≡ 17 + (9 + m) = omega arith in
    let next = at + cell_size (Some d) pt (length body) in
    let lh = length-head key N creator in
    let q₀ : part at (17 + (9 + m)) pg ≡ head_bytes key N creator ++ (stamp_bytes (Some d) ++ rest) = rw size at q in
    let q₁ = part-first at 17 (9 + m) (head_bytes key N creator) (stamp_bytes (Some d) ++ rest) pg lh q₀ in
    let q₂ = part_peel at 17 (9 + m) (head_bytes key N creator) (stamp_bytes (Some d) ++ rest) pg lh q₀ in
    let ls : length (stamp_bytes (Some d)) ≡ 9 = rw length-bytes_le in
    let j : at + 17 + 9 ≡ at + 26 = omega arith in
    let q₃ : part (at + 26) m pg ≡ rest = rw j at (part_peel (at + 17) 9 m (stamp_bytes (Some d)) rest pg ls q₂) in
    let g = gapped (at + 18) (at + 26) e 0 pg in
    let lg : length g ≡ 4096 = length_closed (at + 18) (at + 26) e pg len (omega arith) (omega arith) k in
    let x = head_bytes key n creator ++ (0 ∷ []) in
    let lx : length x ≡ 18 = rw (length-append, length-head) in
    let stored : put_at 1 (put_at 4 g (at + 4) n) (at + 17) 0 ≡ pad 4096 (spliced at (at + 26) e x pg)
    = head-cleared at key creator N g n (omega arith) (part_closed (at + 18) (at + 26) e pg len (omega arith) (omega arith) k at 17 (omega arith) ∙ q₁)
    ∙ gap_filled at (at + 18) (at + 26) e 0 x pg len (omega arith) (omega arith) (omega arith) (omega arith) (omega arith) (omega arith) in
    stored ∙ ap (pad 4096) (more next m rest q₃ (omega arith) (omega arith))
  where
    more : (next m : ℕ) (rest : List ℕ) → part (at + 26) m pg ≡ rest → next ≡ at + 26 + m → next ≤ e
        → spliced at (at + 26) e (head_bytes key n creator ++ (0 ∷ [])) pg ≡ spliced at next e (head_bytes key (10 + pointer_len pt + length body) creator ++ ((0 ∷ []) ++ rest)) pg
    more next m rest r f l =
        let u : e - (at + 26) ≡ m + (e - next) = omega arith in
        rw (i, u, part_add (at + 26) m (e - next) pg, ← f, r) (simp append_assoc)

module _ (c : Cell) (pg : List ℕ) (B : AreBytes pg) (got : cell_at pg c.at ≡ Ok c) (stamped : stamp_len c.version.stamp ≡ 9) where
  -- a stamped cell is long enough
  pub stamped-long : c.at + 27 ≤ c.next
  stamped-long = let e = cell-ends c pg B got refl in let p = pointer_len_lem c.version.pointer in omega arith

  pub stamp_off : (e n : ℕ) → length pg ≡ 4096 → c.next ≤ e → e ≤ 4096 → n ≡ c.next - c.at - 16
      → put_at 1 (put_at 4 (gapped (c.at + 18) (c.at + 26) e 0 pg) (c.at + 4) n) (c.at + 17) 0 ≡ without_stamp e c pg
  unfolding without_stamp
  stamp_off e n len h k i = by_stamp c.version.stamp refl stamped
    where
      by_stamp : (st : Option ℕ) → c.version.stamp ≡ st → stamp_len st ≡ 9
          → put_at 1 (put_at 4 (gapped (c.at + 18) (c.at + 26) e 0 pg) (c.at + 4) n) (c.at + 17) 0
          ≡ pad 4096 (spliced c.at c.next e (cell_bytes c.key c.version.creator None c.version.pointer (body_of c pg)) pg)
      by_stamp None q l = absurd (omega arith)
      by_stamp (Some d) q l =
          let u = cell-ends c pg B got q in
          rw u (cell-cleared c.at e n c.key c.version.creator d c.version.pointer (body_of c pg) pg len (omega arith) k (omega arith) (cell-bytes c pg B got q))

-- ---- rows on a page

-- a page that begins with h, and where the bytes of the rows stand after it
pub record Holds (h : List ℕ) (rs : List Row) (s : List ℕ) : Type 0 where
  pub whole : length s ≡ 4096
  pub head : part 0 (length h) s ≡ h
  pub header : 12 ≤ length h
  pub fits : AllFit rs
  pub room : length h + length (rows_bytes rs) ≤ 4096
  pub there : part (length h) (length (rows_bytes rs)) s ≡ rows_bytes rs

-- a page that is written so
pub written : (h : List ℕ) (rs : List Row) → 12 ≤ length h → AllFit rs → length h + length (rows_bytes rs) ≤ 4096 → Holds h rs (pad 4096 (h ++ rows_bytes rs))
unfolding pad part
written h rs h₀ f room =
    let R = rows_bytes rs in
    let Z = zeros (4096 - length (h ++ R)) in
    let l : length (h ++ R) ≡ length h + length R = length-append h R in
    let z : length Z ≡ 4096 - length (h ++ R) = length-replicate (4096 - length (h ++ R)) 0 in
    record {
      whole = rw (length-append (h ++ R) Z) (omega arith);
      head = rw (append_assoc h R Z, take_at h (R ++ Z) (length h) refl);
      header = h₀;
      fits = f;
      room = room;
      there = rw (append_assoc h R Z, drop_at h (R ++ Z) (length h) refl, take_at R Z (length R) refl);
    }

-- a count over the start of a list
pub count-append : (k : ℕ) (h x : List ℕ) → 8 ≤ length h → with_count k (h ++ x) ≡ with_count k h ++ x
unfolding put_at
count-append k h x l =
    let l₀ : 6 < length h = omega arith in
    let l₁ : 7 < length (set h 6 (k % 256)) = rw length-set (omega arith) in
    rw (set-append_left h x 6 (k % 256) l₀, set-append_left (set h 6 (k % 256)) x 7 (k / 256 % 256) l₁)

pub count-pad : (k : ℕ) (h x : List ℕ) → 8 ≤ length h → with_count k (pad 4096 (h ++ x)) ≡ pad 4096 (with_count k h ++ x)
unfolding pad
count-pad k h x l =
    let Z = zeros (4096 - length (h ++ x)) in
    let n : length (with_count k h ++ x) ≡ length (h ++ x) = rw (length-append, length-append, length-put_at) in
    rw (n, append_assoc h x Z, count-append k h (x ++ Z) l, append_assoc (with_count k h) x Z)

pub count_twice : (j k : ℕ) (h : List ℕ) → with_count k (with_count j h) ≡ with_count k h
unfolding put_at
count_twice j k h = rw (set_comm (set h 6 (j % 256)) 7 6 (j / 256 % 256) (k % 256) (λ (e : 7 ≡ 6). omega arith), set-set, set-set)

module _ {h : List ℕ} {r : Row} {rs : List Row} {s : List ℕ} (p : Holds h (r ∷ rs) s) where
  size-first : length (rows_bytes (r ∷ rs)) ≡ row_size r + length (rows_bytes rs)
  size-first = length-rows r rs

  bytes-first : part (length h) (row_size r + length (rows_bytes rs)) s ≡ row_bytes r ++ rows_bytes rs
  bytes-first = rw size-first at (p.there ∙ rows_cons r rs)

  pub size_row : length (row_bytes r) ≡ row_size r
  size_row = length-cell r.key r.creator r.stamp r.pointer r.body

  -- the first one is read
  pub cell-first : cell_at s (length h) ≡ Ok (cell_of (length h) r.key r.creator r.stamp r.pointer (length r.body))
  cell-first =
      let f = p.fits.0 in
      let l = size-first in
      written-is_read s (length h) r.key r.creator r.stamp r.pointer r.body f.key f.creator f.stamp f.pointer f.body (omega (arith, p.room, p.whole))
      (part-first (length h) (row_size r) (length (rows_bytes rs)) (row_bytes r) (rows_bytes rs) s size_row bytes-first)

  bytes_rest : part (length h + row_size r) (length (rows_bytes rs)) s ≡ rows_bytes rs
  bytes_rest = part_peel (length h) (row_size r) (length (rows_bytes rs)) (row_bytes r) (rows_bytes rs) s size_row bytes-first

  -- with its data
  body-first : part (length h + (17 + stamp_len r.stamp + pointer_len r.pointer)) (length r.body) s ≡ r.body
  unfolding cells_of
  body-first =
      let q = rows_read s (r ∷ rs) (length h) p.fits (omega (arith, p.room, p.whole)) p.there in
      let u = rw cell-first at q in
      let v : row_of s (cell_of (length h) r.key r.creator r.stamp r.pointer (length r.body)) ≡ r = cc in
      ap (λ (x : Row). x.body) v

  -- past it
  pub same_holds : Holds (h ++ row_bytes r) rs s
  same_holds =
      let l = size-first in
      let i : length (h ++ row_bytes r) ≡ length h + row_size r = rw (length-append, size_row) in
      record {
        whole = p.whole;
        head =
            rw (i, part_add 0 (length h) (row_size r) s, p.head, zero-add, part-first (length h) (row_size r) (length (rows_bytes rs)) (row_bytes r) (rows_bytes rs) s size_row bytes-first);
        header = omega (arith, p.header);
        fits = p.fits.1;
        room = omega (arith, p.room);
        there = rw i bytes_rest;
      }

  -- others in its place
  spliced-first : (e : ℕ) (x : List ℕ) → length h + length (rows_bytes (r ∷ rs)) ≡ e → spliced (length h) (length h + row_size r) e x s ≡ h ++ (x ++ rows_bytes rs)
  unfolding spliced
  spliced-first e x q =
      let l = size-first in
      let u : e - (length h + row_size r) ≡ length (rows_bytes rs) = omega arith in
      rw (p.head, u, bytes_rest)

  pub dropped-page : (e k : ℕ) → length h + length (rows_bytes (r ∷ rs)) ≡ e → without (length h) (length h + row_size r) 1 e k s ≡ pad 4096 (with_count (k - 1) h ++ rows_bytes rs)
  unfolding without
  dropped-page e k q = rw (spliced-first e [] q) (count-pad (k - 1) h (rows_bytes rs) (omega (arith, p.header)))

  pub cleared-page : (e : ℕ) → length h + length (rows_bytes (r ∷ rs)) ≡ e
      → without_stamp e (cell_of (length h) r.key r.creator r.stamp r.pointer (length r.body)) s ≡ pad 4096 ((h ++ row_bytes (cleared_row r)) ++ rows_bytes rs)
  unfolding without_stamp
  cleared-page e q = rw (body-first, spliced-first e (row_bytes (cleared_row r)) q) (ap (pad 4096) (sym (append_assoc h (row_bytes (cleared_row r)) (rows_bytes rs))))

-- ---- a leaf that was judged

-- n rows from `at` to e, after h
pub record Standing (h : List ℕ) (rs : List Row) (s : List ℕ) (n at e : ℕ) : Type 0 where
  pub holds : Holds h rs s
  pub starts : length h ≡ at
  pub ends : at + length (rows_bytes rs) ≡ e
  pub count : length rs ≡ n

pub sound_stands : (s : List ℕ) (e : ℕ) → Sound s e → Standing (part 0 12 s) (rows s) s (cell_count s) 12 e
unfolding end_of
sound_stands s e p =
    let whole = p.whole in
    let f = rows_fill s e p in
    let w = split_at s e [] (cells s) p refl in
    let high = w.within in
    let l : length (part 0 12 s) ≡ 12 = length_part 0 12 s (omega arith) in
    let size : length (rows_bytes (rows s)) ≡ e - 12 = omega (arith, f.0) in
    record {
      holds = record { whole = whole; head = rw l; header = omega arith; fits = f.2; room = omega (arith, f.0); there = rw (l, size) w.back };
      starts = l;
      ends = f.0;
      count = f.1;
    }

-- ---- from cell to cell

-- what is left to look at: n cells, from `at` to e
pub record Left (n at e : ℕ) (s : List ℕ) : Type 0 where
  pub head : List ℕ
  pub rs : List Row
  pub stands : Standing head rs s n at e

-- past the cell c, whatever becomes of it
pub record Next (n at e : ℕ) (s : List ℕ) (c : Cell) : Type 0 where
  pub here : c.at ≡ at
  pub got : cell_at s c.at ≡ Ok c
  pub low : 12 ≤ at
  pub long : at + 19 ≤ c.next
  pub inside : c.next ≤ e
  pub high : e ≤ 4096
  pub same : Left (n - 1) c.next e s
  pub dropped : (k : ℕ) → Left (n - 1) at (e - (c.next - c.at)) (without at c.next 1 e k s)
  pub cleared : stamp_len c.version.stamp ≡ 9 → Left (n - 1) (c.next - 8) (e - 8) (without_stamp e c s)

pub left-next : (n at e : ℕ) (s : List ℕ) {r : Result Cell CellFault} {c : Cell} → Left n at e s → 0 < n → r ≡ cell_at s at → r ≡ Ok c → Next n at e s c
left-next n at e s {r} {c} l pos asked got = by_rows l.head l.rs l.stands
  where
    by_rows : (h : List ℕ) (rs : List Row) → Standing h rs s n at e → Next n at e s c
    by_rows h [] t = absurd (omega (arith, t.count))
    by_rows h (r ∷ rs) t =
        let p = t.holds in
        let starts = t.starts in
        let ends = t.ends in
        let count = t.count in
        let room = p.room in
        let header = p.header in
        let size = length-rows r rs in
        let there : cell_at s (length h) ≡ Ok c = rw starts (sym asked ∙ got) in
        let cell = cell_of (length h) r.key r.creator r.stamp r.pointer (length r.body) in
        let c-is : c ≡ cell = (let u : Ok c ≡ Ok cell = sym there ∙ cell-first p in cc) in
        let next-is : c.next ≡ length h + row_size r = ap (λ (x : Cell). x.next) c-is in
        let at_is : c.at ≡ length h = ap (λ (x : Cell). x.at) c-is in
        let stamp-is : c.version.stamp ≡ r.stamp = ap (λ (x : Cell). x.version.stamp) c-is in
        let lens = stamp_len_lem r.stamp in
        let lenp = pointer_len_lem r.pointer in
        let all : length h + length (rows_bytes (r ∷ rs)) ≡ e = omega arith in
        record {
          here = omega arith;
          got = ap (cell_at s) at_is ∙ there;
          low = omega arith;
          long = omega arith;
          inside = omega arith;
          high = omega arith;
          same =
              let l : length (h ++ row_bytes r) ≡ length h + row_size r = rw (length-append, size_row p) in
              record { head = h ++ row_bytes r; rs = rs; stands = record { holds = same_holds p; starts = omega arith; ends = omega arith; count = omega arith } };
          dropped =
              λ k.
              let l : length (with_count (k - 1) h) ≡ length h = length-put_at 2 h 6 (k - 1) in
              let page : without at c.next 1 e k s ≡ pad 4096 (with_count (k - 1) h ++ rows_bytes rs)
              = ap₂ (λ (x y : ℕ). without x y 1 e k s) (sym starts) next-is ∙ dropped-page p e k all in
              let held : Holds (with_count (k - 1) h) rs (without at c.next 1 e k s)
              = subst (Holds (with_count (k - 1) h) rs) (sym page) (written (with_count (k - 1) h) rs (omega arith) p.fits.1 (omega arith)) in
              record { head = with_count (k - 1) h; rs = rs; stands = record { holds = held; starts = omega arith; ends = omega arith; count = omega arith } };
          cleared =
              λ nine.
              let h₁ = h ++ row_bytes (cleared_row r) in
              let short : stamp_len r.stamp ≡ 9 = rw stamp-is at nine in
              let l : length h₁ ≡ length h + row_size (cleared_row r) = rw (length-append, length-cell r.key r.creator None r.pointer r.body) in
              let page : without_stamp e c s ≡ pad 4096 (h₁ ++ rows_bytes rs) = ap (λ (x : Cell). without_stamp e x s) c-is ∙ cleared-page p e all in
              let held : Holds h₁ rs (without_stamp e c s) = subst (Holds h₁ rs) (sym page) (written h₁ rs (omega arith) p.fits.1 (omega arith)) in
              record { head = h₁; rs = rs; stands = record { holds = held; starts = omega arith; ends = omega arith; count = omega arith } };
        }

-- a stamp is cleared only where there is one
pub cleared-stamped : (st : ℕ → ℕ) (bound creator : ℕ) (stamp : Option ℕ) {f : Fate} → f ≡ fate st bound creator stamp → f ≡ Fate.Cleared → stamp_len stamp ≡ 9
unfolding fate aborted_deleter of_deleter
cleared-stamped st bound creator (Some d) e q = refl
cleared-stamped st bound creator None e q = by_drop (dropped st bound creator None) (sym e ∙ q)
  where
    by_drop : (b : Bool) → pick b Fate.Dropped Fate.Same ≡ Fate.Cleared → ◌≡◌ {A = ℕ} 1 9
    by_drop true t = absurd (let z : ◌≡◌ {A = ℕ} 0 1 = cc in omega arith)
    by_drop false t = absurd (let z : ◌≡◌ {A = ℕ} 0 1 = cc in omega arith)

-- what the loop does with a cell
module _ (st : ℕ → ℕ) (bound at e k d : ℕ) (b : Bool) (pg : List ℕ) where
  pub sweep-done : (n : ℕ) → n ≤ 0 → sweep st bound n at e k d b pg ≡ record { page = pg; told = record { dropped = d; changed = b } }
  unfolding sweep
  sweep-done zero h = refl
  sweep-done (suc n) h = absurd (omega arith)

  pub sweep_bad : (n : ℕ) {r : Result Cell CellFault} {kind : CellFault} → r ≡ cell_at pg at → r ≡ Err kind
      → sweep st bound n at e k d b pg ≡ record { page = pg; told = record { dropped = d; changed = b } }
  unfolding sweep
  sweep_bad zero asked got = refl
  sweep_bad (suc n) asked got = rw (sym asked ∙ got)

  module _ {r : Result Cell CellFault} {c : Cell} {f : Fate} (asked : r ≡ cell_at pg at) (got : r ≡ Ok c)
      (told : f ≡ fate st bound c.version.creator c.version.stamp) where
    pub sweep-same : (n : ℕ) → 0 < n → f ≡ Fate.Same → sweep st bound (n - 1) c.next e k d b pg ≡ sweep st bound n at e k d b pg
    unfolding sweep
    sweep-same zero h q = absurd (omega arith)
    sweep-same (suc n) h q = let m : suc n - 1 ≡ n = omega arith in rw (m, sym asked ∙ got, sym told ∙ q)

    pub sweep-dropped : (n : ℕ) {pg₁ : List ℕ} → 0 < n → f ≡ Fate.Dropped → pg₁ ≡ without at c.next 1 e k pg
        → sweep st bound (n - 1) at (e - (c.next - c.at)) (k - 1) (d + 1) true pg₁ ≡ sweep st bound n at e k d b pg
    unfolding sweep
    sweep-dropped zero h q p = absurd (omega arith)
    sweep-dropped (suc n) h q p = let m : suc n - 1 ≡ n = omega arith in rw (m, sym asked ∙ got, sym told ∙ q, p)

    pub sweep-cleared : (n : ℕ) {pg₁ : List ℕ} → 0 < n → f ≡ Fate.Cleared → pg₁ ≡ without_stamp e c pg
        → sweep st bound (n - 1) (c.next - 8) (e - 8) k d true pg₁ ≡ sweep st bound n at e k d b pg
    unfolding sweep
    sweep-cleared zero h q p = absurd (omega arith)
    sweep-cleared (suc n) h q p = let m : suc n - 1 ≡ n = omega arith in rw (m, sym asked ∙ got, sym told ∙ q, p)
