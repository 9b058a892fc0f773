-- The edits of a leaf said over rows: proofs of the statements of specs/EditFacts. Assumes nothing.
use mathlib.Core.Path.{◌≡◌, refl, sym, ap, ◌∙◌, subst}
use mathlib.Core.Bool.{Bool, not}
use mathlib.Core.List.{List, [], ◌∷◌, ◌++◌, map, map-append, append_assoc, append-nil}
use Prim.Native.Nat.{ℕ, zero, suc, ◌+◌, ◌-◌}
use native.Mathlib.Omega.{arith}
use lib.ListN.{length, take, drop, length-append, length-map, take-append-drop}
use Rattle.store.specs.Part.{part, pad, spliced}
use Rattle.page.specs.Header.{cell_count}
use Rattle.row.specs.declared.Cell.{Cell}
use Rattle.leaf.specs.Cells.{cells}
use Rattle.leaf.specs.Rows.{Row, row_of, rows, row_bytes, rows_bytes, write_rows, only, of_key}
use Rattle.leaf.specs.Place.{place_of}
use Rattle.leaf.specs.RowFacts.{Sound}
use Rattle.leaf.specs.declared.find.Run.{Run}
use Rattle.leaf_edit.specs.Edit.{with_cell, with_stamp, without}
use Rattle.leaf_edit.specs.EditFacts.{InsertInserts, StampStamps, OutIsOut, insert_row, stamp_row, bytes_of}
use Rattle.store.proofs.PartLaws.{length_part}
use Rattle.row.proofs.Exact.{cell_placed}
use Rattle.leaf.proofs.Rowing.{end_of, rows_append}
use Rattle.leaf.proofs.Chain.{Chain, chain-cells, chain-right, end-append, judged-leaf, Split, split_at}
use Rattle.leaf.proofs.Placed.{place_split}
use Rattle.leaf.proofs.Running.{RunIs}
use Rattle.leaf.proofs.RowFacts.{head-length, count_kept, rows_fill}
use Rattle.leaf_edit.proofs.Editing.{spliced-is}

take-map : (f : Cell → Row) (i : ℕ) (cs : List Cell) → take i (map f cs) ≡ map f (take i cs)
take-map f zero cs = refl
take-map f (suc i) [] = refl
take-map f (suc i) (c ∷ cs) = ap (λ (l : List Row). f c ∷ l) (take-map f i cs)

drop-map : (f : Cell → Row) (i : ℕ) (cs : List Cell) → drop i (map f cs) ≡ map f (drop i cs)
drop-map f zero cs = refl
drop-map f (suc i) [] = refl
drop-map f (suc i) (c ∷ cs) = drop-map f i cs

-- rows between two places
spliced-rows : (a b e : ℕ) (pg x : List ℕ) (front new back : List Row) → part 0 a pg ≡ part 0 12 pg ++ rows_bytes front → rows_bytes new ≡ x → part b (e - b) pg ≡ rows_bytes back
    → spliced a b e x pg ≡ part 0 12 pg ++ rows_bytes (front ++ (new ++ back))
spliced-rows a b e pg x front new back f g h = rw (spliced-is a b e x pg, f, h, rows_append front (new ++ back), rows_append new back, g) (simp append_assoc)

one_row : (r : Row) → rows_bytes (r ∷ []) ≡ row_bytes r
unfolding rows_bytes
one_row r = append-nil (row_bytes r)

no_rows : rows_bytes [] ≡ []
unfolding rows_bytes
no_rows = refl

-- the bytes of the cells with a new one, and with one stamped, also where they are too many for a page
pub insert-spliced : (pg : List ℕ) (e : ℕ) (r : Row) → Sound pg e
    → spliced (place_of r.key r.creator (cells pg)).at (place_of r.key r.creator (cells pg)).at e (row_bytes r) pg
    ≡ part 0 12 pg ++ rows_bytes (insert_row (place_of r.key r.creator (cells pg)).before r (rows pg))
insert-spliced pg e r sound =
    let cs = cells pg in
    let f = row_of pg in
    let p = place_split pg e r.key r.creator sound in
    let i = p.count in
    let s = p.split in
    rw (p.here, take-map f i cs, drop-map f i cs)
    (spliced-rows (end_of 12 (take i cs)) (end_of 12 (take i cs)) e pg (row_bytes r) (map f (take i cs)) (r ∷ []) (map f (drop i cs)) s.front (one_row r) s.back)

pub length-insert : (i : ℕ) (r : Row) (rs : List Row) → length (insert_row i r rs) ≡ length rs + 1
length-insert i r rs = omega (arith, length-append (take i rs) (r ∷ drop i rs), simp length-append at (ap length (take-append-drop i rs)))

pub insert-inserts : InsertInserts
unfolding with_cell write_rows
insert-inserts pg e r sound fit room =
    let place = place_of r.key r.creator (cells pg) in
    rw (insert-spliced pg e r sound, length-insert place.before r (rows pg), (rows_fill pg e sound).1)

end-one : (at : ℕ) (c : Cell) → end_of at (c ∷ []) ≡ c.next
unfolding end_of
end-one at c = refl

pub stamp-spliced : (pg : List ℕ) (e d : ℕ) (before after : List Cell) (c : Cell) → Sound pg e → cells pg ≡ before ++ (c ∷ after)
    → spliced c.at c.next e (row_bytes (stamp_row d (row_of pg c))) pg
    ≡ part 0 12 pg ++ rows_bytes (map (row_of pg) before ++ (stamp_row d (row_of pg c) ∷ map (row_of pg) after))
stamp-spliced pg e d before after c sound h =
    let f = row_of pg in
    let all : Chain pg 12 (before ++ (c ∷ after)) = subst (Chain pg 12) h (chain-cells pg (cell_count pg) 12) in
    let at_c : c.at ≡ end_of 12 before = (cell_placed pg (end_of 12 before) c (chain-right pg 12 before (c ∷ after) all).0).here in
    let next-c : end_of 12 (before ++ (c ∷ [])) ≡ c.next = end-append 12 before (c ∷ []) ∙ end-one (end_of 12 before) c in
    let s = split_at pg e before (c ∷ after) sound h in
    let t = split_at pg e (before ++ (c ∷ [])) after sound (h ∙ sym (append_assoc before (c ∷ []) after)) in
    let new = stamp_row d (f c) in
    spliced-rows c.at c.next e pg (row_bytes new) (map f before) (new ∷ []) (map f after) (rw at_c s.front) (one_row new) (rw next-c at t.back)

pub stamp-stamps : StampStamps
unfolding with_stamp write_rows
stamp-stamps pg e d before after c sound h room =
    let f = row_of pg in
    let rs = map f before ++ (stamp_row d (f c) ∷ map f after) in
    let n : cell_count pg ≡ length rs
    = omega (arith, length-append (map f before) (stamp_row d (f c) ∷ map f after), length-map before f, length-map after f, simp length-append at (ap length h), (judged-leaf 0 pg e sound.judged).count) in
    ap (pad 4096) (stamp-spliced pg e d before after c sound h) ∙ sym (count_kept pg (rows_bytes rs) sound.whole (length rs) sound.bytes n)

-- where the first cells end, by their bytes
bytes-end : (pg : List ℕ) (e : ℕ) (xs ys : List Cell) → length pg ≡ 4096 → Split pg e xs ys → 12 + bytes_of pg xs ≡ end_of 12 xs
bytes-end pg e xs ys len s =
    omega (arith, simp length-append at (ap length s.front), head-length pg [] len, length_part 0 (end_of 12 xs) pg (omega (arith, s.high, s.within)))

-- cells taken out, by where they start and end
out-there : (pg : List ℕ) (e : ℕ) (before out after : List Cell) → Sound pg e → cells pg ≡ before ++ (out ++ after)
    → without (end_of 12 before) (end_of 12 (before ++ out)) (length out) e (cell_count pg) pg ≡ write_rows (map (row_of pg) before ++ map (row_of pg) after) pg
unfolding without write_rows
out-there pg e before out after sound h =
    let f = row_of pg in
    let there = judged-leaf 0 pg e sound.judged in
    let s = split_at pg e before (out ++ after) sound h in
    let t = split_at pg e (before ++ out) after sound (h ∙ sym (append_assoc before out after)) in
    let front = map f before in
    let back = map f after in
    let n : cell_count pg - length out ≡ length (front ++ back)
    = omega (arith, length-append front back, length-map before f, length-map after f, simp length-append at (ap length h), there.count) in
    rw (n, spliced-rows (end_of 12 before) (end_of 12 (before ++ out)) e pg [] front [] back s.front no_rows t.back)

pub out-is-out : OutIsOut
out-is-out pg e before out after sound h =
    let s = split_at pg e before (out ++ after) sound h in
    let t = split_at pg e (before ++ out) after sound (h ∙ sym (append_assoc before out after)) in
    let a : 12 + bytes_of pg before ≡ end_of 12 before = bytes-end pg e before (out ++ after) sound.whole s in
    let b : 12 + bytes_of pg before + bytes_of pg out ≡ end_of 12 (before ++ out)
    = omega (arith, simp (map-append, rows_append, length-append) at (bytes-end pg e (before ++ out) after sound.whole t)) in
    rw (b, a) (out-there pg e before out after sound h)

-- the run of a key taken out leaves the rows of the others
pub run_out : (pg : List ℕ) (p key e : ℕ) (run : Run) (larger : Bool) → Sound pg e → RunIs pg p key run e larger
    → without run.from run.to run.count e (cell_count pg) pg ≡ write_rows (only (λ r. not (of_key key r)) (rows pg)) pg
run_out pg p key e run larger sound r =
    let to : run.to ≡ end_of 12 (r.before ++ r.out) = sym r.to ∙ (ap (λ (a : ℕ). end_of a r.out) (sym r.from) ∙ sym (end-append 12 r.before r.out)) in
    rw (to, ← r.from, ← r.count, r.others) (out-there pg e r.before r.out r.after sound r.is)
