-- The second pass gives the listing of section 4 where no key falls, and never more bytes than all versions have. Assumes nothing.
use Rattle.row.specs.declared.Fault.{Fault}
use Rattle.std.proofs.Common.{Ok, Result, Err}
use mathlib.Core.Path.{◌≡◌, refl, sym, ap, ◌∙◌}
use mathlib.Core.Bool.{Bool, true, false}
use mathlib.Core.List.{List, [], ◌∷◌, ◌++◌, append_assoc, append-nil}
use Prim.Native.Nat.{ℕ, ◌+◌, ◌*◌, ◌-◌, ◌<◌}
use native.Mathlib.Omega.{arith}
use lib.ListN.{length-append}
use Rattle.store.specs.Le.{AreBytes}
use Rattle.store.specs.Part.{part}
use Rattle.store.specs.Pick.{pick}
use Rattle.page.specs.Page.{page}
use Rattle.row.specs.Read.{cell_at}
use Rattle.row.specs.Write.{record_bytes}
use Rattle.row.specs.declared.Cell.{Cell}
use Rattle.mvcc.specs.Rules.{visible}
use Rattle.leaf.specs.Cells.{cells, fold_cells}
use Rattle.leaf.specs.Rows.{Row, row_of}
use Rattle.list_records.specs.Records.{records}
use Rattle.list_visible.specs.Visible.{chain_rows, visible_rows, entered_row, newest_each, scan_rows}
use Rattle.list_visible.specs.Steps.Fast.{chosen_of, step_from, scanned, scan_leaf, start_scan, wait_bytes, pushed_by, pushed, pushed_all, Pass, look_pass, pass_along}
use Rattle.list_visible.specs.Steps.ScanFacts.{FastIs, FastLists}
use Rattle.mvcc.specs.Snapshot.{Snapshot}
use Rattle.list_visible.proofs.Beside.{Alike, Judging, rows_beside}
use Rattle.list_visible.proofs.Choosing.{scan_snoc}
use Rattle.list_visible.proofs.Standing.{cell-record}
use Rattle.list_visible.proofs.Falling.{last_of}
use Rattle.list_visible.proofs.Pushing.{VersionIs, lists_none, lists_all, Kept, step_kept, skip_kept}

-- a cell by its place in the pool is its row
version_is : (p : ℕ) (c : Cell) (s : List ℕ) → AreBytes s → cell_at (page s p) c.at ≡ Ok c → VersionIs s (chosen_of p c) (row_of (page s p) c)
version_is p c s B e =
    let n : p * 4096 + c.next - (p * 4096 + c.at) ≡ c.next - c.at = omega arith in
    record { key-is = refl; creator-is = refl; bytes_are = cell-record p c s e B ∙ ap (λ (k : ℕ). record_bytes 1 (part (p * 4096 + c.at) k s)) (sym n) }

module _ (sn : Snapshot) (st : ℕ → ℕ) (s : List ℕ) where
  -- one cell in the pass
  abbrev gather : ℕ → Pass → Cell → Pass
  gather p a x = record { scan = scanned sn st p a.scan x; bytes = a.bytes ++ pushed sn st p a.scan x s }

  gathered : (p : ℕ) (cs : List Cell) (a : Pass)
      → fold_cells (gather p) a cs ≡ record { scan = fold_cells (scanned sn st p) a.scan cs; bytes = a.bytes ++ pushed_all sn st p a.scan cs s }
  unfolding fold_cells pushed_all
  gathered p [] a = rw append-nil
  gathered p (x ∷ cs) a =
      gathered p cs (gather p a x)
      ∙ rw (append_assoc a.bytes (pushed sn st p a.scan x s) (pushed_all sn st p (scanned sn st p a.scan x) cs s))

  judging_pass : Judging (look_pass s sn st) (λ p a. fold_cells (gather p) a (cells (page s p))) s
  unfolding scan_leaf
  judging_pass a p = rw (gathered p (cells (page s p)) a)

  module _ (used : ℕ) (B : AreBytes s) where
    abbrev Held : List Row → Pass → Type 0
    Held rs a = Kept s rs (scan_rows sn st rs) a.scan.wait a.bytes

    held_more : (p : ℕ) (c : Cell) (rs : List Row) (a : Pass) → p < used → cell_at (page s p) c.at ≡ Ok c → Held rs a → Held (rs ++ (row_of (page s p) c ∷ [])) (gather p a c)
    unfolding scanned pushed
    held_more p c rs a h e k = rw (scan_snoc sn st rs r) (by_seen (visible sn st c.version.creator c.version.stamp))
      where
        r : Row
        r = row_of (page s p) c

        chosen : List Row
        chosen = scan_rows sn st rs

        by_seen : (b : Bool)
            → Kept s (rs ++ (r ∷ [])) (pick b (entered_row r chosen) chosen) (pick b (step_from a.scan.wait a.scan (chosen_of p c)) a.scan).wait
            (a.bytes ++ pick b (pushed_by a.scan.wait (chosen_of p c) s) [])
        by_seen true = step_kept s rs chosen (chosen_of p c) r (version_is p c s B e) a.scan.wait a.scan a.bytes refl k
        by_seen false = skip_kept s rs chosen (chosen_of p c) r (version_is p c s B e) a.scan.wait a.bytes k

    pass_holds : (p : ℕ) → Alike Held (chain_rows s used p) (pass_along s used p sn st)
    unfolding pass_along scan_rows visible_rows newest_each records last_of
    pass_holds p =
        rows_beside (look_pass s sn st) gather used s judging_pass Held held_more p (record { scan = start_scan; bytes = [] })
        (record { few = omega arith; lists = λ f. lists_none s })

pub fast_lists : FastLists
fast_lists sn st used p s rs B room e = by_told (pass_along s used p sn st) refl (rw e at (pass_holds sn st s used B p))
  where
    by_told : (t : Result Pass Fault) → pass_along s used p sn st ≡ t → Alike (Held sn st s used B) (Ok rs) t → FastIs sn st used p s rs
    by_told (Err f) q h = absurd h
    by_told (Ok a) q h =
        record {
          end = a;
          pass = q;
          bytes = λ f. rw q (lists_all s (last_of 0 rs) (scan_rows sn st rs) a.scan.wait a.bytes (h.lists f));
          few = rw (q, length-append a.bytes (wait_bytes a.scan.wait s)) h.few;
        }
