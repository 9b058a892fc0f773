-- The second pass along a judged chain, measuring or writing: every leaf that is left was judged and has room, and what was
-- gathered is counted and stands at the start of the output. Assumes nothing.
use Rattle.row.specs.declared.CellFault.{CellFault}
use Rattle.std.proofs.Common.{Result, Ok, Err}
use Rattle.row.specs.declared.Fault.{Fault}
use mathlib.Core.Path.{◌≡◌, refl, sym, ap, ◌∙◌}
use mathlib.Core.Bool.{Bool, true, false}
use mathlib.Core.List.{List, [], ◌∷◌, ◌++◌}
use Prim.Native.Nat.{ℕ, zero, suc, ◌+◌, ◌*◌, ◌≤◌, ◌<◌}
use native.Mathlib.Omega.{arith}
use borrow.Author.Tests.{ltb-true}
use lib.Dec.{ltb, eqb}
use lib.ListN.{length, length-append}
use Rattle.store.specs.Part.{put}
use Rattle.store.specs.Pick.{pick}
use Rattle.page.specs.Page.{page}
use Rattle.page.specs.Header.{cell_count, next_leaf}
use Rattle.row.specs.Read.{cell_at}
use Rattle.row.specs.declared.Cell.{Cell}
use Rattle.row.specs.Fault.{structural}
use Rattle.leaf.specs.Cells.{on_cell, cells_of, cells, fold_cells, judge_leaf, on_judged}
use Rattle.tree.specs.Chain.{go, broken, on_seen, along}
use Rattle.call_answers.specs.Answer.{written, Written}
use Rattle.list_visible.specs.Steps.Fast.{scanned, scan_leaf, start_scan, full_size, wait_bytes, pushed_all, pass_leaf, Pass, look_pass, pass_along, pass_bytes, passed, WasJudged, Whole, Waits, Through, PassFits}
use Rattle.list_visible.specs.declared.pass.Scan.{Scan}
use Rattle.mvcc.specs.Snapshot.{Snapshot}
use Rattle.store.proofs.PutLaws.{put_nil, length-put, put-after_at}
use Rattle.page.proofs.PageLaws.{page_short}
use Rattle.row.proofs.Exact.{cell_placed}
use Rattle.tree.proofs.Ways.{along-end, along_on}
use Rattle.list_visible.proofs.Stepping.{waits-whole, length_wait, both}
use Rattle.list_visible.proofs.Measuring.{scanned_more, scanned_wait}
use Rattle.list_visible.proofs.Writing.{cell-waits, scanned-size}

module _ (sn : Snapshot) (st : ℕ → ℕ) (used : ℕ) (s : List ℕ) where
  -- ---- what a leaf does to what waits, and to the length

  record LeafAfter (p at : ℕ) (sc : Scan) (xs : List Cell) : Type 0 where
    waits : Waits (fold_cells (scanned sn st p) sc xs).wait s
    size : (fold_cells (scanned sn st p) sc xs).size ≡ sc.size + length (pushed_all sn st p sc xs s)
    small : (fold_cells (scanned sn st p) sc xs).size + at * 4102 ≤ sc.size + 16801792

  leaf-after : (p : ℕ) → p < used → used * 4096 ≤ length s → (n at : ℕ) (sc : Scan) → at ≤ 4096 → Waits sc.wait s → LeafAfter p at sc (cells_of (page s p) n at)
  unfolding cells_of fold_cells pushed_all
  leaf-after p h room zero at sc l w = record { waits = w; size = omega arith; small = omega arith }
  leaf-after p h room (suc n) at sc l w = by_read (cell_at (page s p) at) refl (λ c d k v. leaf-after p h room n c.next d k v)
    where
      by_read : (r : Result Cell CellFault) → cell_at (page s p) at ≡ r → ((c : Cell) (d : Scan) → c.next ≤ 4096 → Waits d.wait s → LeafAfter p c.next d (cells_of (page s p) n c.next))
          → LeafAfter p at sc (on_cell (λ c. c ∷ cells_of (page s p) n c.next) (λ kind. []) r)
      by_read (Err kind) e ih = record { waits = w; size = omega arith; small = omega arith }
      by_read (Ok c) e ih =
          let a = cell_placed (page s p) at c e in
          let m = page_short p s in
          let low : at + 19 ≤ c.next = omega (arith, a.past_head, a.whole) in
          let d = scanned sn st p sc c in
          let i = ih c d (omega (arith, a.inside)) (scanned_wait sn st p sc c (λ v. Waits v s) w (cell-waits used p at s room h e)) in
          let grows = scanned_more sn st p sc c (waits-whole sc.wait s w) in
          record {
            waits = i.waits;
            size = i.size ∙ rw (scanned-size p s sc sn st c w, length-append) (omega arith);
            small = omega (arith, i.small);
          }

  -- ---- what a judged chain says of its first leaf

  abbrev after : ℕ → Pass → Pass
  after p a =
      record { scan = scan_leaf (page s p) p sn st a.scan; bytes = a.bytes ++ pushed_all sn st p a.scan (cells (page s p)) s }

  record FirstLeaf (p : ℕ) (a e : Pass) : Type 0 where
    in_use : p < used
    sound : WasJudged p (page s p)
    judged : look_pass s sn st a p (page s p) ≡ go (after p a)
    grows : length a.bytes + length (pushed_all sn st p a.scan (cells (page s p)) s) ≤ length e.bytes

  first_leaf : (m : ℕ) (a : Pass) (p : ℕ) {e : Pass} → along s used p (look_pass s sn st) m a ≡ Ok e → FirstLeaf p a e
  unfolding along
  first_leaf zero a p q = absurd (cc)
  first_leaf (suc m) a p {e} q =
      by_cases (ltb p used) refl (judge_leaf (page s p) p) refl (eqb (next_leaf (page s p)) 0) q (λ u. first_leaf m (after p a) (next_leaf (page s p)) u)
    where
      more : ℕ
      more = length (pushed_all sn st p a.scan (cells (page s p)) s)

      by_cases : (t : Bool) → ltb p used ≡ t → (j : Result ℕ Fault) → judge_leaf (page s p) p ≡ j → (z : Bool)
          → pick t
          (on_seen (λ b. Ok b) (λ b. pick z (Ok b) (along s used (next_leaf (page s p)) (look_pass s sn st) m b)) (λ f. Err f) (on_judged (λ i. go (after p a)) (λ f. broken f) j))
          (Err (structural p))
          ≡ Ok e
          → (along s used (next_leaf (page s p)) (look_pass s sn st) m (after p a) ≡ Ok e → FirstLeaf (next_leaf (page s p)) (after p a) e)
          → FirstLeaf p a e
      by_cases false t j i z u ih = absurd (cc)
      by_cases true t (Err f) i z u ih = absurd (cc)
      by_cases true t (Ok n) i true u ih =
          let same : after p a ≡ e = cc in
          let l : length e.bytes ≡ length a.bytes + more = ap (λ (b : Pass). length b.bytes) (sym same) ∙ length-append a.bytes (pushed_all sn st p a.scan (cells (page s p)) s) in
          record { in_use = ltb-true p used t; sound = record { end = n; judged = i }; judged = rw i; grows = omega arith }
      by_cases true t (Ok n) i false u ih =
          let l = length-append a.bytes (pushed_all sn st p a.scan (cells (page s p)) s) in
          record { in_use = ltb-true p used t; sound = record { end = n; judged = i }; judged = rw i; grows = omega (arith, (ih u).grows) }

  -- ---- the loop along the chain

  module _ (first : ℕ) where
    -- m pages left to meet, from page p on
    pub record Passing (m p : ℕ) (sc : Scan) : Type 0 where
      pub bytes : List ℕ
      pub same : along s used p (look_pass s sn st) m (record { scan = sc; bytes = bytes }) ≡ pass_along s used first sn st
      pub size : sc.size ≡ length bytes
      pub waits : Waits sc.wait s
      pub small : sc.size + m * 16801792 ≤ used * 16801792

    pub passing_start : {m : ℕ} → m ≡ used → Passing m first start_scan
    unfolding pass_along
    passing_start e = rw e (record { bytes = []; same = refl; size = refl; waits = tt; small = omega arith })

    module _ {m p : ℕ} {sc : Scan} (through : Through (pass_along s used first sn st) s) (w : Passing m p sc) where
      told : along s used p (look_pass s sn st) m (record { scan = sc; bytes = w.bytes }) ≡ Ok through.pass
      told = w.same ∙ through.judged

      leaf : FirstLeaf p (record { scan = sc; bytes = w.bytes }) through.pass
      leaf = first_leaf m (record { scan = sc; bytes = w.bytes }) p told

      whole : length (pass_bytes s (pass_along s used first sn st)) ≡ length through.pass.bytes + length (wait_bytes through.pass.scan.wait s)
      whole = ap (λ (t : Result Pass Fault). length (pass_bytes s t)) through.judged ∙ length-append through.pass.bytes (wait_bytes through.pass.scan.wait s)

      pub passing_in : p < used
      passing_in = leaf.in_use

      pub passing_sound : WasJudged p (page s p)
      passing_sound = leaf.sound

      pub passing_over : m ≤ 0 → ⊥
      unfolding along
      passing_over h = over m h told
        where
          over : (k : ℕ) → k ≤ 0 → along s used p (look_pass s sn st) k (record { scan = sc; bytes = w.bytes }) ≡ Ok through.pass → ⊥
          over zero l u = cc
          over (suc k) l u = omega arith

      -- with the leaf's records there are not more than all
      pub passing_grows : sc.size + length (pushed_all sn st p sc (cells (page s p)) s) ≤ length (pass_bytes s (pass_along s used first sn st))
      passing_grows = omega (arith, leaf.grows, whole, w.size)

      -- after the leaf
      module _ {d : Scan} (room : used * 4096 ≤ length s) (e : d ≡ scan_leaf (page s p) p sn st sc) where
        abbrev step : Pass
        step = after p (record { scan = sc; bytes = w.bytes })

        record Left : Type 0 where
          size_is : d.size ≡ length step.bytes
          waits-is : Waits d.wait s
          small_is : d.size ≤ sc.size + 16801792

        left_is : Left
        unfolding scan_leaf
        left_is =
            let l = leaf-after p leaf.in_use room (cell_count (page s p)) 12 sc (omega arith) w.waits in
            let k = length-append w.bytes (pushed_all sn st p sc (cells (page s p)) s) in
            let n = ap (λ (x : Scan). x.size) e in
            record { size_is = n ∙ (l.size ∙ rw k (omega (arith, w.size))); waits-is = rw e l.waits; small_is = omega (arith, n, l.small) }

        looked : look_pass s sn st (record { scan = sc; bytes = w.bytes }) p (page s p) ≡ go (record { scan = d; bytes = step.bytes })
        looked = leaf.judged ∙ rw e

        module _ {pg : List ℕ} {n : ℕ} (here : pg ≡ page s p) (next : n ≡ next_leaf pg) where
          pub passing_on : {k : ℕ} → m ≡ suc k → (n ≡ 0 → ⊥) → Passing k n d
          passing_on left z =
              record {
                bytes = step.bytes;
                same = along_on (look_pass s sn st) used _ p s leaf.in_use here m left (rw here looked) next z ∙ w.same;
                size = left_is.size_is;
                waits = left_is.waits-is;
                small = omega (arith, left_is.small_is, w.small);
              }

          module _ (left : 0 < m) (z : n ≡ 0) where
            ended : pass_along s used first sn st ≡ Ok (record { scan = d; bytes = step.bytes })
            ended = sym w.same ∙ sym (along-end (look_pass s sn st) used _ p s leaf.in_use here m left (rw here looked) next z)

            all : length step.bytes + length (wait_bytes d.wait s) ≡ length (pass_bytes s (pass_along s used first sn st))
            all = sym (ap (λ (x : Result Pass Fault). length (pass_bytes s x)) ended ∙ length-append step.bytes (wait_bytes d.wait s))

            -- what is asked of what waits, and the whole length
            pub last-waits : Waits d.wait s
            last-waits = left_is.waits-is

            pub last-whole : Whole d.wait × (d.size ≤ 9223372036854775807)
            last-whole = (waits-whole d.wait s last-waits, omega (arith, left_is.size_is, all, through.few))

            pub last-size : {r : ℕ} → r ≡ full_size d → r ≡ length (pass_bytes s (pass_along s used first sn st))
            last-size u = omega (arith, u, length_wait d.wait s last-waits, left_is.size_is, all)

  -- ---- the same with an output

  module _ (first : ℕ) (out₀ : List ℕ) where
    pub record Putting (m p : ℕ) (sc : Scan) (out : List ℕ) : Type 0 where
      pub passing : Passing first m p sc
      pub so_far : out ≡ put 0 passing.bytes out₀

    pub putting_start : {m : ℕ} → m ≡ used → Putting m first start_scan out₀
    unfolding passing_start
    putting_start e = rw e (record { passing = passing_start first refl; so_far = sym (put_nil 0 out₀) })

    module _ {m p : ℕ} {sc : Scan} {out : List ℕ} (fits : PassFits (pass_along s used first sn st) s out₀) (w : Putting m p sc out) where
      -- the output has its length
      putting_long : length out ≡ length out₀
      putting_long = ap length w.so_far ∙ length-put 0 w.passing.bytes out₀ (omega (arith, passing_grows first fits.through w.passing, fits.room, w.passing.size))

      pub putting_room : sc.size + length (pushed_all sn st p sc (cells (page s p)) s) ≤ length out
      putting_room = omega (arith, passing_grows first fits.through w.passing, fits.room, putting_long)

      pub putting_few : sc.size + length (pushed_all sn st p sc (cells (page s p)) s) ≤ 9223372036854775807
      putting_few = omega (arith, passing_grows first fits.through w.passing, fits.through.few)

      -- after the leaf
      module _ {d : Scan} {t : List ℕ} (room : used * 4096 ≤ length s) (e : written d t ≡ pass_leaf s p sn st sc out) where
        scan-is : d ≡ scan_leaf (page s p) p sn st sc
        unfolding pass_leaf
        scan-is = ap (λ (y : Written Scan). y.answer) e

        abbrev bytes_now : List ℕ
        bytes_now = w.passing.bytes ++ pushed_all sn st p sc (cells (page s p)) s

        out-is : t ≡ put 0 bytes_now out₀
        unfolding pass_leaf
        out-is =
            let y = pushed_all sn st p sc (cells (page s p)) s in
            let b : t ≡ put sc.size y out = ap (λ (z : Written Scan). z.output) e in
            let n : sc.size ≡ 0 + length w.passing.bytes = omega (arith, w.passing.size) in
            b ∙ (ap (λ (x : List ℕ). put sc.size y x) w.so_far ∙ put-after_at 0 sc.size w.passing.bytes y out₀ (omega arith) n)

        module _ {pg : List ℕ} {n : ℕ} (here : pg ≡ page s p) (next : n ≡ next_leaf pg) where
          pub putting_on : {k : ℕ} → m ≡ suc k → (n ≡ 0 → ⊥) → Putting k n d t
          unfolding passing_on
          putting_on left z = record { passing = passing_on first fits.through w.passing room scan-is here next left z; so_far = out-is }

          module _ (left : 0 < m) (z : n ≡ 0) where
            size_now : d.size ≡ 0 + length bytes_now
            size_now = omega (arith, (left_is first fits.through w.passing room scan-is).size_is)

            whole_now : length bytes_now + length (wait_bytes d.wait s) ≡ length (pass_bytes s (pass_along s used first sn st))
            whole_now = all first fits.through w.passing room scan-is here next left z

            same_out : length t ≡ length out₀
            same_out = ap length out-is ∙ length-put 0 bytes_now out₀ (omega (arith, whole_now, fits.room))

            -- what `write_wait` asks, and what it gives
            pub last_asks : Waits d.wait s × (d.size + length (wait_bytes d.wait s) ≤ length t)
            last_asks = (last-waits first fits.through w.passing room scan-is here next left z, omega (arith, size_now, whole_now, fits.room, same_out))

            pub last_full : Whole d.wait × (d.size ≤ 9223372036854775807)
            last_full = last-whole first fits.through w.passing room scan-is here next left z

            module _ {r : List ℕ} (u : r ≡ put d.size (wait_bytes d.wait s) t) where
              pub last-long : length r ≡ length out₀
              last-long = ap length u ∙ (length-put d.size (wait_bytes d.wait s) t last_asks.1 ∙ same_out)

              pub last-is : {l : ℕ} → l ≡ full_size d → written l r ≡ passed (pass_bytes s (pass_along s used first sn st)) out₀
              last-is v =
                  both
                  (last-size first fits.through w.passing room scan-is here next left z v)
                  (u
                  ∙ (ap (λ (x : List ℕ). put d.size (wait_bytes d.wait s) x) out-is
                  ∙ (put-after_at 0 d.size bytes_now (wait_bytes d.wait s) out₀ (omega arith) size_now
                  ∙ sym (ap (λ (x : Result Pass Fault). put 0 (pass_bytes s x) out₀) (ended first fits.through w.passing room scan-is here next left z)))))
