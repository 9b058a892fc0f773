-- The walk along the chain that gathers the listed rows: the ways out of the walk that measures the listing, and of the one
-- that writes it. Both carry the rows that were gathered so far. Assumes nothing.
use Rattle.std.proofs.Common.{Result, Ok, Err}
use mathlib.Core.Path.{◌≡◌, refl, sym, ap, ◌∙◌}
use mathlib.Core.Bool.{Bool, true, false}
use mathlib.Core.List.{List, [], ◌++◌}
use Prim.Native.Nat.{ℕ, zero, suc, ◌+◌, ◌-◌, ◌*◌, ◌≤◌, ◌<◌}
use native.Mathlib.Omega.{arith}
use lib.Dec.{ltb, eqb}
use lib.ListN.{length, length-append}
use Rattle.store.specs.Pick.{pick}
use Rattle.store.specs.Le.{AreBytes}
use Rattle.store.specs.Part.{put}
use Rattle.page.specs.Page.{page}
use Rattle.page.specs.Header.{next_leaf}
use Rattle.row.specs.declared.Fault.{Fault}
use Rattle.row.specs.Fault.{structural}
use Rattle.leaf.specs.Cells.{cells_of, cells, judge_leaf, on_judged}
use Rattle.leaf.specs.Rows.{Row, rows_of, rows}
use Rattle.leaf.specs.declared.find.Run.{Run}
use Rattle.tree.specs.Chain.{stop, go, broken, on_seen, along}
use Rattle.list_records.specs.Records.{records}
use Rattle.list_versions.specs.Gather.{wanted, ends, look_rows, rows_along}
use Rattle.list_versions.specs.Steps.Gather.{rows_told, IsOk, size_told, run_of, again_of}
use Rattle.list_versions.specs.declared.Which.{Which}
use Rattle.list_versions.specs.declared.Again.{Again}
use Rattle.store.proofs.PutLaws.{put_nil, length-put, put-after_at}
use Rattle.leaf.proofs.Bytes.{bytes-page}
use Rattle.tree.proofs.Ways.{along_again, along_unused, along_bad, along-last, along-end, along_on}
use Rattle.list_versions.proofs.Recorded.{records-append}
use Rattle.list_versions.proofs.Running.{Measures, Gives, run-broken, run-told, gives_again}

length_more : (xs ys : List Row) → length (records (xs ++ ys)) ≡ length (records xs) + length (records ys)
length_more xs ys = rw (records-append, length-append)

-- ---- what one leaf says of the walk

module _ {which : Which} {p : ℕ} {pg : List ℕ} {from count : ℕ} {last : Bool} (rs : List Row) (g : Gives which p pg from count last) where
  seen_last : last ≡ true → look_rows which rs p pg ≡ stop (rs ++ wanted which (rows pg))
  seen_last t = g.seen rs ∙ rw t

  seen_more : last ≡ false → look_rows which rs p pg ≡ go (rs ++ wanted which (rows pg))
  seen_more t = g.seen rs ∙ rw t

-- ---- measuring

pub record Measured (which : Which) (used first : ℕ) (s : List ℕ) (p size left : ℕ) : Type 0 where
  pub got : List Row
  pub same : along s used p (look_rows which) left got ≡ along s used first (look_rows which) used []
  pub size_is : size ≡ length (records got)
  pub room : size + left * 8192 ≤ used * 8192

pub measured_start : (which : Which) (used first : ℕ) (s : List ℕ) {m : ℕ} → m ≡ used → Measured which used first s first 0 m
unfolding records
measured_start which used first s e = rw e (record { got = []; same = refl; size_is = refl; room = omega arith })

module _ (which : Which) (used first : ℕ) (s : List ℕ) (p size left : ℕ) (h : Measured which used first s p size left) where
  pub measured_again : {f : Fault} → left ≤ 0 → f ≡ structural p → Err f ≡ size_told (rows_along s used first which)
  unfolding rows_along
  measured_again z e = ap size_told (along_again (look_rows which) used h.got p s left z e ∙ h.same)

  pub measured_unused : {f : Fault} → 0 < left → used ≤ p → f ≡ structural p → Err f ≡ size_told (rows_along s used first which)
  unfolding rows_along
  measured_unused z l e = ap size_told (along_unused (look_rows which) used h.got p s left z l e ∙ h.same)

  module _ (z : 0 < left) (l : p < used) (B : AreBytes s) {pg : List ℕ} (here : pg ≡ page s p) (len : length pg ≡ 4096) {r : Result (Run × ℕ × Bool) Fault} (said : r ≡ run_of pg p which) where
    pub measured_bad : {f : Fault} → r ≡ Err f → Err f ≡ size_told (rows_along s used first which)
    unfolding rows_along
    measured_bad u = ap size_told (along_bad (look_rows which) used h.got p s l here left z (run-broken which p pg h.got said u) ∙ h.same)

    module _ {run : Run} {e : ℕ} {last : Bool} (u : r ≡ Ok (run, e, last)) where
      told : Measures run (wanted which (rows pg)) × Gives which p pg run.from run.count last
      told = run-told which p pg (rw here (bytes-page p s B)) len said u

      pub measured_run : Measures run (wanted which (rows pg))
      measured_run = told.0

      more : size + (run.to - run.from) + 6 * run.count ≡ length (records (h.got ++ wanted which (rows pg)))
      more = omega (arith, h.size_is, told.0.size, length_more h.got (wanted which (rows pg)))

      pub measured_last : last ≡ true → Ok (size + (run.to - run.from) + 6 * run.count) ≡ size_told (rows_along s used first which)
      unfolding rows_along
      measured_last t = rw more (ap size_told (along-last (look_rows which) used h.got p s l here left z (seen_last h.got told.1 t) ∙ h.same))

      module _ {n : ℕ} (t : last ≡ false) (next : n ≡ next_leaf pg) where
        pub measured_end : n ≡ 0 → Ok (size + (run.to - run.from) + 6 * run.count) ≡ size_told (rows_along s used first which)
        unfolding rows_along
        measured_end q = rw more (ap size_told (along-end (look_rows which) used h.got p s l here left z (seen_more h.got told.1 t) next q ∙ h.same))

        pub measured_on : {k : ℕ} → left ≡ suc k → (n ≡ 0 → ⊥) → Measured which used first s n (size + (run.to - run.from) + 6 * run.count) k
        measured_on v q =
            let m = told.0 in
            record {
              got = h.got ++ wanted which (rows pg);
              same = along_on (look_rows which) used h.got p s l here left v (seen_more h.got told.1 t) next q ∙ h.same;
              size_is = more;
              room = omega (arith, h.room);
            }

-- ---- a walk that goes well: each leaf that it meets is sound, and what it has is among what it gives

record Met (which : Which) (p : ℕ) (pg : List ℕ) (rs all : List Row) : Type 0 where
  end : ℕ
  judged : judge_leaf pg p ≡ Ok end
  within : length (records (rs ++ wanted which (rows pg))) ≤ length (records all)

module _ (which : Which) (used : ℕ) (s : List ℕ) (all : List Row) where
  walk-met : (m p : ℕ) (rs : List Row) → ((p : ℕ) (rs : List Row) → along s used p (look_rows which) m rs ≡ Ok all → length (records rs) ≤ length (records all))
      → along s used p (look_rows which) (suc m) rs ≡ Ok all → Met which p (page s p) rs all
  unfolding along
  walk-met m p rs ih h = by_used (ltb p used) h
    where
      x : List Row
      x = rs ++ wanted which (rows (page s p))

      rest : List Row → Result (List Row) Fault
      rest b = pick (eqb (next_leaf (page s p)) 0) (Ok b) (along s used (next_leaf (page s p)) (look_rows which) m b)

      by_next : (b : Bool) → pick b (Ok x) (along s used (next_leaf (page s p)) (look_rows which) m x) ≡ Ok all → length (records x) ≤ length (records all)
      by_next true q = let e : x ≡ all = cc in rw e (omega arith)
      by_next false q = ih (next_leaf (page s p)) x q

      by_end : (b : Bool) → on_seen (λ b. Ok b) rest (λ f. Err f) (pick b (stop x) (go x)) ≡ Ok all → length (records x) ≤ length (records all)
      by_end true q = let e : x ≡ all = cc in rw e (omega arith)
      by_end false q = by_next (eqb (next_leaf (page s p)) 0) q

      by_judged : (j : Result ℕ Fault) → judge_leaf (page s p) p ≡ j
          → on_seen (λ b. Ok b) rest (λ f. Err f) (on_judged (λ e. pick (ends which (cells (page s p))) (stop x) (go x)) (λ f. broken f) j) ≡ Ok all → Met which p (page s p) rs all
      by_judged (Err f) t q = absurd (cc)
      by_judged (Ok e) t q = record { end = e; judged = t; within = by_end (ends which (cells (page s p))) q }

      by_used : (b : Bool) → pick b (on_seen (λ b. Ok b) rest (λ f. Err f) (look_rows which rs p (page s p))) (Err (structural p)) ≡ Ok all → Met which p (page s p) rs all
      by_used true q = by_judged (judge_leaf (page s p) p) refl q
      by_used false q = absurd (cc)

  walk_grows : (m p : ℕ) (rs : List Row) → along s used p (look_rows which) m rs ≡ Ok all → length (records rs) ≤ length (records all)
  unfolding along
  walk_grows zero p rs h = absurd (cc)
  walk_grows (suc m) p rs h =
      let w = walk-met m p rs (walk_grows m) h in
      omega (arith, w.within, length_more rs (wanted which (rows (page s p))))

  walk_meets : (m p : ℕ) (rs : List Row) → 0 < m → along s used p (look_rows which) m rs ≡ Ok all → Met which p (page s p) rs all
  walk_meets zero p rs z h = absurd (omega arith)
  walk_meets (suc m) p rs z h = walk-met m p rs (walk_grows m) h

-- ---- writing

pub record Copied (which : Which) (used first : ℕ) (s out₀ out : List ℕ) (p o left : ℕ) : Type 0 where
  pub got : List Row
  pub same : along s used p (look_rows which) left got ≡ along s used first (look_rows which) used []
  pub end_is : o ≡ length (records got)
  pub out-is : out ≡ put 0 (records got) out₀
  pub long : length out ≡ length out₀

pub copied_start : (which : Which) (used first : ℕ) (s out : List ℕ) {m : ℕ} → m ≡ used → Copied which used first s out out first 0 m
unfolding records
copied_start which used first s out e = rw e (record { got = []; same = refl; end_is = refl; out-is = sym (put_nil 0 out); long = refl })

not_both : {rs : List Row} {f : Fault} {t : Result (List Row) Fault} → Err f ≡ t → t ≡ Ok rs → ⊥
not_both e q = let z : ◌≡◌ {A = ℕ} 0 1 = cc in omega arith

module _ (which : Which) (used first : ℕ) (s out₀ out : List ℕ) (p o left : ℕ) (h : Copied which used first s out₀ out p o left) (good : IsOk (rows_along s used first which))
    (fits : length (records (rows_told (rows_along s used first which))) ≤ length out₀) where
  abbrev all : List Row
  all = rows_told (rows_along s used first which)

  walks : along s used p (look_rows which) left h.got ≡ Ok all
  unfolding rows_along
  walks = h.same ∙ good

  pub copied_again : left ≤ 0 → ⊥
  copied_again z = not_both (along_again (look_rows which) used h.got p s left z refl) walks

  pub copied_unused : 0 < left → used ≤ p → ⊥
  copied_unused z l = not_both (along_unused (look_rows which) used h.got p s left z l refl) walks

  module _ (z : 0 < left) (l : p < used) (B : AreBytes s) {pg : List ℕ} (here : pg ≡ page s p) (len : length pg ≡ 4096) {a : Again} (said : a ≡ again_of pg p which) where
    met : Met which p pg h.got all
    met = rw here (walk_meets which used s all left p h.got z walks)

    gave : Gives which p pg a.from a.count a.last
    gave = gives_again which p pg (rw here (bytes-page p s B)) len met.judged said

    pub copied_room : (length (cells_of pg a.count a.from) ≡ a.count) × (o + length (records (rows_of pg a.count a.from)) ≤ length out)
    copied_room =
        (gave.all, omega (arith, met.within, length_more h.got (wanted which (rows pg)), ap (λ (rs : List Row). length (records rs)) gave.same, h.end_is, h.long))

    module _ {out₁ : List ℕ} (stored : out₁ ≡ put o (records (rows_of pg a.count a.from)) out) where
      joined : out₁ ≡ put 0 (records (h.got ++ wanted which (rows pg))) out₀
      joined =
          stored
          ∙ rw (gave.same, h.out-is, records-append h.got (wanted which (rows pg)))
          (put-after_at 0 o (records h.got) (records (wanted which (rows pg))) out₀ (omega arith) (omega (arith, h.end_is)))

      finished : Ok (h.got ++ wanted which (rows pg)) ≡ along s used p (look_rows which) left h.got → out₁ ≡ put 0 (records all) out₀
      finished e = joined ∙ ap (λ (rs : List Row). put 0 (records rs) out₀) (ap rows_told (e ∙ walks))

      pub copied_last : a.last ≡ true → out₁ ≡ put 0 (records (rows_told (rows_along s used first which))) out₀
      copied_last t = finished (along-last (look_rows which) used h.got p s l here left z (seen_last h.got gave t))

      module _ {n : ℕ} (t : a.last ≡ false) (next : n ≡ next_leaf pg) where
        pub copied_end : n ≡ 0 → out₁ ≡ put 0 (records (rows_told (rows_along s used first which))) out₀
        copied_end q = finished (along-end (look_rows which) used h.got p s l here left z (seen_more h.got gave t) next q)

        pub copied_on : {o₁ k : ℕ} → left ≡ suc k → (n ≡ 0 → ⊥) → o₁ ≡ o + length (records (rows_of pg a.count a.from)) → Copied which used first s out₀ out₁ n o₁ k
        copied_on v q w =
            record {
              got = h.got ++ wanted which (rows pg);
              same = along_on (look_rows which) used h.got p s l here left v (seen_more h.got gave t) next q ∙ h.same;
              end_is = omega (arith, w, h.end_is, length_more h.got (wanted which (rows pg)), ap (λ (rs : List Row). length (records rs)) gave.same);
              out-is = joined;
              long = ap length stored ∙ (length-put o (records (rows_of pg a.count a.from)) out copied_room.1 ∙ h.long);
            }
