-- The small functions of the second pass: a visible version waits, or pushes on what waits, whose record is made of the
-- pool's own bytes. Assumes nothing.
use Rattle.std.proofs.Common.{Option, Some, None}
use mathlib.Core.Path.{◌≡◌, refl, sym, ap, ◌∙◌}
use mathlib.Core.Bool.{Bool, true, false}
use mathlib.Core.List.{List}
use Prim.Native.Nat.{ℕ, ◌+◌, ◌-◌, ◌≤◌, ◌<◌}
use native.Mathlib.Omega.{arith}
use borrow.Rule.Slice.PartMut.{mid_of}
use lib.Dec.{ltb, eqb}
use lib.ListN.{length}
use Rattle.store.specs.Part.{part, put}
use Rattle.store.specs.Pick.{pick}
use Rattle.row.specs.Write.{record_bytes}
use Rattle.call_answers.specs.Answer.{written}
use Rattle.list_visible.specs.Steps.Fast.{record_size, waiting_for, step_from, wait_size, wait_bytes, Whole, Waits}
use Rattle.list_visible.specs.declared.pass.Chosen.{Chosen}
use Rattle.list_visible.specs.declared.pass.Scan.{Scan}
use Rattle.store.proofs.PartLaws.{length_part}
use Rattle.store.proofs.PutLaws.{put_nil}
use Rattle.row.proofs.Writing.{length-record}

-- ---- what waits

module _ (wait : Option Chosen) {o : Chosen} (e : wait ≡ Some o) where
  pub whole_at : Whole wait → (o.from ≤ o.to) × (o.to - o.from ≤ 4096)
  whole_at w = rw e at w

  pub size_few : {n : ℕ} → Whole wait → n ≡ record_size o → n ≤ 4102
  unfolding record_size
  size_few w u = let h = whole_at w in rw u (omega (arith, h.1))

pub waits-whole : (wait : Option Chosen) (s : List ℕ) → Waits wait s → Whole wait
waits-whole None s w = tt
waits-whole (Some o) s w = (w.0, w.1)

-- ---- a visible version

-- what waits afterwards: what waited, or the version
pub step_wait : (sc : Scan) (x : Chosen) (P : Option Chosen → Type 0) (wait : Option Chosen) → P sc.wait → P (Some x) → P (step_from wait sc x).wait
step_wait sc x P None old new = new
step_wait sc x P (Some o) old new = by_tests (eqb o.key x.key) (ltb o.creator x.creator)
  where
    by_tests : (a b : Bool) → P (pick a (pick b (waiting_for x sc.size) sc) (waiting_for x (sc.size + record_size o))).wait
    by_tests true true = new
    by_tests true false = old
    by_tests false b = new

-- the length grows by one record at most
pub step_more : (sc : Scan) (x : Chosen) (wait : Option Chosen) → Whole wait → (step_from wait sc x).size ≤ sc.size + 4102
step_more sc x None w = omega arith
step_more sc x (Some o) w = by_tests (eqb o.key x.key) (ltb o.creator x.creator)
  where
    by_tests : (a b : Bool) → (pick a (pick b (waiting_for x sc.size) sc) (waiting_for x (sc.size + record_size o))).size ≤ sc.size + 4102
    by_tests true true = omega arith
    by_tests true false = omega arith
    by_tests false b = omega (arith, w.1)

-- ---- the record of what waits

module _ (o : Chosen) (s : List ℕ) (w : Waits (Some o) s) where
  length_span : length (part o.from (o.to - o.from) s) ≡ o.to - o.from
  length_span = length_part o.from (o.to - o.from) s (omega (arith, w.0, w.2))

  -- its bytes, as the borrow checker says them
  lent : mid_of o.from (o.to - o.from) s ≡ part o.from (o.to - o.from) s
  unfolding part
  lent = refl

pub length_wait : (wait : Option Chosen) (s : List ℕ) → Waits wait s → length (wait_bytes wait s) ≡ wait_size wait
length_wait None s w = refl
length_wait (Some o) s w = length-record 1 (part o.from (o.to - o.from) s) ∙ ap (λ (n : ℕ). 6 + n) (length_span o s w)

-- the two ways out of `write_wait`, and what it asks
module _ (a : ℕ) (wait : Option Chosen) (s : List ℕ) where
  pub wait_none : (out : List ℕ) → wait ≡ None → out ≡ put a (wait_bytes wait s) out
  wait_none out e = rw e (sym (put_nil a out))

  module _ {o : Chosen} (e : wait ≡ Some o) (w : Waits wait s) where
    pub wait_at : Waits (Some o) s
    wait_at = rw e at w

    pub wait_written : (out : List ℕ) {r : List ℕ} → r ≡ put a (record_bytes 1 (mid_of o.from (o.to - o.from) s)) out → r ≡ put a (wait_bytes wait s) out
    wait_written out u = u ∙ rw (e, lent o s wait_at)

    pub wait_fits : {n : ℕ} → a + length (wait_bytes wait s) ≤ n
        → (length (mid_of o.from (o.to - o.from) s) < 65536) × (a + (6 + length (mid_of o.from (o.to - o.from) s)) ≤ n)
    wait_fits h =
        let v = wait_at in
        let l : length (mid_of o.from (o.to - o.from) s) ≡ o.to - o.from = ap length (lent o s v) ∙ length_span o s v in
        let m : length (wait_bytes wait s) ≡ 6 + length (part o.from (o.to - o.from) s) = ap (λ (d : Option Chosen). length (wait_bytes d s)) e ∙ length-record 1 (part o.from (o.to - o.from) s) in
        let n = length_span o s v in
        (omega (arith, v.1), omega arith)

pub both : {A : Type 0} {r a : A} {t b : List ℕ} → r ≡ a → t ≡ b → written r t ≡ written a b
both e u = rw (e, u)
