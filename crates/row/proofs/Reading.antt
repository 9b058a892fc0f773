-- The ways out of the reader, one law each, and what a cell that was read gives the caller. Assumes nothing.
use Rattle.std.proofs.Common.{Option, Some, None, Result, Ok, Err}
use Rattle.row.specs.declared.Cell.{Cell}
use Rattle.row.specs.declared.CellFault.{CellFault}
use mathlib.Core.Path.{◌≡◌, refl, sym, ap, ◌∙◌}
use mathlib.Core.Bool.{Bool, true, false, not, ◌&&◌, ◌||◌}
use mathlib.Core.List.{List}
use Prim.Native.Nat.{ℕ, ◌+◌, ◌-◌, ◌≤◌, ◌<◌}
use native.Mathlib.Omega.{arith}
use borrow.Author.Tests.{lt-ltb, le-ltb, le-leb, lt-leb, eq-eqb, ne_eqb, ltb-false}
use lib.Dec.{ltb, eqb}
use lib.ListN.{length}
use Rattle.store.specs.Pick.{pick}
use Rattle.store.specs.Le.{le_at}
use Rattle.page.specs.Key.{rank_at}
use Rattle.row.specs.Read.{stamp_size, pointer_size, stamp_in, pointer_in, pointer_place, data_place, flag_bad, head_fault, data_fault, or_fault, cell_in, payload_at, cell_at}
use Rattle.row.specs.Steps.Read.{head_at, end_of, end_at}
use Rattle.row.specs.declared.Pointer.{Pointer}

-- ---- sizes by a flag

pub stamp-size-none : (f : ℕ) → f ≡ 0 → 1 ≡ stamp_size f
unfolding stamp_size
stamp-size-none f e = rw (eq-eqb _ _ e)

pub stamp-size_by : (f : ℕ) → (f ≡ 0 → ⊥) → 9 ≡ stamp_size f
unfolding stamp_size
stamp-size_by f e = rw (ne_eqb _ _ e)

pub pointer-size-none : (f : ℕ) → f ≡ 0 → 1 ≡ pointer_size f
unfolding pointer_size
pointer-size-none f e = rw (eq-eqb _ _ e)

pub pointer-size_at : (f : ℕ) → (f ≡ 0 → ⊥) → 7 ≡ pointer_size f
unfolding pointer_size
pointer-size_at f e = rw (ne_eqb _ _ e)

size-bounds : (b : Bool) (n : ℕ) → 1 ≤ n → (1 ≤ pick b 1 n) × (pick b 1 n ≤ n)
size-bounds true n h = (omega arith, h)
size-bounds false n h = (h, omega arith)

pub stamp-size : (f : ℕ) → (1 ≤ stamp_size f) × (stamp_size f ≤ 9)
unfolding stamp_size
stamp-size f = size-bounds (eqb f 0) 9 (omega arith)

pub pointer-size : (f : ℕ) → (1 ≤ pointer_size f) × (pointer_size f ≤ 7)
unfolding pointer_size
pointer-size f = size-bounds (eqb f 0) 7 (omega arith)

-- ---- the stamp and the pointer at a place

module _ (s : List ℕ) (i : ℕ) where
  pub stamp-none : le_at 1 s i ≡ 0 → None ≡ stamp_in s i
  unfolding stamp_in
  stamp-none e = rw (eq-eqb _ _ e)

  pub stamp_by : {t : ℕ} → (le_at 1 s i ≡ 0 → ⊥) → t ≡ le_at 8 s (i + 1) → Some t ≡ stamp_in s i
  unfolding stamp_in
  stamp_by e p = rw (ne_eqb _ _ e, p)

  pub pointer_none : le_at 1 s i ≡ 0 → None ≡ pointer_in s i
  unfolding pointer_in
  pointer_none e = rw (eq-eqb _ _ e)

  pub pointer_at : {p t : ℕ} → (le_at 1 s i ≡ 0 → ⊥) → p ≡ le_at 4 s (i + 1) → t ≡ le_at 2 s (i + 5) → Some (record { page = p; slot = t }) ≡ pointer_in s i
  unfolding pointer_in
  pointer_at e p t = rw (ne_eqb _ _ e, p, t)

-- ---- the fields of a payload

module _ (s : List ℕ) (i : ℕ) where
  pub pointer-place : {f n : ℕ} → f ≡ le_at 1 s (i + 9) → n ≡ stamp_size f → i + 9 + n ≡ pointer_place s i
  unfolding pointer_place
  pointer-place p q = rw (q, p)

  pub data_place_lem : {j g n : ℕ} → j ≡ pointer_place s i → g ≡ le_at 1 s j → n ≡ pointer_size g → j + n ≡ data_place s i
  unfolding data_place
  data_place_lem {j} {g} {n} p q r = rw (r, q, p)

  pub places : (i + 10 ≤ pointer_place s i) × (pointer_place s i ≤ i + 18) × (pointer_place s i + 1 ≤ data_place s i) × (data_place s i ≤ pointer_place s i + 7)
  unfolding pointer_place data_place
  places =
      let a = stamp-size (le_at 1 s (i + 9)) in
      let b = pointer-size (le_at 1 s (i + 9 + stamp_size (le_at 1 s (i + 9)))) in
      (omega arith, omega arith, omega arith, omega arith)

module _ (s : List ℕ) (i m : ℕ) where
  flag_off : (k : ℕ) → m ≤ k → flag_bad s k m ≡ false
  unfolding flag_bad
  flag_off k h = rw (le-ltb k m h)

  flag_low : (k : ℕ) → le_at 1 s k ≤ 1 → flag_bad s k m ≡ false
  unfolding flag_bad
  flag_low k h = rw (le-ltb 1 (le_at 1 s k) h) (and_false (ltb k m))
    where
      and_false : (b : Bool) → (b && false) ≡ false
      and_false true = refl
      and_false false = refl

  flag_high : (k : ℕ) → k < m → 1 < le_at 1 s k → flag_bad s k m ≡ true
  unfolding flag_bad
  flag_high k h l = rw (lt-ltb k m h, lt-ltb 1 (le_at 1 s k) l)

  -- the payload has no byte
  pub head_empty : m ≤ i → Err CellFault.Short ≡ head_at s i m
  unfolding head_at head_fault
  head_empty h =
      let p = places s i in
      rw (le-ltb i m h, flag_off (i + 9) (omega arith), flag_off (pointer_place s i) (omega arith), lt-ltb m (data_place s i) (omega arith))

  pub head_format : i < m → (le_at 1 s i ≡ 129 → ⊥) → Err CellFault.Format ≡ head_at s i m
  unfolding head_at head_fault
  head_format h e = rw (lt-ltb i m h, ne_eqb (le_at 1 s i) 129 e)

  module _ (here : i < m) (ok : le_at 1 s i ≡ 129) where
    -- no byte of the stamp
    pub head_no_stamp : m ≤ i + 9 → Err CellFault.Short ≡ head_at s i m
    unfolding head_at head_fault
    head_no_stamp h =
        let p = places s i in
        rw (lt-ltb i m here, eq-eqb (le_at 1 s i) 129 ok, flag_off (i + 9) h, flag_off (pointer_place s i) (omega arith), lt-ltb m (data_place s i) (omega arith))

    pub head-stamp : {f : ℕ} → f ≡ le_at 1 s (i + 9) → i + 9 < m → 1 < f → Err CellFault.Flag ≡ head_at s i m
    unfolding head_at head_fault
    head-stamp q h l = rw (lt-ltb i m here, eq-eqb (le_at 1 s i) 129 ok, flag_high (i + 9) h (rw q at l))

    module _ {f j : ℕ} (at_f : f ≡ le_at 1 s (i + 9)) (low : f ≤ 1) (at_j : j ≡ pointer_place s i) where
      -- no byte of the pointer
      pub head_no_pointer : m ≤ j → Err CellFault.Short ≡ head_at s i m
      unfolding head_at head_fault
      head_no_pointer h =
          let p = places s i in
          rw (lt-ltb i m here, eq-eqb (le_at 1 s i) 129 ok, flag_low (i + 9) (rw at_f at low), flag_off (pointer_place s i) (omega arith), lt-ltb m (data_place s i) (omega arith))

      pub head-pointer : {g : ℕ} → g ≡ le_at 1 s j → j < m → 1 < g → Err CellFault.Flag ≡ head_at s i m
      unfolding head_at head_fault
      head-pointer q h l =
          rw (lt-ltb i m here, eq-eqb (le_at 1 s i) 129 ok, flag_low (i + 9) (rw at_f at low), flag_high (pointer_place s i) (rw at_j at h) (rw (q, at_j) at l))

      module _ {g k : ℕ} (at_g : g ≡ le_at 1 s j) (low₂ : g ≤ 1) (at-k : k ≡ data_place s i) where
        pub head_short : m < k → Err CellFault.Short ≡ head_at s i m
        unfolding head_at head_fault
        head_short h =
            rw (lt-ltb i m here, eq-eqb (le_at 1 s i) 129 ok, flag_low (i + 9) (rw at_f at low), flag_low (pointer_place s i) (rw (at_g, at_j) at low₂), lt-ltb m (data_place s i) (rw at-k at h))

        pub head_got : k ≤ m → Ok (j, k) ≡ head_at s i m
        unfolding head_at head_fault
        head_got h =
            rw (lt-ltb i m here, eq-eqb (le_at 1 s i) 129 ok, flag_low (i + 9) (rw at_f at low), flag_low (pointer_place s i) (rw (at_g, at_j) at low₂), le-ltb m (data_place s i) (rw at-k at h), at_j, at-k)

-- ---- from the fields to the cell

-- what a head that was read says of the payload
pub record HeadIs (s : List ℕ) (i m j k : ℕ) : Type 0 where
  pub sound : head_fault s i m ≡ None
  pub flag : j ≡ pointer_place s i
  pub start : k ≡ data_place s i
  pub within : k ≤ m
  pub after : i + 11 ≤ k
  pub apart : j < k

pub pick_none : (b : Bool) (k : CellFault) {y : Option CellFault} → pick b (Some k) y ≡ None → (b ≡ false) × (y ≡ None)
pick_none true k e = absurd (cc)
pick_none false k e = (refl, e)

pub data_within : (s : List ℕ) (i m : ℕ) → head_fault s i m ≡ None → data_place s i ≤ m
unfolding head_fault
data_within s i m e =
    let c = (pick_none (ltb i m && not (eqb (le_at 1 s i) 129)) _ e).1 in
    let d = (pick_none (flag_bad s (i + 9) m || flag_bad s (pointer_place s i) m) _ c).1 in
    ltb-false m (data_place s i) (pick_none (ltb m (data_place s i)) _ d).0

pub or_fault_ok : {A : Type 0} (f : Option CellFault) (r : Result A CellFault) {x : A} → or_fault f r ≡ Ok x → (f ≡ None) × (r ≡ Ok x)
or_fault_ok None r e = (refl, e)
or_fault_ok (Some k) r e = absurd (cc)

or_bad : {A B : Type 0} (f : Option CellFault) (x : A) {k : CellFault} (r : Result B CellFault) → or_fault f (Ok x) ≡ Err k → Err k ≡ or_fault f r
or_bad None x r e = absurd (cc)
or_bad (Some f) x r e = cc

module _ (s : List ℕ) (i m : ℕ) {r : Result (ℕ × ℕ) CellFault} (is : r ≡ head_at s i m) where
  pub head-is : {j k : ℕ} → r ≡ Ok (j, k) → HeadIs s i m j k
  unfolding head_at
  head-is {j} {k} e =
      let o = or_fault_ok (head_fault s i m) (Ok (pointer_place s i, data_place s i)) (sym is ∙ e) in
      let t : ◌≡◌ {A = ℕ × ℕ} (j, k) (pointer_place s i, data_place s i) = cc (o.1) in
      let p = places s i in
      let j-is : j ≡ pointer_place s i = ap (λ (x : ℕ × ℕ). x.0) t in
      let k-is : k ≡ data_place s i = ap (λ (x : ℕ × ℕ). x.1) t in
      record { sound = o.0; flag = j-is; start = k-is; within = rw k-is (data_within s i m o.0); after = omega arith; apart = omega arith }

module _ (s : List ℕ) (at m : ℕ) where
  pub payload_bad : (past : Bool) {r : Result (ℕ × ℕ) CellFault} {n : CellFault} → r ≡ head_at s (at + 8) m → r ≡ Err n → Err n ≡ payload_at s at m past
  unfolding head_at payload_at
  payload_bad past is e = or_bad (head_fault s (at + 8) m) (pointer_place s (at + 8), data_place s (at + 8)) _ (sym is ∙ e)

  module _ {j k : ℕ} (h : HeadIs s (at + 8) m j k) where
    pub payload_past : {past : Bool} → past ≡ true → Err CellFault.Short ≡ payload_at s at m past
    unfolding payload_at data_fault
    payload_past e = rw (h.sound, e)

    pub payload_long : {past : Bool} → past ≡ false → 4051 < m - k → Err CellFault.Long ≡ payload_at s at m past
    unfolding payload_at data_fault
    payload_long e l = rw (h.sound, e, lt-ltb 4051 (m - data_place s (at + 8)) (rw h.start at l))

    pub payload_cell : {past : Bool} {key t : ℕ} {st : Option ℕ} {pt : Option Pointer} → past ≡ false → m - k ≤ 4051 → key ≡ rank_at s at → t ≡ le_at 8 s (at + 8 + 1)
        → st ≡ stamp_in s (at + 8 + 9) → pt ≡ pointer_in s j
        → Ok (record { at = at; key = key; version = record { creator = t; stamp = st; pointer = pt; start = k; len = m - k }; next = m }) ≡ payload_at s at m past
    unfolding payload_at data_fault cell_in
    payload_cell e l a p q u = rw (h.sound, e, le-ltb 4051 (m - data_place s (at + 8)) (rw h.start at l), a, p, q, u, h.flag, h.start)

-- the stamp and the pointer lie inside the payload
pub stamp-inside : (s : List ℕ) (i : ℕ) {j : ℕ} → j ≡ pointer_place s i → i + 9 + stamp_size (le_at 1 s (i + 9)) ≡ j
unfolding pointer_place
stamp-inside s i e = sym e

pub pointer-inside : (s : List ℕ) (i : ℕ) {j k : ℕ} → j ≡ pointer_place s i → k ≡ data_place s i → j + pointer_size (le_at 1 s j) ≡ k
unfolding data_place
pointer-inside s i e f = rw (f, e)

module _ (s : List ℕ) (at : ℕ) where
  pub cell_short : length s < at + 8 → Err CellFault.Short ≡ cell_at s at
  unfolding cell_at
  cell_short h = rw (lt-leb (at + 8) (length s) h)

  pub cell-past : {r : Result Cell CellFault} → at + 8 ≤ length s → length s - (at + 8) < le_at 4 s (at + 4) → r ≡ payload_at s at (length s) true → r ≡ cell_at s at
  unfolding cell_at
  cell-past h l e = e ∙ rw (le-leb (at + 8) (length s) h, lt-leb (at + 8 + le_at 4 s (at + 4)) (length s) (omega arith))

  pub cell-whole : {n : ℕ} {r : Result Cell CellFault} → at + 8 ≤ length s → n ≡ le_at 4 s (at + 4) → n ≤ length s - (at + 8) → r ≡ payload_at s at (at + 8 + n) false → r ≡ cell_at s at
  unfolding cell_at
  cell-whole h q l e = e ∙ rw (le-leb (at + 8) (length s) h, le-leb (at + 8 + le_at 4 s (at + 4)) (length s) (omega arith), q)

-- ---- where a cell ends

or_end : (f : Option CellFault) → None ≡ end_of (or_fault f (Err CellFault.Short))
or_end None = refl
or_end (Some k) = refl

module _ (s : List ℕ) (at : ℕ) where
  pub end_short : length s < at + 8 → None ≡ end_at s at
  unfolding end_at
  end_short h = ap end_of (cell_short s at h)

  past_end : (m : ℕ) → None ≡ end_of (payload_at s at m true)
  unfolding payload_at data_fault
  past_end m = or_end (head_fault s (at + 8) m)

  pub end-past : {n : ℕ} → at + 8 ≤ length s → n ≡ le_at 4 s (at + 4) → length s - (at + 8) < n → None ≡ end_at s at
  unfolding end_at
  end-past h q l = past_end (length s) ∙ ap end_of (cell-past s at {r = payload_at s at (length s) true} h (omega (arith, q, l)) refl)

  module _ {n : ℕ} (here : at + 8 ≤ length s) (is : n ≡ le_at 4 s (at + 4)) (room : n ≤ length s - (at + 8)) {r : Result (ℕ × ℕ) CellFault} (head : r ≡ head_at s (at + 8) (at + 8 + n)) where
    pub end_bad : {j : CellFault} → r ≡ Err j → None ≡ end_at s at
    unfolding end_at
    end_bad e = ap end_of (cell-whole s at here is room (payload_bad s at (at + 8 + n) false head e))

    module _ {j k : ℕ} (got : r ≡ Ok (j, k)) where
      pub end-long : 4051 < at + 8 + n - k → None ≡ end_at s at
      unfolding end_at
      end-long l = ap end_of (cell-whole s at here is room (payload_long s at (at + 8 + n) (head-is s (at + 8) (at + 8 + n) head got) refl l))

      pub end-there : at + 8 + n - k ≤ 4051 → Some (at + 8 + n) ≡ end_at s at
      unfolding end_at
      end-there l =
          ap end_of (cell-whole s at here is room (payload_cell s at (at + 8 + n) (head-is s (at + 8) (at + 8 + n) head got) refl l refl refl refl refl))
