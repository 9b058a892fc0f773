-- The reader accepts exactly what the writer writes: proofs of the statements of specs/Exact. Assumes nothing.
use Rattle.std.proofs.Common.{Option, Some, None, Ok, Err}
use mathlib.Core.Path.{◌≡◌, refl, sym, ap, ap₂, ◌∙◌, subst}
use mathlib.Core.Bool.{Bool, true, false, not, ◌&&◌, ◌||◌}
use mathlib.Core.List.{List, [], ◌∷◌, ◌++◌, append_assoc}
use Prim.Native.Nat.{ℕ, zero, suc, ◌+◌, ◌-◌, ◌≤◌, ◌<◌}
use native.Mathlib.Omega.{arith}
use borrow.Author.Tests.{eqb-true, eqb-false, leb-true, ltb-false, lt-ltb, not-false}
use lib.Dec.{ltb, leb, eqb}
use lib.ListN.{length}
use Rattle.store.specs.Pick.{pick}
use Rattle.store.specs.Le.{AreBytes, le_at, bytes_le}
use Rattle.store.specs.Part.{part}
use Rattle.page.specs.Key.{flip, key_bytes, rank_at}
use Rattle.row.specs.Read.{stamp_size, pointer_size, stamp_in, pointer_in, pointer_place, data_place, flag_bad, head_fault, data_fault, or_fault, cell_in, payload_at, cell_at}
use Rattle.row.specs.Steps.Read.{head_at}
use Rattle.row.specs.Write.{stamp_bytes, pointer_bytes, stamp_len, pointer_len, cell_size, head_bytes, cell_bytes, record_bytes}
use Rattle.row.specs.Exact.{StampFits, PointerFits, WrittenIsRead, CellIs, ReadIsWritten, WorkedRecord}
use Rattle.row.specs.declared.Pointer.{Pointer}
use Rattle.row.specs.declared.Cell.{Cell}
use Rattle.row.specs.declared.CellFault.{CellFault}
use Rattle.store.proofs.LeLaws.{length-bytes_le, one_byte, le_at_lt}
use Rattle.store.proofs.PartLaws.{length_part, part_add, part_peel, part_bytes, le_at-first}
use Rattle.page.proofs.KeyLaws.{flip-flip, flip_less}
use Rattle.row.proofs.Reading.{pick_none, or_fault_ok, places, stamp-size-none, stamp-size_by, pointer-size-none, pointer-size_at, stamp-none, stamp_by, pointer_none, pointer_at, pointer-place, data_place_lem, head_got, head-is, payload_cell, cell-whole, data_within, stamp-inside, pointer-inside}
use Rattle.row.proofs.Writing.{stamp_len_lem, pointer_len_lem, length-stamp}

-- the bytes of a cell, field after field
pub cell_flat : (key creator : ℕ) (st : Option ℕ) (pt : Option Pointer) (body : List ℕ)
    → cell_bytes key creator st pt body
    ≡ key_bytes key ++ (bytes_le 4 (9 + stamp_len st + pointer_len pt + length body) ++ (bytes_le 1 129 ++ (bytes_le 8 creator ++ (stamp_bytes st ++ (pointer_bytes pt ++ body)))))
unfolding cell_bytes head_bytes
cell_flat key creator st pt body = rw (one_byte 129 (omega arith)) (simp append_assoc)

-- ---- what was written is read

-- what the reader finds where a stamp stands, and where a pointer stands
pub record StampThere (s : List ℕ) (a : ℕ) (st : Option ℕ) : Type 0 where
  pub low : le_at 1 s a ≤ 1
  pub same : stamp_in s a ≡ st
  pub size : stamp_size (le_at 1 s a) ≡ stamp_len st

pub record PointerThere (s : List ℕ) (a : ℕ) (pt : Option Pointer) : Type 0 where
  pub low : le_at 1 s a ≤ 1
  pub same : pointer_in s a ≡ pt
  pub size : pointer_size (le_at 1 s a) ≡ pointer_len pt

-- a flag that stands first, and what follows it
first_flag : (a m x : ℕ) (t s : List ℕ) → x < 256 → part a (1 + m) s ≡ x ∷ t → (le_at 1 s a ≡ x) × (part (a + 1) m s ≡ t)
first_flag a m x t s h e =
    let l : 1 ≤ 1 + m = omega arith in
    (le_at-first 1 a (1 + m) x t s l h (rw (one_byte x h) e), part_peel a 1 m (x ∷ []) t s refl e)

module _ (s : List ℕ) (a m : ℕ) where
  stamp-there : (st : Option ℕ) (t : List ℕ) → StampFits st → part a (stamp_len st + m) s ≡ stamp_bytes st ++ t → StampThere s a st
  stamp-there None t f e =
      let z = (first_flag a m 0 t s (omega arith) e).0 in
      record { low = omega arith; same = sym (stamp-none s a z); size = sym (stamp-size-none _ z) }
  stamp-there (Some x) t f e =
      let n : 9 + m ≡ 1 + (8 + m) = omega arith in
      let o = first_flag a (8 + m) 1 (bytes_le 8 x ++ t) s (omega arith) (rw n at e) in
      let z = o.0 in
      let v : le_at 8 s (a + 1) ≡ x = le_at-first 8 (a + 1) (8 + m) x t s (omega arith) f o.1 in
      record { low = omega arith; same = sym (stamp_by s a (λ q. omega arith) (sym v)); size = sym (stamp-size_by _ (λ q. omega arith)) }

  pointer-there : (pt : Option Pointer) (t : List ℕ) → PointerFits pt → part a (pointer_len pt + m) s ≡ pointer_bytes pt ++ t → PointerThere s a pt
  pointer-there None t f e =
      let z = (first_flag a m 0 t s (omega arith) e).0 in
      record { low = omega arith; same = sym (pointer_none s a z); size = sym (pointer-size-none _ z) }
  pointer-there (Some p) t f e =
      let n : 7 + m ≡ 1 + (4 + (2 + m)) = omega arith in
      let q : part a (1 + (4 + (2 + m))) s ≡ 1 ∷ (bytes_le 4 p.page ++ (bytes_le 2 p.slot ++ t)) = (rw n at e) ∙ simp append_assoc in
      let o = first_flag a (4 + (2 + m)) 1 (bytes_le 4 p.page ++ (bytes_le 2 p.slot ++ t)) s (omega arith) q in
      let z = o.0 in
      let v : le_at 4 s (a + 1) ≡ p.page = le_at-first 4 (a + 1) (4 + (2 + m)) p.page (bytes_le 2 p.slot ++ t) s (omega arith) f.0 o.1 in
      let i : a + 1 + 4 ≡ a + 5 = omega arith in
      let r : part (a + 5) (2 + m) s ≡ bytes_le 2 p.slot ++ t = rw i at (part_peel (a + 1) 4 (2 + m) (bytes_le 4 p.page) (bytes_le 2 p.slot ++ t) s (length-bytes_le 4 p.page) o.1) in
      let w : le_at 2 s (a + 5) ≡ p.slot = le_at-first 2 (a + 5) (2 + m) p.slot t s (omega arith) f.1 r in
      record { low = omega arith; same = sym (pointer_at s a (λ u. omega arith) (sym v) (sym w)); size = sym (pointer-size_at _ (λ u. omega arith)) }

-- the fields of a cell that stands at `at`
pub record FieldsThere (s : List ℕ) (at key creator : ℕ) (st : Option ℕ) (pt : Option Pointer) (n : ℕ) : Type 0 where
  pub key-there : le_at 4 s at ≡ flip key
  pub length-there : le_at 4 s (at + 4) ≡ 9 + stamp_len st + pointer_len pt + n
  pub format_there : le_at 1 s (at + 8) ≡ 129
  pub creator-there : le_at 8 s (at + 8 + 1) ≡ creator
  pub stamp-here : StampThere s (at + 8 + 9) st
  pub pointer-here : PointerThere s (at + 8 + 9 + stamp_len st) pt

fields_there : (s : List ℕ) (at key creator : ℕ) (st : Option ℕ) (pt : Option Pointer) (body : List ℕ) → key < 4294967296 → creator < 18446744073709551616
    → StampFits st → PointerFits pt → length body ≤ 4051 → part at (cell_size st pt (length body)) s ≡ cell_bytes key creator st pt body
    → FieldsThere s at key creator st pt (length body)
fields_there s at key creator st pt body fk fc fs fp fb e =
    let n = length body in
    let N = 9 + stamp_len st + pointer_len pt + n in
    let a₁ = stamp_len_lem st in
    let a₂ = pointer_len_lem pt in
    let size : 17 + stamp_len st + pointer_len pt + n ≡ 4 + (4 + (1 + (8 + (stamp_len st + (pointer_len pt + n))))) = omega arith in
    let r₄ = stamp_bytes st ++ (pointer_bytes pt ++ body) in
    let r₃ = bytes_le 8 creator ++ r₄ in
    let r₂ = bytes_le 1 129 ++ r₃ in
    let r₁ = bytes_le 4 N ++ r₂ in
    let e₀ : part at (4 + (4 + (1 + (8 + (stamp_len st + (pointer_len pt + n)))))) s ≡ key_bytes key ++ r₁ = rw size at (e ∙ cell_flat key creator st pt body) in
    let e₁ = part_peel at 4 (4 + (1 + (8 + (stamp_len st + (pointer_len pt + n))))) (key_bytes key) r₁ s (length-bytes_le 4 (flip key)) e₀ in
    let i₂ : at + 4 + 4 ≡ at + 8 = omega arith in
    let e₂ : part (at + 8) (1 + (8 + (stamp_len st + (pointer_len pt + n)))) s ≡ r₂
    = rw i₂ at (part_peel (at + 4) 4 (1 + (8 + (stamp_len st + (pointer_len pt + n)))) (bytes_le 4 N) r₂ s (length-bytes_le 4 N) e₁) in
    let e₃ = part_peel (at + 8) 1 (8 + (stamp_len st + (pointer_len pt + n))) (bytes_le 1 129) r₃ s (length-bytes_le 1 129) e₂ in
    let i₄ : at + 8 + 1 + 8 ≡ at + 8 + 9 = omega arith in
    let e₄ : part (at + 8 + 9) (stamp_len st + (pointer_len pt + n)) s ≡ r₄
    = rw i₄ at (part_peel (at + 8 + 1) 8 (stamp_len st + (pointer_len pt + n)) (bytes_le 8 creator) r₄ s (length-bytes_le 8 creator) e₃) in
    let e₅ = part_peel (at + 8 + 9) (stamp_len st) (pointer_len pt + n) (stamp_bytes st) (pointer_bytes pt ++ body) s (length-stamp st) e₄ in
    record {
      key-there = le_at-first 4 at _ (flip key) r₁ s (omega arith) (flip_less key) e₀;
      length-there = le_at-first 4 (at + 4) _ N r₂ s (omega arith) (omega arith) e₁;
      format_there = le_at-first 1 (at + 8) _ 129 r₃ s (omega arith) (omega arith) e₂;
      creator-there = le_at-first 8 (at + 8 + 1) _ creator r₄ s (omega arith) fc e₃;
      stamp-here = stamp-there s (at + 8 + 9) (pointer_len pt + n) st (pointer_bytes pt ++ body) fs e₄;
      pointer-here = pointer-there s (at + 8 + 9 + stamp_len st) n pt body fp e₅;
    }

-- what was written is read back
pub written-is_read : WrittenIsRead
written-is_read s at key creator st pt body fk fc fs fp fb inside e =
    let n = length body in
    let h = fields_there s at key creator st pt body fk fc fs fp fb e in
    let a₁ = stamp_len_lem st in
    let a₂ = pointer_len_lem pt in
    let i = at + 8 in
    let m = at + 8 + (9 + stamp_len st + pointer_len pt + n) in
    let k = at + (17 + stamp_len st + pointer_len pt) in
    let at_j : at + 8 + 9 + stamp_len st ≡ pointer_place s i = pointer-place s i refl (sym h.stamp-here.size) in
    let k-is : at + 8 + 9 + stamp_len st + pointer_len pt ≡ k = omega arith in
    let at-k : k ≡ data_place s i = sym k-is ∙ data_place_lem s i at_j refl (sym h.pointer-here.size) in
    let got = head_got s i m (omega arith) h.format_there refl h.stamp-here.low at_j refl h.pointer-here.low at-k (omega arith) in
    let is = head-is s i m {r = head_at s i m} refl (sym got) in
    let len : m - k ≡ n = omega arith in
    let end : at + cell_size st pt n ≡ m = omega arith in
    let key-is : key ≡ rank_at s at = sym (ap flip h.key-there ∙ flip-flip key fk) in
    let cell = payload_cell s at m is {past = false} refl (rw len fb) key-is (sym h.creator-there) (sym h.stamp-here.same) (sym h.pointer-here.same) in
    rw end (sym (rw len at (cell-whole s at (omega arith) (sym h.length-there) (omega arith) cell)))

-- ---- what is read was written

-- what an accepted cell says of the bytes
record Accepted (s : List ℕ) (at : ℕ) (c : Cell) : Type 0 where
  inside : at + 8 + le_at 4 s (at + 4) ≤ length s
  head_sound : head_fault s (at + 8) (at + 8 + le_at 4 s (at + 4)) ≡ None
  data_sound : data_fault s (at + 8) (at + 8 + le_at 4 s (at + 4)) false ≡ None
  same : cell_in s at (at + 8 + le_at 4 s (at + 4)) ≡ c

past_bad : (s : List ℕ) (at m : ℕ) {c : Cell} → payload_at s at m true ≡ Ok c → ⊥
unfolding payload_at data_fault
past_bad s at m e = let z : Err CellFault.Short ≡ Ok _ = (or_fault_ok (head_fault s (at + 8) m) (Err CellFault.Short) e).1 in cc

whole_got : (s : List ℕ) (at m : ℕ) {c : Cell} → payload_at s at m false ≡ Ok c
    → (head_fault s (at + 8) m ≡ None) × (data_fault s (at + 8) m false ≡ None) × (cell_in s at m ≡ c)
unfolding payload_at
whole_got s at m e =
    let o = or_fault_ok (head_fault s (at + 8) m) (or_fault (data_fault s (at + 8) m false) (Ok (cell_in s at m))) e in
    let p = or_fault_ok (data_fault s (at + 8) m false) (Ok (cell_in s at m)) o.1 in
    let q = p.1 in
    (o.0, p.0, cc)

accepted : (s : List ℕ) (at : ℕ) (c : Cell) → cell_at s at ≡ Ok c → Accepted s at c
unfolding cell_at
accepted s at c e = by_head (leb (at + 8) (length s)) (leb (at + 8 + le_at 4 s (at + 4)) (length s)) refl e
  where
    key : ℕ
    key = rank_at s at

    i : ℕ
    i = at + 8

    m : ℕ
    m = at + 8 + le_at 4 s (at + 4)

    by_head : (b d : Bool) → leb m (length s) ≡ d
        → pick b (pick d (payload_at s at m false) (payload_at s at (length s) true)) (Err CellFault.Short) ≡ Ok c → Accepted s at c
    by_head true true t q =
        let w = whole_got s at m q in
        record { inside = leb-true m (length s) t; head_sound = w.0; data_sound = w.1; same = w.2 }
    by_head true false t q = absurd (past_bad s at (length s) q)
    by_head false d t q = absurd (let z : ◌≡◌ {A = ℕ} 0 1 = cc in omega arith)

-- where a cell that was read stands; this needs no bytes
pub record CellPlaced (s : List ℕ) (at : ℕ) (c : Cell) : Type 0 where
  pub here : c.at ≡ at
  pub inside : c.next ≤ length s
  pub past_head : at + 19 ≤ c.version.start
  pub whole : c.version.start + c.version.len ≡ c.next
  pub few : c.version.len ≤ 4051

few_data : (s : List ℕ) (i m : ℕ) → data_fault s i m false ≡ None → m - data_place s i ≤ 4051
unfolding data_fault
few_data s i m e = ltb-false 4051 (m - data_place s i) (pick_none (ltb 4051 (m - data_place s i)) _ e).0

pub cell_placed : (s : List ℕ) (at : ℕ) (c : Cell) → cell_at s at ≡ Ok c → CellPlaced s at c
unfolding cell_in
cell_placed s at c e =
    let a = accepted s at c e in
    let m = at + 8 + le_at 4 s (at + 4) in
    let p = places s (at + 8) in
    let d = data_within s (at + 8) m a.head_sound in
    subst (CellPlaced s at) a.same
    (record { here = refl; inside = a.inside; past_head = omega arith; whole = omega arith; few = few_data s (at + 8) m a.data_sound })

-- the fields of a cell that was read, each by its place
pub record CellFields (s : List ℕ) (at : ℕ) (c : Cell) : Type 0 where
  pub key-is : c.key ≡ rank_at s at
  pub creator-is : c.version.creator ≡ le_at 8 s (at + 8 + 1)
  pub stamp-is : c.version.stamp ≡ stamp_in s (at + 8 + 9)
  pub next-is : c.next ≡ at + 8 + le_at 4 s (at + 4)
  pub stamp_in_lem : at + 8 + 9 + stamp_size (le_at 1 s (at + 8 + 9)) ≤ c.next

pub cell_fields : (s : List ℕ) (at : ℕ) (c : Cell) → cell_at s at ≡ Ok c → CellFields s at c
unfolding cell_in
cell_fields s at c e =
    let a = accepted s at c e in
    let m = at + 8 + le_at 4 s (at + 4) in
    let p = places s (at + 8) in
    let d = data_within s (at + 8) m a.head_sound in
    let i = stamp-inside s (at + 8) refl in
    subst (CellFields s at) a.same (record { key-is = refl; creator-is = refl; stamp-is = refl; next-is = refl; stamp_in_lem = omega arith })

and_right : (a b : Bool) → (a && b) ≡ false → a ≡ true → b ≡ false
and_right true b e t = e
and_right false b e t = absurd (let z : ◌≡◌ {A = ℕ} 0 1 = cc in omega arith)

or_both : (a b : Bool) → (a || b) ≡ false → (a ≡ false) × (b ≡ false)
or_both true b e = absurd (let z : ◌≡◌ {A = ℕ} 0 1 = cc in omega arith)
or_both false b e = (refl, e)

flag_fine : (s : List ℕ) (k m : ℕ) → flag_bad s k m ≡ false → k < m → le_at 1 s k ≤ 1
unfolding flag_bad
flag_fine s k m e h = ltb-false 1 (le_at 1 s k) (and_right (ltb k m) (ltb 1 (le_at 1 s k)) e (lt-ltb k m h))

one_of : (x : ℕ) → x ≤ 1 → (x ≡ 0 → ⊥) → x ≡ 1
one_of zero h z = absurd (z refl)
one_of (suc x) h z = omega arith

-- what sound fields say of the bytes
record Sound (s : List ℕ) (i m : ℕ) : Type 0 where
  format : le_at 1 s i ≡ 129
  stamp-low : le_at 1 s (i + 9) ≤ 1
  pointer-low : le_at 1 s (pointer_place s i) ≤ 1
  data_in : data_place s i ≤ m

sound : (s : List ℕ) (i m : ℕ) → head_fault s i m ≡ None → Sound s i m
unfolding head_fault
sound s i m e =
    let p = places s i in
    let d = data_within s i m e in
    let c = pick_none (ltb i m && not (eqb (le_at 1 s i) 129)) _ e in
    let f = or_both (flag_bad s (i + 9) m) (flag_bad s (pointer_place s i) m) (pick_none (flag_bad s (i + 9) m || flag_bad s (pointer_place s i) m) _ c.1).0 in
    record {
      format = eqb-true (le_at 1 s i) 129 (not-false (eqb (le_at 1 s i) 129) (and_right (ltb i m) (not (eqb (le_at 1 s i) 129)) c.0 (lt-ltb i m (omega arith))));
      stamp-low = flag_fine s (i + 9) m f.0 (omega arith);
      pointer-low = flag_fine s (pointer_place s i) m f.1 (omega arith);
      data_in = d;
    }

-- a stamp, and a pointer, that was read at a is written there
record StampIs (s : List ℕ) (a : ℕ) (st : Option ℕ) : Type 0 where
  size : stamp_len st ≡ stamp_size (le_at 1 s a)
  fits : StampFits st
  bytes : part a (stamp_len st) s ≡ stamp_bytes st

record PointerIs (s : List ℕ) (a : ℕ) (pt : Option Pointer) : Type 0 where
  size : pointer_len pt ≡ pointer_size (le_at 1 s a)
  fits : PointerFits pt
  bytes : part a (pointer_len pt) s ≡ pointer_bytes pt

module _ (s : List ℕ) (B : AreBytes s) (a : ℕ) (low : le_at 1 s a ≤ 1) where
  flag_byte : (x : ℕ) → x ≤ 1 → le_at 1 s a ≡ x → a + 1 ≤ length s → part a 1 s ≡ x ∷ []
  flag_byte x l e h = part_bytes 1 a s B h ∙ rw e (one_byte x (omega arith))

  stamp-is : a + stamp_size (le_at 1 s a) ≤ length s → StampIs s a (stamp_in s a)
  unfolding stamp_in
  stamp-is h = by_flag (eqb (le_at 1 s a) 0) refl
    where
      by_flag : (b : Bool) → eqb (le_at 1 s a) 0 ≡ b → StampIs s a (pick b None (Some (le_at 8 s (a + 1))))
      by_flag true e =
          let z = eqb-true (le_at 1 s a) 0 e in
          let k = stamp-size-none (le_at 1 s a) z in
          record { size = k; fits = tt; bytes = flag_byte 0 (omega arith) z (omega arith) }
      by_flag false e =
          let z : le_at 1 s a ≡ 0 → ⊥ = eqb-false (le_at 1 s a) 0 e in
          let k = stamp-size_by (le_at 1 s a) z in
          let o : le_at 1 s a ≡ 1 = one_of (le_at 1 s a) low z in
          record {
            size = k;
            fits = le_at_lt 8 s (a + 1) B;
            bytes = part_add a 1 8 s ∙ ap₂ (λ (x y : List ℕ). x ++ y) (flag_byte 1 (omega arith) o (omega arith)) (part_bytes 8 (a + 1) s B (omega arith));
          }

  pointer_is : a + pointer_size (le_at 1 s a) ≤ length s → PointerIs s a (pointer_in s a)
  unfolding pointer_in
  pointer_is h = by_flag (eqb (le_at 1 s a) 0) refl
    where
      by_flag : (b : Bool) → eqb (le_at 1 s a) 0 ≡ b → PointerIs s a (pick b None (Some (record { page = le_at 4 s (a + 1); slot = le_at 2 s (a + 5) })))
      by_flag true e =
          let z = eqb-true (le_at 1 s a) 0 e in
          let k = pointer-size-none (le_at 1 s a) z in
          record { size = k; fits = tt; bytes = flag_byte 0 (omega arith) z (omega arith) }
      by_flag false e =
          let z : le_at 1 s a ≡ 0 → ⊥ = eqb-false (le_at 1 s a) 0 e in
          let k = pointer-size_at (le_at 1 s a) z in
          let o : le_at 1 s a ≡ 1 = one_of (le_at 1 s a) low z in
          let i : a + 1 + 4 ≡ a + 5 = omega arith in
          let rest : part (a + 1) 6 s ≡ bytes_le 4 (le_at 4 s (a + 1)) ++ bytes_le 2 (le_at 2 s (a + 5))
          = part_add (a + 1) 4 2 s ∙ rw (i, part_bytes 4 (a + 1) s B (omega arith), part_bytes 2 (a + 5) s B (omega arith)) in
          record {
            size = k;
            fits = (le_at_lt 4 s (a + 1) B, le_at_lt 2 s (a + 5) B);
            bytes = part_add a 1 6 s ∙ ap₂ (λ (x y : List ℕ). x ++ y) (flag_byte 1 (omega arith) o (omega arith)) rest;
          }

-- the bytes of an accepted cell, field after field
module _ (s : List ℕ) (B : AreBytes s) (at n : ℕ) (st : Option ℕ) (pt : Option Pointer) where
  cell_parts : at + cell_size st pt n ≤ length s → le_at 4 s (at + 4) ≡ 9 + stamp_len st + pointer_len pt + n → le_at 1 s (at + 8) ≡ 129
      → part (at + 8 + 9) (stamp_len st) s ≡ stamp_bytes st → part (at + 8 + 9 + stamp_len st) (pointer_len pt) s ≡ pointer_bytes pt
      → part at (cell_size st pt n) s
      ≡ key_bytes (rank_at s at)
      ++ (bytes_le 4 (9 + stamp_len st + pointer_len pt + n)
      ++ (bytes_le 1 129 ++ (bytes_le 8 (le_at 8 s (at + 8 + 1)) ++ (stamp_bytes st ++ (pointer_bytes pt ++ part (at + 8 + 9 + stamp_len st + pointer_len pt) n s)))))
  cell_parts h len v es ep =
      let a₁ = stamp_len_lem st in
      let a₂ = pointer_len_lem pt in
      let size : 17 + stamp_len st + pointer_len pt + n ≡ 4 + (4 + (1 + (8 + (stamp_len st + (pointer_len pt + n))))) = omega arith in
      let i₁ : at + 4 + 4 ≡ at + 8 = omega arith in
      let i₂ : at + 8 + 1 + 8 ≡ at + 8 + 9 = omega arith in
      let key : part at 4 s ≡ key_bytes (rank_at s at) = part_bytes 4 at s B (omega arith) ∙ ap (bytes_le 4) (sym (flip-flip (le_at 4 s at) (le_at_lt 4 s at B))) in
      rw (
        size,
        part_add at 4 (4 + (1 + (8 + (stamp_len st + (pointer_len pt + n))))) s,
        part_add (at + 4) 4 (1 + (8 + (stamp_len st + (pointer_len pt + n)))) s,
        i₁,
        part_add (at + 8) 1 (8 + (stamp_len st + (pointer_len pt + n))) s,
        part_add (at + 8 + 1) 8 (stamp_len st + (pointer_len pt + n)) s,
        i₂,
        part_add (at + 8 + 9) (stamp_len st) (pointer_len pt + n) s,
        part_add (at + 8 + 9 + stamp_len st) (pointer_len pt) n s,
        key,
        part_bytes 4 (at + 4) s B (omega arith),
        len,
        part_bytes 1 (at + 8) s B (omega arith),
        v,
        part_bytes 8 (at + 8 + 1) s B (omega arith),
        es,
        ep,
      )

accepted_is : (s : List ℕ) (at : ℕ) → AreBytes s → at + 8 + le_at 4 s (at + 4) ≤ length s → head_fault s (at + 8) (at + 8 + le_at 4 s (at + 4)) ≡ None
    → data_fault s (at + 8) (at + 8 + le_at 4 s (at + 4)) false ≡ None → CellIs s at (cell_in s at (at + 8 + le_at 4 s (at + 4)))
unfolding cell_in
accepted_is s at B inside hf df =
    let i = at + 8 in
    let m = at + 8 + le_at 4 s (at + 4) in
    let snd = sound s i m hf in
    let p = places s i in
    let st = stamp_in s (i + 9) in
    let pt = pointer_in s (pointer_place s i) in
    let in-stamp = stamp-inside s i refl in
    let in-pointer = pointer-inside s i refl refl in
    let is-st = stamp-is s B (i + 9) snd.stamp-low (omega (arith, snd.data_in)) in
    let is-pt = pointer_is s B (pointer_place s i) snd.pointer-low (omega (arith, snd.data_in)) in
    let n = m - data_place s i in
    let j-is : pointer_place s i ≡ at + 8 + 9 + stamp_len st = omega (arith, is-st.size) in
    let k-is : data_place s i ≡ at + 8 + 9 + stamp_len st + pointer_len pt = omega (arith, is-pt.size) in
    let start_is : data_place s i ≡ at + (17 + stamp_len st + pointer_len pt) = omega arith in
    let next-is : m ≡ at + cell_size st pt n = omega (arith, snd.data_in) in
    let len_is : le_at 4 s (at + 4) ≡ 9 + stamp_len st + pointer_len pt + n = omega (arith, snd.data_in) in
    let body-len : length (part (data_place s i) n s) ≡ n = length_part (data_place s i) n s (omega (arith, snd.data_in)) in
    record {
      here = refl;
      inside = inside;
      few = few_data s i m df;
      place =
          ap₂ (λ (x y : ℕ). record { at = at; key = rank_at s at; version = record { creator = le_at 8 s (i + 1); stamp = st; pointer = pt; start = x; len = n }; next = y }) start_is next-is;
      key_fits = flip_less (le_at 4 s at);
      creator_fits = le_at_lt 8 s (i + 1) B;
      stamp_fits = is-st.fits;
      pointer_fits = is-pt.fits;
      bytes =
          cell_parts s B at n st pt (omega arith) len_is snd.format is-st.bytes (ap (λ (a : ℕ). part a (pointer_len pt) s) (sym j-is) ∙ is-pt.bytes)
          ∙ rw (cell_flat (rank_at s at) (le_at 8 s (i + 1)) st pt (part (data_place s i) n s), body-len, k-is);
    }

pub read_is-written : ReadIsWritten
read_is-written s at c B e =
    let a = accepted s at c e in
    subst (CellIs s at) a.same (accepted_is s at B a.inside a.head_sound a.data_sound)

pub worked_record : WorkedRecord
unfolding record_bytes cell_bytes head_bytes bytes_le flip
worked_record = refl
