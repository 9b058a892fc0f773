-- The first pass beside the rows of the chain: it counts the bytes of all their records, sees whether a key falls, and finds
-- the chain's fault. Assumes nothing.
use Rattle.std.proofs.Common.{Ok, Err, Result}
use mathlib.Core.Path.{◌≡◌, refl, sym, ap, ◌∙◌}
use mathlib.Core.Bool.{Bool, true, false, ◌||◌}
use mathlib.Core.List.{List, [], ◌∷◌, ◌++◌}
use Prim.Native.Nat.{ℕ, ◌+◌, ◌*◌, ◌-◌, ◌≤◌, ◌<◌}
use native.Mathlib.Omega.{arith}
use borrow.Author.Tests.{ltb-false}
use lib.Dec.{ltb}
use lib.ListN.{length, length-append}
use Rattle.store.specs.Le.{AreBytes}
use Rattle.page.specs.Page.{page}
use Rattle.row.specs.Read.{cell_at}
use Rattle.row.specs.declared.Cell.{Cell}
use Rattle.row.specs.declared.Fault.{Fault}
use Rattle.leaf.specs.Rows.{Row, row_of}
use Rattle.tree.specs.Chain.{along}
use Rattle.list_records.specs.Records.{records}
use Rattle.list_visible.specs.Visible.{chain_rows}
use Rattle.list_visible.specs.Steps.Fast.{bound_cell, look_bound, start_bound, bound_along}
use Rattle.list_visible.specs.Steps.ScanFacts.{falling, BoundIs, BoundTells, FaultsAgree}
use Rattle.list_visible.specs.declared.Bound.{Bound}
use Rattle.store.proofs.PartLaws.{length_part}
use Rattle.list_visible.proofs.Beside.{Alike, rows_beside}
use Rattle.list_visible.proofs.Choosing.{records-append}
use Rattle.list_visible.proofs.Standing.{cell-whole, cell-record}
use Rattle.list_visible.proofs.Bounding.{judging_bound}
use Rattle.row.proofs.Writing.{length-record}

-- ---- keys that fall

-- the last key, and k where there is none
unfoldable pub last_of : ℕ → List Row → ℕ
last_of k [] = k
last_of k (r ∷ rs) = last_of r.key rs

pub last_snoc : (k : ℕ) (rs : List Row) (r : Row) → last_of k (rs ++ (r ∷ [])) ≡ r.key
unfolding last_of
last_snoc k [] r = refl
last_snoc k (x ∷ rs) r = last_snoc x.key rs r

falling_snoc : (k : ℕ) (rs : List Row) (r : Row) → falling k (rs ++ (r ∷ [])) ≡ (falling k rs || ltb r.key (last_of k rs))
unfolding falling last_of
falling_snoc k [] r = by_test (ltb r.key k)
  where
    by_test : (b : Bool) → (b || false) ≡ b
    by_test true = refl
    by_test false = refl
falling_snoc k (x ∷ rs) r = by_test (ltb x.key k) (falling_snoc x.key rs r)
  where
    by_test : (b : Bool) → falling x.key (rs ++ (r ∷ [])) ≡ (falling x.key rs || ltb r.key (last_of x.key rs))
        → (b || falling x.key (rs ++ (r ∷ []))) ≡ ((b || falling x.key rs) || ltb r.key (last_of x.key rs))
    by_test true ih = refl
    by_test false ih = ih

-- no key falls, and the last one does not
pub never_falls_lem : (rs : List Row) (r : Row) → falling 0 (rs ++ (r ∷ [])) ≡ false → (falling 0 rs ≡ false) × (last_of 0 rs ≤ r.key)
never_falls_lem rs r e = by_test (falling 0 rs) (ltb r.key (last_of 0 rs)) refl (sym (falling_snoc 0 rs r) ∙ e)
  where
    by_test : (a b : Bool) → ltb r.key (last_of 0 rs) ≡ b → (a || b) ≡ false → (a ≡ false) × (last_of 0 rs ≤ r.key)
    by_test true b t q = absurd (cc)
    by_test false b t q = (refl, ltb-false r.key (last_of 0 rs) (t ∙ q))

-- ---- the pass

module _ (s : List ℕ) (B : AreBytes s) (used : ℕ) (room : used * 4096 ≤ length s) where
  row_long : (p : ℕ) (c : Cell) → p < used → cell_at (page s p) c.at ≡ Ok c → length (records (row_of (page s p) c ∷ [])) ≡ 6 + (c.next - c.at)
  row_long p c h e =
      let a = cell-whole p c s e in
      ap length (cell-record p c s e B) ∙ (length-record 1 _ ∙ ap (λ (n : ℕ). 6 + n) (length_part (p * 4096 + c.at) (c.next - c.at) s (omega (arith, a.0, a.1))))

  record Bounds (rs : List Row) (b : Bound) : Type 0 where
    last : b.last ≡ last_of 0 rs
    size : b.size ≡ length (records rs)
    falls : b.falls ≡ falling 0 rs

  bounds_more : (p : ℕ) (c : Cell) (rs : List Row) (b : Bound) → p < used → cell_at (page s p) c.at ≡ Ok c → Bounds rs b → Bounds (rs ++ (row_of (page s p) c ∷ [])) (bound_cell b c)
  bounds_more p c rs b h e k =
      let r = row_of (page s p) c in
      record {
        last = sym (last_snoc 0 rs r);
        size = rw (records-append rs (r ∷ []), length-append, row_long p c h e) (ap (λ (n : ℕ). n + (6 + (c.next - c.at))) k.size);
        falls = rw (falling_snoc 0 rs r, k.falls, k.last);
      }

  bounds : (p : ℕ) → Alike Bounds (chain_rows s used p) (along s used p look_bound used start_bound)
  unfolding last_of records falling
  bounds p = rows_beside look_bound (λ q b c. bound_cell b c) used s (judging_bound s) Bounds bounds_more p start_bound (record { last = refl; size = refl; falls = refl })

pub bound_tells : BoundTells
unfolding bound_along
bound_tells used p s rs B room e = by_told (along s used p look_bound used start_bound) refl (rw e at (bounds s B used room p))
  where
    by_told : (t : Result Bound Fault) → along s used p look_bound used start_bound ≡ t → Alike (Bounds s B used room) (Ok rs) t → BoundIs used p s rs
    by_told (Ok b) q k = record { bound = b; told = q; size = k.size; falls = k.falls }
    by_told (Err f) q k = absurd k

pub faults_agree : FaultsAgree
unfolding bound_along
faults_agree used p s f e =
    by_told (along s used p look_bound used start_bound)
    (rw e at (rows_beside look_bound (λ q b c. bound_cell b c) used s (judging_bound s) (λ rs b. Unit) (λ q c rs b h r k. tt) p start_bound tt))
  where
    by_told : (t : Result Bound Fault) → Alike (λ (rs : List Row) (b : Bound). Unit) (Err f) t → t ≡ Err f
    by_told (Ok b) k = absurd k
    by_told (Err g) k = ap (λ (x : Fault). Err x) (sym k)
