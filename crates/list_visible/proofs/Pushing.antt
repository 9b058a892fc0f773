-- What the second pass holds after some rows of the chain: while no key falls, the listed rows' bytes and what waits, of the
-- larger key; and never more bytes than all records have. One more cell keeps it. Assumes nothing.
use Rattle.std.proofs.Common.{Option, Some, None}
use mathlib.Core.Path.{◌≡◌, refl, sym, ap, ◌∙◌}
use mathlib.Core.Bool.{Bool, true, false}
use mathlib.Core.List.{List, [], ◌∷◌, ◌++◌, append_assoc, append-nil}
use Prim.Native.Nat.{ℕ, ◌+◌, ◌≤◌, ◌<◌}
use native.Mathlib.Omega.{arith}
use borrow.Author.Tests.{ltb-true, ltb-false, eqb-true, eqb-false, lt-ltb, le-ltb, eq-eqb, ne_eqb}
use lib.Dec.{ltb, eqb}
use lib.ListN.{length, length-append}
use Rattle.store.specs.Pick.{pick}
use Rattle.leaf.specs.Rows.{Row}
use Rattle.list_records.specs.Records.{records}
use Rattle.list_visible.specs.Visible.{entered_row}
use Rattle.list_visible.specs.Steps.Fast.{record_size, waiting_for, step_from, wait_bytes, pushed_by}
use Rattle.list_visible.specs.Steps.ScanFacts.{falling}
use Rattle.list_visible.specs.declared.pass.Chosen.{Chosen}
use Rattle.list_visible.specs.declared.pass.Scan.{Scan}
use Rattle.list_visible.proofs.Choosing.{Below, below_more, below_snoc, entered-past, records-append}
use Rattle.list_visible.proofs.Falling.{last_of, last_snoc, never_falls_lem}

-- x is the version of that row
pub record VersionIs (s : List ℕ) (x : Chosen) (r : Row) : Type 0 where
  pub key-is : x.key ≡ r.key
  pub creator-is : x.creator ≡ r.creator
  pub bytes_are : records (r ∷ []) ≡ wait_bytes (Some x) s

-- the listed rows are below the row that waits, whose key is not past the last one
record Ahead (s : List ℕ) (last : ℕ) (o : Chosen) (listed chosen : List Row) : Type 0 where
  row : Row
  stands : VersionIs s o row
  are : chosen ≡ listed ++ (row ∷ [])
  smaller : Below row.key listed
  late : row.key ≤ last

abbrev Waiting : (s : List ℕ) → (last : ℕ) → Option Chosen → (listed chosen : List Row) → Type 0
Waiting s last None listed chosen = (listed ≡ []) × (chosen ≡ [])
Waiting s last (Some o) listed chosen = Ahead s last o listed chosen

-- the chosen rows: those listed, whose records are the bytes, then the one that waits
pub record Lists (s : List ℕ) (last : ℕ) (chosen : List Row) (wait : Option Chosen) (bytes : List ℕ) : Type 0 where
  listed : List Row
  said : records listed ≡ bytes
  waiting : Waiting s last wait listed chosen

pub lists_none : (s : List ℕ) → Lists s 0 [] None []
unfolding records
lists_none s = record { listed = []; said = refl; waiting = (refl, refl) }

-- all bytes, with what waits
pub lists_all : (s : List ℕ) (last : ℕ) (chosen : List Row) (wait : Option Chosen) (bytes : List ℕ) → Lists s last chosen wait bytes → bytes ++ wait_bytes wait s ≡ records chosen
lists_all s last chosen None bytes l = append-nil bytes ∙ (sym l.said ∙ ap records (l.waiting.0 ∙ sym l.waiting.1))
lists_all s last chosen (Some o) bytes l =
    let a = l.waiting in
    rw (a.are, records-append l.listed (a.row ∷ []), a.stands.bytes_are, l.said)

module _ (s : List ℕ) (last : ℕ) (chosen : List Row) (bytes : List ℕ) where
  -- a row that changes nothing
  lists_later : (wait : Option Chosen) (k : ℕ) → last ≤ k → Lists s last chosen wait bytes → Lists s k chosen wait bytes
  lists_later None k h l = record { listed = l.listed; said = l.said; waiting = l.waiting }
  lists_later (Some o) k h l =
      let a = l.waiting in
      record { listed = l.listed; said = l.said; waiting = record { row = a.row; stands = a.stands; are = a.are; smaller = a.smaller; late = omega (arith, a.late) } }

  module _ (x : Chosen) (r : Row) (v : VersionIs s x r) where
    lists_first : Lists s last chosen None bytes → Lists s r.key (entered_row r chosen) (Some x) bytes
    unfolding entered_row
    lists_first l =
        record {
          listed = [];
          said = ap records (sym l.waiting.0) ∙ l.said;
          waiting = record { row = r; stands = v; are = rw l.waiting.1; smaller = tt; late = omega arith };
        }

    module _ (o : Chosen) (h : last ≤ r.key) (l : Lists s last chosen (Some o) bytes) where
      abbrev old : Row
      old = l.waiting.row

      past : Below r.key l.listed → entered_row r chosen ≡ l.listed ++ entered_row r (old ∷ [])
      past b = ap (entered_row r) l.waiting.are ∙ entered-past r l.listed (old ∷ []) b

      low : Below r.key l.listed
      low = below_more old.key r.key l.listed (omega (arith, l.waiting.late)) l.waiting.smaller

      keys : (o.key ≡ x.key → ⊥) → r.key ≡ old.key → ⊥
      keys z e = z (l.waiting.stands.key-is ∙ (sym e ∙ sym v.key-is))

      module _ (same : o.key ≡ x.key) where
        one : r.key ≡ old.key
        one = sym v.key-is ∙ (sym same ∙ l.waiting.stands.key-is)

        lists_newer : o.creator < x.creator → Lists s r.key (entered_row r chosen) (Some x) bytes
        unfolding entered_row
        lists_newer n =
            let less : old.creator < r.creator = omega (arith, l.waiting.stands.creator-is, v.creator-is) in
            record {
              listed = l.listed;
              said = l.said;
              waiting =
                  record {
                    row = r;
                    stands = v;
                    are = past low ∙ rw (le-ltb r.key old.key (omega (arith, one)), eq-eqb r.key old.key one, lt-ltb old.creator r.creator less);
                    smaller = low;
                    late = omega arith;
                  };
            }

        lists_older : x.creator ≤ o.creator → Lists s r.key (entered_row r chosen) (Some o) bytes
        unfolding entered_row
        lists_older n =
            let less : r.creator ≤ old.creator = omega (arith, l.waiting.stands.creator-is, v.creator-is) in
            record {
              listed = l.listed;
              said = l.said;
              waiting =
                  record {
                    row = old;
                    stands = l.waiting.stands;
                    are = past low ∙ rw (le-ltb r.key old.key (omega (arith, one)), eq-eqb r.key old.key one, le-ltb old.creator r.creator less);
                    smaller = l.waiting.smaller;
                    late = omega (arith, one);
                  };
            }

      lists_other : (o.key ≡ x.key → ⊥) → Lists s r.key (entered_row r chosen) (Some x) (bytes ++ wait_bytes (Some o) s)
      unfolding entered_row
      lists_other z =
          let n : r.key ≡ old.key → ⊥ = keys z in
          let less : old.key < r.key = omega (arith, l.waiting.late) in
          record {
            listed = l.listed ++ (old ∷ []);
            said = records-append l.listed (old ∷ []) ∙ rw (l.said, l.waiting.stands.bytes_are);
            waiting =
                record {
                  row = r;
                  stands = v;
                  are =
                      past low
                      ∙ rw (le-ltb r.key old.key (omega arith), ne_eqb r.key old.key n) (sym (append_assoc l.listed (old ∷ []) (r ∷ [])));
                  smaller = below_snoc r.key l.listed old low less;
                  late = omega arith;
                };
          }

-- what the pass holds after the rows rs, of which those were chosen
pub record Kept (s : List ℕ) (rs chosen : List Row) (wait : Option Chosen) (bytes : List ℕ) : Type 0 where
  pub few : length bytes + length (wait_bytes wait s) ≤ length (records rs)
  pub lists : falling 0 rs ≡ false → Lists s (last_of 0 rs) chosen wait bytes

module _ (s : List ℕ) (rs chosen : List Row) (x : Chosen) (r : Row) (v : VersionIs s x r) where
  -- all records have one more
  longer : length (records (rs ++ (r ∷ []))) ≡ length (records rs) + length (wait_bytes (Some x) s)
  longer = ap length (records-append rs (r ∷ [])) ∙ (length-append (records rs) (records (r ∷ [])) ∙ ap (λ (y : List ℕ). length (records rs) + length y) v.bytes_are)

  last-is : {wait : Option Chosen} {now bytes : List ℕ} {those : List Row} → now ≡ bytes → Lists s r.key those wait bytes → Lists s (last_of 0 (rs ++ (r ∷ []))) those wait now
  last-is e l = rw (last_snoc 0 rs r, e) l

  pub step_kept : (wait : Option Chosen) (sc : Scan) (bytes : List ℕ) → sc.wait ≡ wait → Kept s rs chosen wait bytes
      → Kept s (rs ++ (r ∷ [])) (entered_row r chosen) (step_from wait sc x).wait (bytes ++ pushed_by wait x s)
  step_kept None sc bytes e k =
      record {
        few = omega (arith, k.few, longer, ap length (append-nil bytes));
        lists = λ f. let n = never_falls_lem rs r f in last-is (append-nil bytes) (lists_first s (last_of 0 rs) chosen bytes x r v (k.lists n.0));
      }
  step_kept (Some o) sc bytes e k = by_tests (eqb o.key x.key) (ltb o.creator x.creator) refl refl
    where
      by_tests : (a b : Bool) → eqb o.key x.key ≡ a → ltb o.creator x.creator ≡ b
          → Kept s (rs ++ (r ∷ [])) (entered_row r chosen) (pick a (pick b (waiting_for x sc.size) sc) (waiting_for x (sc.size + record_size o))).wait
          (bytes ++ pick a [] (wait_bytes (Some o) s))
      by_tests true true e₁ e₂ =
          record {
            few = omega (arith, k.few, longer, ap length (append-nil bytes));
            lists =
                λ f.
                let n = never_falls_lem rs r f in
                last-is (append-nil bytes) (lists_newer s (last_of 0 rs) chosen bytes x r v o n.1 (k.lists n.0) (eqb-true o.key x.key e₁) (ltb-true o.creator x.creator e₂));
          }
      by_tests true false e₁ e₂ =
          rw e
          (record {
            few = omega (arith, k.few, longer, ap length (append-nil bytes));
            lists =
                λ f.
                let n = never_falls_lem rs r f in
                last-is (append-nil bytes) (lists_older s (last_of 0 rs) chosen bytes x r v o n.1 (k.lists n.0) (eqb-true o.key x.key e₁) (ltb-false o.creator x.creator e₂));
          })
      by_tests false b e₁ e₂ =
          record {
            few = let m = length-append bytes (wait_bytes (Some o) s) in omega (arith, k.few, longer, m);
            lists = λ f. let n = never_falls_lem rs r f in last-is refl (lists_other s (last_of 0 rs) chosen bytes x r v o n.1 (k.lists n.0) (eqb-false o.key x.key e₁));
          }

  -- a row that is not visible
  pub skip_kept : (wait : Option Chosen) (bytes : List ℕ) → Kept s rs chosen wait bytes → Kept s (rs ++ (r ∷ [])) chosen wait (bytes ++ [])
  skip_kept wait bytes k =
      record {
        few = omega (arith, k.few, longer, ap length (append-nil bytes));
        lists = λ f. let n = never_falls_lem rs r f in last-is (append-nil bytes) (lists_later s (last_of 0 rs) chosen bytes wait r.key n.1 (k.lists n.0));
      }
