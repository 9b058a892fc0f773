-- The walk by a table and a count lists what the definition lists: the bits are the pages listed, the count is how many, and
-- the output holds their records as long as all fit. Assumes nothing.
use Rattle.call_answers.specs.declared.Refusal.{Refusal}
use Rattle.call_answers.specs.Answer.{refusal_of, faulty, written}
use Rattle.std.proofs.Common.{Result, Ok, Err}
use Rattle.call_answers.specs.declared.Refused.{Refused}
use mathlib.Core.Path.{◌≡◌, refl, sym, ap, ◌∙◌}
use mathlib.Core.Bool.{◌||◌, or_assoc, or-false}
use mathlib.Core.List.{List, [], ◌∷◌, ◌++◌, append_assoc, append-nil}
use mathlib.Core.Logic.{⊎_elim}
use Prim.Native.Nat.{ℕ, ◌+◌, ◌*◌, ◌≤◌, ◌<◌}
use native.Mathlib.Omega.{arith}
use borrow.Author.Tests.{le-leb, lt-leb}
use lib.Dec.{eqb}
use lib.ListN.{length, length-append, length-replicate}
use Rattle.store.specs.Le.{bytes_le}
use Rattle.store.specs.Part.{put, zeros}
use Rattle.row.specs.Write.{record_bytes}
use Rattle.row.specs.declared.Fault.{Fault}
use Rattle.mvcc.specs.Lists.{mem}
use Rattle.list_records.specs.Listed.{fitted}
use Rattle.list_pages.specs.Numbers.{numbers_of, number_records, numbers_tree}
use Rattle.list_pages.specs.Steps.Table.{bit_at, noted, Log, log_of, visit_of, LogEnds, cap_of}
use Rattle.store.proofs.LeLaws.{length-bytes_le}
use Rattle.store.proofs.PartLaws.{le_or_lt}
use Rattle.store.proofs.PutLaws.{put_nil, length-put, put-after_at, put-end, part_none}
use Rattle.list_pages.proofs.Alike.{Alike, visit_alike}
use Rattle.list_pages.proofs.Bits.{Table, bit_with, table_with, table_zero, bit_zero}
use Rattle.list_pages.proofs.Visits.{told_bad, told-ok, visit_grows}

-- ---- one more page

mem_more : (q p : ℕ) (l : List ℕ) → mem q (l ++ (p ∷ [])) ≡ (mem q l || eqb p q)
unfolding mem
mem_more q p [] = or-false (eqb p q)
mem_more q p (x ∷ l) = rw (mem_more q p l) (sym (or_assoc (eqb x q) (mem q l) (eqb p q)))

records_more : (p : ℕ) (l : List ℕ) → number_records (l ++ (p ∷ [])) ≡ number_records l ++ record_bytes 5 (bytes_le 4 p)
unfolding number_records
records_more p [] = append-nil (record_bytes 5 (bytes_le 4 p))
records_more p (x ∷ l) = rw (records_more p l) (sym (append_assoc (record_bytes 5 (bytes_le 4 x)) (number_records l) (record_bytes 5 (bytes_le 4 p))))

length-record : (p : ℕ) → length (record_bytes 5 (bytes_le 4 p)) ≡ 10
unfolding record_bytes
length-record p = simp (length-append, length-bytes_le)

pub length-records : (l : List ℕ) → length (number_records l) ≡ length l * 10
unfolding number_records
length-records [] = refl
length-records (p ∷ l) = rw (length-append, length-record) (omega (arith, length-records l))

-- ---- what the log keeps of the list, from an output out₀ on

record Kept (out₀ listed : List ℕ) (l : Log) : Type 0 where
  bits : (q : ℕ) → q < 65536 → mem q listed ≡ bit_at l.seen q
  table : Table l.seen
  number : l.count ≡ length listed
  size : length l.out ≡ length out₀
  records : length listed * 10 ≤ length out₀ → l.out ≡ put 0 (number_records listed) out₀

kept_start : (n : ℕ) (out : List ℕ) → n ≡ 8192 → Kept out [] (log_of 0 (zeros n) out)
unfolding mem number_records
kept_start n out e =
    record { bits = λ q h. sym (bit_zero n q); table = table_zero n e; number = refl; size = refl; records = λ h. sym (put_nil 0 out) }

module _ (out₀ listed : List ℕ) (l : Log) (p : ℕ) (k : Kept out₀ listed l) where
  out-size : length (noted p l).out ≡ length out₀
  unfolding noted
  out-size =
      ⊎_elim
      (λ h. rw (le-leb (l.count * 10 + 10) (length l.out) h) (length-put (l.count * 10) (record_bytes 5 (bytes_le 4 p)) l.out (rw (length-record p) h) ∙ k.size))
      (λ h. rw (lt-leb (l.count * 10 + 10) (length l.out) h) k.size)
      (le_or_lt (l.count * 10 + 10) (length l.out))

  out-records : length (listed ++ (p ∷ [])) * 10 ≤ length out₀ → (noted p l).out ≡ put 0 (number_records (listed ++ (p ∷ []))) out₀
  unfolding noted
  out-records h =
      let n = length-append listed (p ∷ []) in
      let c = k.number in
      let z = k.size in
      let fits : l.count * 10 + 10 ≤ length l.out = omega arith in
      let at : l.count * 10 ≡ 0 + length (number_records listed) = omega (arith, length-records listed) in
      rw (le-leb (l.count * 10 + 10) (length l.out) fits, k.records (omega arith), records_more p listed)
      (put-after_at 0 (l.count * 10) (number_records listed) (record_bytes 5 (bytes_le 4 p)) out₀ (omega arith) at)

  kept_add : p < 65536 → Kept out₀ (listed ++ (p ∷ [])) (noted p l)
  unfolding noted
  kept_add h =
      record {
        bits = λ q m. mem_more q p listed ∙ rw (k.bits q m) (sym (bit_with l.seen k.table p h q));
        table = table_with l.seen k.table p h;
        number = omega (arith, k.number, length-append listed (p ∷ []));
        size = out-size;
        records = out-records;
      }

-- ---- the two walks

module _ (used root : ℕ) (s : List ℕ) where
  walks_alike : (n : ℕ) (out : List ℕ) → n ≡ 8192 → used ≤ 65536 → Alike (Kept out) (numbers_of s used root) (visit_of s used 3 [] (log_of 0 (zeros n) out) root)
  unfolding numbers_of visit_of
  walks_alike n out e h =
      visit_alike (Kept out) (λ l p. mem p l) (λ p l. l ++ (p ∷ [])) (λ m q. bit_at m.seen q) noted used s (λ l m q k b. k.bits q (omega arith))
      (λ l m q k b. kept_add out l m q k (omega arith))
      3 [] [] (log_of 0 (zeros n) out) root
      (kept_start n out e)

-- the list behind a log
listed_of : (out : List ℕ) (x : Result (List ℕ) Fault) (y : Result Log Fault) {l : Log} → Alike (Kept out) x y → y ≡ Ok l → (listed : List ℕ) × ((x ≡ Ok listed) × Kept out listed l)
listed_of out (Ok a) (Ok l) h e = (a, (refl, rw (told_same e) at h))
  where
    told_same : {l m : Log} → ◌≡◌ {A = Result Log Fault} (Ok l) (Ok m) → l ≡ m
    told_same e = cc
listed_of out (Ok a) (Err f) h e = absurd h
listed_of out (Err f) (Ok l) h e = absurd h
listed_of out (Err f) (Err g) h e = absurd (cc)

fault_of : (out : List ℕ) (x : Result (List ℕ) Fault) (y : Result Log Fault) {f : Fault} → Alike (Kept out) x y → y ≡ Err f → x ≡ Err f
fault_of out (Ok a) (Ok l) h e = absurd (cc)
fault_of out (Ok a) (Err f) h e = absurd h
fault_of out (Err f) (Ok l) h e = absurd h
fault_of out (Err f) (Err g) h e = cc

same_list : {a b : List ℕ} {x : Result (List ℕ) Fault} → x ≡ Ok a → x ≡ Ok b → a ≡ b
same_list p q = cc

-- ---- a table emptied again, and an output that is lent in no part

pub zeros_again : (n : ℕ) (s : List ℕ) → length s ≡ n → put 0 (zeros n) s ≡ zeros n
zeros_again n s e =
    put-end 0 (zeros n) s (omega arith) (omega (arith, length-replicate {A = ℕ} n 0)) ∙ rw (part_none 0 0 s refl)

pub lent_none : (y out : List ℕ) → length y ≡ 0 → y ++ out ≡ out
lent_none [] out e = refl
lent_none (x ∷ y) out e = absurd (omega arith)

-- ---- the ways out of the listing; the first walk has an output of its own

module _ (used root : ℕ) (s out : List ℕ) (few : used ≤ 65536) where
  tree_bad : {f : Fault} → numbers_of s used root ≡ Err f → written (Err (faulty f)) out ≡ numbers_tree s used root out
  unfolding numbers_tree
  tree_bad e = rw e

  tree_short : {l : List ℕ} → numbers_of s used root ≡ Ok l → length out < length l * 10 → written (Err (refusal_of Refusal.Short)) out ≡ numbers_tree s used root out
  unfolding numbers_tree fitted
  tree_short {l} e h = rw (e, lt-leb (length (number_records l)) (length out) (rw (length-records l) h))

  tree-done : {l : List ℕ} → numbers_of s used root ≡ Ok l → length l * 10 ≤ length out
      → written (Ok (length l * 10)) (put 0 (number_records l) out) ≡ numbers_tree s used root out
  unfolding numbers_tree fitted
  tree-done {l} e h = rw (e, length-records l, le-leb (length l * 10) (length out) h)

  module _ (n : ℕ) (eight : n ≡ 8192) (first seen₁ out₁ : List ℕ) (r : Result ℕ Fault) (ended : LogEnds r seen₁ out₁ (visit_of s used 3 [] (log_of 0 (zeros n) first) root)) where
    pub list_bad : {f : Fault} → r ≡ Err f → written (Err (faulty f)) out ≡ numbers_tree s used root out
    list_bad e = tree_bad (fault_of first _ _ (walks_alike used root s n first eight few) (told_bad seen₁ out₁ r _ ended e))

    module _ (m : ℕ) (said : r ≡ Ok m) where
      pub list_few : m ≤ 4294967296
      unfolding cap_of
      list_few = omega (arith, visit_grows 3 used s [] (log_of 0 (zeros n) first) root (told-ok seen₁ out₁ r _ ended said))

      found : (listed : List ℕ) × ((numbers_of s used root ≡ Ok listed) × Kept first listed (log_of m seen₁ out₁))
      found = listed_of first _ _ (walks_alike used root s n first eight few) (told-ok seen₁ out₁ r _ ended said)

      pub list_short : {w : Refused} → length out < m * 10 → w ≡ refusal_of Refusal.Short → written (Err w) out ≡ numbers_tree s used root out
      list_short h e = rw e (tree_short found.1.0 (omega (arith, found.1.1.number)))

      -- the second walk, into the output itself
      module _ (seen₂ out₂ : List ℕ) (r₂ : Result ℕ Fault) {k₂ : ℕ} {z : List ℕ} (empty : z ≡ zeros k₂) (long : k₂ ≡ n) (again : LogEnds r₂ seen₂ out₂ (visit_of s used 3 [] (log_of 0 z out) root)) where
        then_ends : LogEnds r₂ seen₂ out₂ (visit_of s used 3 [] (log_of 0 (zeros n) out) root)
        then_ends = rw (empty ∙ ap zeros long) at again

        pub list_again : {f : Fault} → r₂ ≡ Err f → ⊥
        list_again {f} e =
            let u : numbers_of s used root ≡ Err f = fault_of out _ _ (walks_alike used root s n out eight few) (told_bad seen₂ out₂ r₂ _ then_ends e) in
            let g = found.1.0 in
            cc

        pub list_done : {k : ℕ} → r₂ ≡ Ok k → m * 10 ≤ length out → (k ≡ m) × (written (Ok (k * 10)) out₂ ≡ numbers_tree s used root out)
        list_done {k} e h =
            let w = listed_of out _ _ (walks_alike used root s n out eight few) (told-ok seen₂ out₂ r₂ _ then_ends e) in
            let a : m ≡ length w.0 = found.1.1.number ∙ ap length (same_list found.1.0 w.1.0) in
            let b : k ≡ length w.0 = w.1.1.number in
            let l : length w.0 * 10 ≤ length out = omega arith in
            (omega arith, ap (λ (x : ℕ). written {A = Result ℕ Refused} (Ok (x * 10)) out₂) b ∙ (ap (λ (o : List ℕ). written {A = Result ℕ Refused} (Ok (length w.0 * 10)) o) (w.1.1.records l) ∙ tree-done w.1.0 l))
