-- Vacuum on a well-formed tree: it drops and clears the versions of every leaf by their fate and counts those dropped, and the
-- tree with the rows that are kept is well-formed. Assumes nothing.
use Rattle.std.proofs.Common.{Option, Some, None, Ok}
use mathlib.Core.Path.{◌≡◌, refl, sym, ap, ◌∙◌}
use mathlib.Core.Bool.{Bool, true, false}
use mathlib.Core.List.{List, [], ◌∷◌, ◌++◌, append-nil}
use Prim.Native.Nat.{ℕ, suc, ◌+◌, ◌-◌, ◌≤◌, ◌<◌}
use native.Mathlib.Omega.{arith}
use lib.ListN.{length}
use Rattle.store.specs.Pick.{pick}
use Rattle.store.specs.Le.{AreBytes}
use Rattle.page.specs.Page.{page}
use Rattle.page.specs.Header.{next_leaf}
use Rattle.page.specs.Pool.{good_pool}
use Rattle.page.specs.declared.pool.State.{State}
use Rattle.row.specs.Write.{stamp_len}
use Rattle.mvcc.specs.Snapshot.{lookup, good_statuses, Statuses}
use Rattle.mvcc.specs.Vacuum.{fate}
use Rattle.mvcc.specs.declared.vacuum.Fate.{Fate}
use Rattle.leaf.specs.Rows.{Row, AllFit, rows, rows_bytes, write_rows}
use Rattle.leaf_vacuum.specs.Vacuum.{cleared_row, on_fate, kept_rows, dropped_rows, changes_rows, vacuumed_leaf}
use Rattle.call_answers.specs.Answer.{done, ended, Ended}
use Rattle.call_clean.specs.Vacuum.{look_leaf, judged_along, vacuumed_along, vacuum_call}
use Rattle.theory_tree.specs.View.{view}
use Rattle.theory_tree.specs.Shape.{Shape, leaf, node, pair, chain, first, All, KeysIn, Sorted, NotAfter, WellFormed}
use Rattle.page.proofs.PoolLaws.{pool-is}
use Rattle.leaf.proofs.Rowing.{length-rows}
use Rattle.call_clean.proofs.Storing.{vacuum-end, vacuum_on}
use Rattle.call_clean.proofs.Calls.{vacuum-done, vacuum-call}
use Rattle.theory_tree.proofs.Contexts.{top}
use Rattle.theory_tree.proofs.Map.{map_s, Keeps}
use Rattle.theory_tree.proofs.Order.{btw_weak}
use Rattle.theory_tree.proofs.Walk.{locs, locs_plug}
use Rattle.theory_walks.proofs.Descending.{descend-first}
use Rattle.theory_walks.proofs.Walking.{at_leaves, up_to_end, gather, gather_chain, walk_all}
use Rattle.theory_clean.proofs.Changing.{LeafIs, PoolHas, HasBytes, Changed, unchanged, rewritten, changed_at, changed, Mapped, mapped, change_first}

-- ---- rows by their fate

cleared_short : (x : Option ℕ) → stamp_len None ≤ stamp_len x
cleared_short None = omega arith
cleared_short (Some t) = omega arith

module _ (x : ℕ → ℕ) (bound : ℕ) where
  abbrev kept : List Row → List Row
  kept rs = kept_rows x bound rs

  abbrev fate_of : Row → Fate
  fate_of r = fate x bound r.creator r.stamp

  pub kept_app : (xs ys : List Row) → kept (xs ++ ys) ≡ kept xs ++ kept ys
  unfolding kept_rows
  kept_app [] ys = refl
  kept_app (r ∷ xs) ys = by_fate (fate_of r) (kept_app xs ys)
    where
      by_fate : (f : Fate) → kept (xs ++ ys) ≡ kept xs ++ kept ys
          → on_fate (kept (xs ++ ys)) (cleared_row r ∷ kept (xs ++ ys)) (r ∷ kept (xs ++ ys)) f ≡ on_fate (kept xs) (cleared_row r ∷ kept xs) (r ∷ kept xs) f ++ kept ys
      by_fate Fate.Dropped i = i
      by_fate Fate.Cleared i = ap (λ (l : List Row). cleared_row r ∷ l) i
      by_fate Fate.Same i = ap (λ (l : List Row). r ∷ l) i

  pub dropped_app : (xs ys : List Row) → dropped_rows x bound (xs ++ ys) ≡ dropped_rows x bound xs + dropped_rows x bound ys
  unfolding dropped_rows
  dropped_app [] ys = omega arith
  dropped_app (r ∷ xs) ys = by_fate (fate_of r) (dropped_app xs ys)
    where
      by_fate : (f : Fate) → dropped_rows x bound (xs ++ ys) ≡ dropped_rows x bound xs + dropped_rows x bound ys
          → on_fate (dropped_rows x bound (xs ++ ys) + 1) (dropped_rows x bound (xs ++ ys)) (dropped_rows x bound (xs ++ ys)) f
          ≡ on_fate (dropped_rows x bound xs + 1) (dropped_rows x bound xs) (dropped_rows x bound xs) f + dropped_rows x bound ys
      by_fate Fate.Dropped i = omega arith
      by_fate Fate.Cleared i = i
      by_fate Fate.Same i = i

  dropped-none : dropped_rows x bound [] ≡ 0
  unfolding dropped_rows
  dropped-none = refl

  kept_same : (rs : List Row) → changes_rows x bound rs ≡ false → kept rs ≡ rs
  unfolding kept_rows changes_rows
  kept_same [] e = refl
  kept_same (r ∷ rs) e = by_fate (fate_of r) e (kept_same rs)
    where
      by_fate : (f : Fate) → on_fate true true (changes_rows x bound rs) f ≡ false → (changes_rows x bound rs ≡ false → kept rs ≡ rs)
          → on_fate (kept rs) (cleared_row r ∷ kept rs) (r ∷ kept rs) f ≡ r ∷ rs
      by_fate Fate.Dropped q i = absurd (let z : ◌≡◌ {A = ℕ} 0 1 = cc in omega arith)
      by_fate Fate.Cleared q i = absurd (let z : ◌≡◌ {A = ℕ} 0 1 = cc in omega arith)
      by_fate Fate.Same q i = ap (λ (l : List Row). r ∷ l) (i q)

  kept_fits : (rs : List Row) → AllFit rs → AllFit (kept rs)
  unfolding kept_rows
  kept_fits [] h = tt
  kept_fits (r ∷ rs) h = by_fate (fate_of r) (kept_fits rs h.1)
    where
      by_fate : (f : Fate) → AllFit (kept rs) → AllFit (on_fate (kept rs) (cleared_row r ∷ kept rs) (r ∷ kept rs) f)
      by_fate Fate.Dropped i = i
      by_fate Fate.Cleared i = (record { key = h.0.key; creator = h.0.creator; stamp = tt; pointer = h.0.pointer; body = h.0.body }, i)
      by_fate Fate.Same i = (h.0, i)

  kept_short : (rs : List Row) → length (rows_bytes (kept rs)) ≤ length (rows_bytes rs)
  unfolding kept_rows
  kept_short [] = omega arith
  kept_short (r ∷ rs) = by_fate (fate_of r) (kept_short rs)
    where
      by_fate : (f : Fate) → length (rows_bytes (kept rs)) ≤ length (rows_bytes rs)
          → length (rows_bytes (on_fate (kept rs) (cleared_row r ∷ kept rs) (r ∷ kept rs) f)) ≤ length (rows_bytes (r ∷ rs))
      by_fate Fate.Dropped i = omega (arith, length-rows r rs)
      by_fate Fate.Cleared i = omega (arith, length-rows r rs, length-rows (cleared_row r) (kept rs), cleared_short r.stamp)
      by_fate Fate.Same i = omega (arith, length-rows r rs, length-rows r (kept rs))

  -- keys and creators stay, and so do order and bounds
  kept_keys_lem : (lo hi : ℕ) (rs : List Row) → KeysIn lo hi rs → KeysIn lo hi (kept rs)
  unfolding kept_rows
  kept_keys_lem lo hi [] h = h
  kept_keys_lem lo hi (r ∷ rs) h = by_fate (fate_of r) (kept_keys_lem r.key hi rs h.1)
    where
      by_fate : (f : Fate) → KeysIn r.key hi (kept rs) → KeysIn lo hi (on_fate (kept rs) (cleared_row r ∷ kept rs) (r ∷ kept rs) f)
      by_fate Fate.Dropped i = btw_weak r.key lo hi (kept rs) h.0 i
      by_fate Fate.Cleared i = (h.0, i)
      by_fate Fate.Same i = (h.0, i)

  kept_each : (P : Row → Type 0) → ((r : Row) → P r → P (cleared_row r)) → (rs : List Row) → All P rs → All P (kept rs)
  unfolding kept_rows
  kept_each P c [] h = tt
  kept_each P c (r ∷ rs) h = by_fate (fate_of r) (kept_each P c rs h.1)
    where
      by_fate : (f : Fate) → All P (kept rs) → All P (on_fate (kept rs) (cleared_row r ∷ kept rs) (r ∷ kept rs) f)
      by_fate Fate.Dropped i = i
      by_fate Fate.Cleared i = (c r h.0, i)
      by_fate Fate.Same i = (h.0, i)

  kept_sorted : (rs : List Row) → Sorted rs → Sorted (kept rs)
  unfolding kept_rows
  kept_sorted [] h = tt
  kept_sorted (r ∷ rs) h = by_fate (fate_of r) (kept_each (NotAfter r) (λ x a. a) rs h.0) (kept_sorted rs h.1)
    where
      by_fate : (f : Fate) → All (NotAfter r) (kept rs) → Sorted (kept rs) → Sorted (on_fate (kept rs) (cleared_row r ∷ kept rs) (r ∷ kept rs) f)
      by_fate Fate.Dropped a i = i
      by_fate Fate.Cleared a i = (a, i)
      by_fate Fate.Same a i = (a, i)

  kept_keeps : Keeps kept
  kept_keeps = λ lo hi rs b o. (kept_keys_lem lo hi rs b, kept_sorted rs o)

  kept_chain : (t : Shape) → chain (map_s kept t) ≡ kept (chain t)
  kept_chain (leaf p rs) = refl
  kept_chain (node p t) = kept_chain t
  kept_chain (pair a k b) = rw (kept_app (chain a) (chain b), kept_chain a, kept_chain b)

  -- ---- the stores

  -- a leaf with what is kept
  abbrev pub swept : ℕ → List ℕ → List ℕ
  swept p pg = (vacuumed_leaf pg x bound).page

  pub sweeps : (p e : ℕ) (pg : List ℕ) → LeafIs p e pg → Changed kept pg (swept p pg)
  unfolding vacuumed_leaf
  sweeps p e pg is = by_change (changes_rows x bound (rows pg)) refl
    where
      by_change : (b : Bool) → changes_rows x bound (rows pg) ≡ b → Changed kept pg (pick b (write_rows (kept (rows pg)) pg) pg)
      by_change true q = rewritten kept p e pg is (kept_each HasBytes (λ r h. h) (rows pg)) (kept_fits (rows pg)) (kept_short (rows pg))
      by_change false q = unchanged kept p e pg is (kept_same (rows pg) q)

  abbrev pub step : ℕ → ℕ → List ℕ → ℕ
  step n p pg = n + dropped_rows x bound (rows pg)

  module _ (used m d p e : ℕ) (s : List ℕ) (low : p < used) (is : LeafIs p e (page s p)) where
    pub sweep-end : next_leaf (page s p) ≡ 0 → vacuumed_along s used p x bound (suc m) d ≡ ended (step d p (page s p)) (changed_at kept swept sweeps p s)
    unfolding vacuumed_leaf
    sweep-end z = sym (vacuum-end x bound used d p s low refl is.judged refl refl refl (suc m) (omega arith) z)

    pub sweep_on : (n : ℕ) → next_leaf (page s p) ≡ n → (n ≡ 0 → ⊥)
        → vacuumed_along s used p x bound (suc m) d ≡ vacuumed_along (changed_at kept swept sweeps p s) used n x bound m (step d p (page s p))
    unfolding vacuumed_leaf
    sweep_on n q z =
        sym (vacuum_on x bound used d p s low refl is.judged refl refl (sym q) (suc m) {k = m} refl z)

  module _ (s : List ℕ) (root used : ℕ) (t : Shape) (w : WellFormed (view s) root used t) where
    judged : judged_along s used (first t) ≡ Ok tt
    unfolding judged_along
    judged = rw (walk_all look_leaf (λ n p pg. n) (λ n p pg e j. rw j) s root used t w tt)

    abbrev after : List ℕ
    after = changed kept swept sweeps (locs t top) s

    module _ (h : PoolHas used s) where
      vacuumed : vacuumed_along s used (first t) x bound used 0 ≡ ended (dropped_rows x bound (chain t)) after
      vacuumed =
          let walked = change_first kept swept sweeps {A = ℕ} {B = Ended ℕ} used (λ m d p y. vacuumed_along y used p x bound m d) (λ d y. ended d y) (λ rs. false) step
          (λ m d p e y low is l. absurd (let z : ◌≡◌ {A = ℕ} 0 1 = cc in omega arith)) (λ m d p e y low is l z. sweep-end used m d p e y low is z)
          (λ m d p e n y low is l q z. sweep_on used m d p e y low is n q z) s root t w h 0 in
          let count : gather step s 0 (locs t top) ≡ 0 + dropped_rows x bound (chain t) =
          gather_chain step s used (λ n rs. n + dropped_rows x bound rs) (λ n p pg e j. refl) (λ n. omega (arith, dropped-none))
          (λ n xs ys. omega (arith, dropped_app xs ys)) t (at_leaves s root used t w (locs t top) (locs_plug t top)) 0 in
          let zero-on : 0 + dropped_rows x bound (chain t) ≡ dropped_rows x bound (chain t) = omega arith in
          walked ∙ rw (up_to_end (locs t top), count, zero-on)

      tree_of : Mapped kept swept sweeps s after root used t
      tree_of =
          mapped kept swept sweeps s root used t w h kept_keeps [] (locs t top) [] (sym (append-nil (locs t top))) tt tt

-- ---- the call

pub record Vacuums (s : List ℕ) (st : State) (bound : ℕ) (ss : Statuses) (t : Shape) : Type 0 where
  pub pool : List ℕ
  pub tree : Shape
  pub answer : vacuum_call s st ss bound ≡ ended (done (dropped_rows (lookup ss) bound (chain t))) pool
  pub bytes : AreBytes pool
  pub long : length pool ≡ length s
  pub holds : WellFormed (view pool) st.root st.used tree
  pub rows_are : chain tree ≡ kept_rows (lookup ss) bound (chain t)

pub vacuum_does : (s : List ℕ) (st : State) (t : Shape) → AreBytes s → good_pool s st ≡ true → WellFormed (view s) st.root st.used t
    → (bound : ℕ) (ss : Statuses) → good_statuses ss ≡ true → Vacuums s st bound ss t
vacuum_does s st t B good w bound ss listed =
    let x = lookup ss in
    let h : PoolHas st.used s = record { bytes = B; room = (pool-is s st good).room } in
    let m = tree_of x bound s st.root st.used t w h in
    let run =
    vacuum-done s st bound ss refl good refl listed refl (descend-first s st.root st.used t w) refl (judged x bound s st.root st.used t w)
    (sym (vacuumed x bound s st.root st.used t w h)) in
    record {
      pool = after x bound s st.root st.used t w;
      tree = map_s (kept x bound) t;
      answer = sym (vacuum-call s st bound ss run refl);
      bytes = m.bytes;
      long = m.long;
      holds = m.holds;
      rows_are = kept_chain x bound t;
    }
