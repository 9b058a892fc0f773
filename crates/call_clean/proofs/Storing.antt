-- The ways out of the walks that store, one law each: what is left to do, from the pool as it is now, gives what all of it
-- gives. Assumes nothing.
use Rattle.std.proofs.Common.{Result, Ok, Err}
use mathlib.Core.Path.{◌≡◌, refl, sym, ◌∙◌}
use mathlib.Core.Bool.{Bool, true, false}
use mathlib.Core.List.{List}
use Prim.Native.Nat.{ℕ, zero, suc, ◌+◌, ◌-◌, ◌*◌, ◌≤◌, ◌<◌}
use native.Mathlib.Omega.{arith}
use borrow.Author.Tests.{lt-ltb, le-ltb, eq-eqb, ne_eqb}
use borrow.Rule.Slice.PartMut.{put_mid}
use lib.ListN.{length}
use Rattle.store.specs.Le.{AreBytes}
use Rattle.page.specs.Page.{page, set_page}
use Rattle.page.specs.Header.{next_leaf}
use Rattle.row.specs.declared.Fault.{Fault}
use Rattle.leaf.specs.Cells.{cells, judge_leaf, has_larger}
use Rattle.leaf.specs.RowFacts.{Sound}
use Rattle.leaf.specs.declared.find.Run.{Run}
use Rattle.leaf_vacuum.specs.Vacuum.{vacuumed_leaf}
use Rattle.leaf_vacuum.specs.declared.Vacuumed.{Vacuumed}
use Rattle.call_answers.specs.Answer.{ended}
use Rattle.call_clean.specs.Steps.Remove.{without_run}
use Rattle.call_clean.specs.Remove.{removed_leaf, removed_along}
use Rattle.call_clean.specs.Vacuum.{vacuumed_along}
use Rattle.page.proofs.PageLaws.{length-page, back_page}
use Rattle.leaf.proofs.Bytes.{bytes-page}
use Rattle.leaf.proofs.Choosing.{any_page}
use Rattle.leaf.proofs.Running.{RunIs, run-count}
use Rattle.leaf_edit.proofs.EditFacts.{run_out}

-- what the pool is when the lent page p has come back as x
pub page_made : (p : ℕ) (s : List ℕ) {y x : List ℕ} → y ≡ x → put_mid (p * 4096) (p * 4096 + 4096 - p * 4096) s y ≡ set_page p x s
page_made p s {y} {x} e = back_page p s y ∙ rw e

-- ---- a leaf without its cells of a key

-- a leaf without its run is the leaf with the rows of the other keys
run_removed : (p key : ℕ) (pg : List ℕ) → AreBytes pg → length pg ≡ 4096 → {run : Run} {e : ℕ} {larger : Bool} → RunIs pg p key run e larger → without_run run e pg ≡ removed_leaf pg key
unfolding removed_leaf
run_removed p key pg B len {run} {e} {larger} r =
    let sound : Sound pg e = record { bytes = B; whole = len; judged = any_page p 0 e pg r.judged } in
    rw (run_out pg p key e run larger sound r, run-count r)

-- what the pool is when its page p has come back without them
pub run_made : (p key : ℕ) (s : List ℕ) → AreBytes s → p * 4096 + 4096 ≤ length s → {run : Run} {e : ℕ} {larger : Bool} → RunIs (page s p) p key run e larger
    → {y : List ℕ} → y ≡ without_run run e (page s p) → put_mid (p * 4096) (p * 4096 + 4096 - p * 4096) s y ≡ set_page p (removed_leaf (page s p) key) s
run_made p key s B h r q = page_made p s (q ∙ run_removed p key (page s p) (bytes-page p s B) (length-page p s h) r)

-- ---- remove

module _ (used key p : ℕ) (s : List ℕ) where
  pub remove-none : (m : ℕ) → m ≤ 0 → s ≡ removed_along s used p key m
  unfolding removed_along
  remove-none zero h = refl
  remove-none (suc m) h = absurd (omega arith)

  pub remove_unused : (m : ℕ) → used ≤ p → s ≡ removed_along s used p key m
  unfolding removed_along
  remove_unused zero h = refl
  remove_unused (suc m) h = rw (le-ltb p used h)

  module _ (h : p < used) where
    pub remove_bad : (m : ℕ) {f : Fault} → judge_leaf (page s p) p ≡ Err f → s ≡ removed_along s used p key m
    unfolding removed_along
    remove_bad zero e = refl
    remove_bad (suc m) e = rw (lt-ltb p used h, e)

    module _ {e : ℕ} (judged : judge_leaf (page s p) p ≡ Ok e) {t : List ℕ} (made : t ≡ set_page p (removed_leaf (page s p) key) s)
        {larger : Bool} (last : has_larger key (cells (page s p)) ≡ larger) where
      pub remove-last : (m : ℕ) → 0 < m → larger ≡ true → t ≡ removed_along s used p key m
      unfolding removed_along
      remove-last zero z l = absurd (omega arith)
      remove-last (suc m) z l = made ∙ rw (lt-ltb p used h, judged, last ∙ l)

      module _ {n : ℕ} (next : n ≡ next_leaf (page s p)) where
        pub remove-end : (m : ℕ) → 0 < m → larger ≡ false → n ≡ 0 → t ≡ removed_along s used p key m
        unfolding removed_along
        remove-end zero z l q = absurd (omega arith)
        remove-end (suc m) z l q = made ∙ rw (lt-ltb p used h, judged, last ∙ l, eq-eqb (next_leaf (page s p)) 0 (sym next ∙ q))

        pub remove_on : (m : ℕ) {k : ℕ} → m ≡ suc k → larger ≡ false → (n ≡ 0 → ⊥) → removed_along t used n key k ≡ removed_along s used p key m
        unfolding removed_along
        remove_on zero z l q = absurd (omega arith)
        remove_on (suc m) {k} z l q =
            let w : m ≡ k = omega arith in
            rw (lt-ltb p used h, judged, last ∙ l, ne_eqb (next_leaf (page s p)) 0 (λ u. q (next ∙ u)), w, next, made)

-- ---- vacuum

module _ (st : ℕ → ℕ) (bound used d p : ℕ) (s : List ℕ) where
  pub vacuum-none : (m : ℕ) → m ≤ 0 → ended d s ≡ vacuumed_along s used p st bound m d
  unfolding vacuumed_along
  vacuum-none zero h = refl
  vacuum-none (suc m) h = absurd (omega arith)

  pub vacuum_unused : (m : ℕ) → used ≤ p → ended d s ≡ vacuumed_along s used p st bound m d
  unfolding vacuumed_along
  vacuum_unused zero h = refl
  vacuum_unused (suc m) h = rw (le-ltb p used h)

  module _ (h : p < used) {r : Result ℕ Fault} (said : r ≡ judge_leaf (page s p) p) where
    pub vacuum_bad : (m : ℕ) {f : Fault} → r ≡ Err f → ended d s ≡ vacuumed_along s used p st bound m d
    unfolding vacuumed_along
    vacuum_bad zero e = refl
    vacuum_bad (suc m) e = rw (lt-ltb p used h, sym said ∙ e)

    module _ {e : ℕ} (good : r ≡ Ok e) {w : Vacuumed} (told : w ≡ (vacuumed_leaf (page s p) st bound).told) {t : List ℕ}
        (made : t ≡ set_page p (vacuumed_leaf (page s p) st bound).page s) {n : ℕ} (next : n ≡ next_leaf (page s p)) where
      pub vacuum-end : (m : ℕ) → 0 < m → n ≡ 0 → ended (d + w.dropped) t ≡ vacuumed_along s used p st bound m d
      unfolding vacuumed_along
      vacuum-end zero z q = absurd (omega arith)
      vacuum-end (suc m) z q = rw (told, made, lt-ltb p used h, sym said ∙ good, eq-eqb (next_leaf (page s p)) 0 (sym next ∙ q))

      pub vacuum_on : (m : ℕ) {k : ℕ} → m ≡ suc k → (n ≡ 0 → ⊥) → vacuumed_along t used n st bound k (d + w.dropped) ≡ vacuumed_along s used p st bound m d
      unfolding vacuumed_along
      vacuum_on zero z q = absurd (omega arith)
      vacuum_on (suc m) {k} z q =
          let v : m ≡ k = omega arith in
          rw (told, made, lt-ltb p used h, sym said ∙ good, ne_eqb (next_leaf (page s p)) 0 (λ u. q (next ∙ u)), v, next)
