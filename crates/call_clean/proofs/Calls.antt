-- The ways out of remove and vacuum, one law each. Assumes nothing.
use Rattle.call_answers.specs.declared.Refusal.{Refusal}
use Rattle.call_answers.specs.declared.Refused.{Refused}
use Rattle.std.proofs.Common.{Result, Ok, Err}
use mathlib.Core.Path.{◌≡◌, sym, ap, ◌∙◌}
use mathlib.Core.Bool.{Bool, true, false}
use mathlib.Core.List.{List}
use Prim.Native.Nat.{ℕ}
use Rattle.page.specs.Pool.{good_pool}
use Rattle.page.specs.declared.pool.State.{State}
use Rattle.row.specs.declared.Fault.{Fault}
use Rattle.mvcc.specs.Snapshot.{lookup, good_statuses, Statuses}
use Rattle.tree.specs.Descend.{descend_of}
use Rattle.tree.specs.declared.Route.{Route}
use Rattle.call_answers.specs.Answer.{ended, Outcome, faulty, refusal_of, hide_end, hide}
use Rattle.call_clean.specs.Remove.{count_along, removed_along, remove_run, remove_call}
use Rattle.call_clean.specs.Vacuum.{judged_along, vacuumed_along, vacuum_run, vacuum_call}

-- ---- remove

module _ (s : List ℕ) (st : State) (key : ℕ) {a : Bool} (pool : a ≡ good_pool s st) where
  pub remove-pool : {r : Result ℕ Refused} → a ≡ false → r ≡ Err (refusal_of Refusal.BadPool) → ended r s ≡ remove_run s st key
  unfolding remove_run
  remove-pool t u = rw (sym pool ∙ t, u)

  module _ (good : a ≡ true) {d : Result ℕ Fault} (way : d ≡ descend_of s st.used st.root (Route.Search key) 3) where
    module _ {p : ℕ} (leaf : d ≡ Ok p) {c : Result ℕ Fault} (count : c ≡ count_along s st.used p key) where
      pub remove-ill : {f : Fault} {r : Result ℕ Refused} → c ≡ Err f → r ≡ Err (faulty f) → ended r s ≡ remove_run s st key
      unfolding remove_run
      remove-ill e u = rw (sym pool ∙ good, sym way ∙ leaf, sym count ∙ e, u)

      pub remove-done : {n : ℕ} {t : List ℕ} → c ≡ Ok n → t ≡ removed_along s st.used p key st.used → ended (Ok n) t ≡ remove_run s st key
      unfolding remove_run
      remove-done e u = rw (sym pool ∙ good, sym way ∙ leaf, sym count ∙ e, u)

pub remove-call : (s : List ℕ) (st : State) (key : ℕ) {rank : ℕ} {r : Result ℕ Refused} {t : List ℕ} {o : Outcome ℕ} → rank ≡ key → ended r t ≡ remove_run s st rank → o ≡ hide r
    → ended o t ≡ remove_call s st key
unfolding remove_call
remove-call s st key k run told = rw (told, ← k) (ap hide_end run)

-- ---- vacuum

module _ (s : List ℕ) (st : State) (bound : ℕ) (ss : Statuses) {a : Bool} (pool : a ≡ good_pool s st) where
  pub vacuum-pool : {r : Result ℕ Refused} → a ≡ false → r ≡ Err (refusal_of Refusal.BadPool) → ended r s ≡ vacuum_run s st ss bound
  unfolding vacuum_run
  vacuum-pool t u = rw (sym pool ∙ t, u)

  module _ (good : a ≡ true) {b : Bool} (list : b ≡ good_statuses ss) where
    pub vacuum-statuses : {r : Result ℕ Refused} → b ≡ false → r ≡ Err (refusal_of Refusal.BadStatuses) → ended r s ≡ vacuum_run s st ss bound
    unfolding vacuum_run
    vacuum-statuses t u = rw (sym pool ∙ good, sym list ∙ t, u)

    module _ (list-good : b ≡ true) {d : Result ℕ Fault} (way : d ≡ descend_of s st.used st.root Route.First 3) where
      module _ {p : ℕ} (leaf : d ≡ Ok p) {c : Result Unit Fault} (judged : c ≡ judged_along s st.used p) where
        pub vacuum-ill : {f : Fault} {r : Result ℕ Refused} → c ≡ Err f → r ≡ Err (faulty f) → ended r s ≡ vacuum_run s st ss bound
        unfolding vacuum_run
        vacuum-ill e u = rw (sym pool ∙ good, sym list ∙ list-good, sym way ∙ leaf, sym judged ∙ e, u)

        pub vacuum-done : {n : ℕ} {t : List ℕ} → c ≡ Ok tt → ended n t ≡ vacuumed_along s st.used p (lookup ss) bound st.used 0
            → ended (Ok n) t ≡ vacuum_run s st ss bound
        unfolding vacuum_run
        vacuum-done e u = rw (sym pool ∙ good, sym list ∙ list-good, sym way ∙ leaf, sym judged ∙ e, ← u)

pub vacuum-call : (s : List ℕ) (st : State) (bound : ℕ) (ss : Statuses) {r : Result ℕ Refused} {t : List ℕ} {o : Outcome ℕ} → ended r t ≡ vacuum_run s st ss bound
    → o ≡ hide r → ended o t ≡ vacuum_call s st ss bound
unfolding vacuum_call
vacuum-call s st bound ss run told = rw told (ap hide_end run)
