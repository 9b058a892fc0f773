-- The reading calls refuse as demand 1 has it: create, check, lookup, conflict, and the listings, of which none but a Done
-- one changes the output. Assumes nothing.
use Rattle.std.proofs.Common.{Option, Some, None, Result, Ok, Err}
use mathlib.Core.Path.{◌≡◌, refl}
use mathlib.Core.Bool.{Bool, false}
use mathlib.Core.List.{List, [], ◌∷◌}
use Prim.Native.Nat.{ℕ}
use lib.Dec.{leb}
use lib.ListN.{length}
use Rattle.page.specs.Pool.{good_pool}
use Rattle.page.specs.declared.pool.State.{State}
use Rattle.row.specs.declared.Fault.{Fault}
use Rattle.row.specs.declared.Cell.{Cell}
use Rattle.leaf.specs.Rows.{Row}
use Rattle.leaf.specs.Find.{Best}
use Rattle.mvcc.specs.Lists.{mem, rising, good_active}
use Rattle.mvcc.specs.Snapshot.{lookup, good_statuses, Snapshot, Statuses, good_snapshot, plain_snapshot, no_statuses}
use Rattle.tree.specs.Descend.{descend_of, on_leaf}
use Rattle.tree.specs.Lookup.{best_in_tree, test_in_tree}
use Rattle.tree.specs.declared.Route.{Route}
use Rattle.list_records.specs.Records.{records}
use Rattle.list_records.specs.Listed.{fitted}
use Rattle.list_versions.specs.Gather.{rows_along}
use Rattle.list_versions.specs.Listed.{listed_rows, route_of, list_tree}
use Rattle.list_versions.specs.declared.Which.{Which}
use Rattle.list_pages.specs.Numbers.{on_told, numbers_of, number_records, numbers_tree}
use Rattle.list_visible.specs.Visible.{chain_rows, scan_rows, listed_visible, scan_tree}
use Rattle.call_answers.specs.declared.Refusal.{Refusal}
use Rattle.call_answers.specs.Answer.{faulty, written, Written, number_of, refusal_of, hide, hide_list}
use Rattle.call_answers.specs.declared.Refused.{Refused}
use Rattle.call_read.specs.Create.{has_page, create_call}
use Rattle.call_read.specs.Find.{looked_best, find_visible_run, placed, find_visible_call, find_call}
use Rattle.call_read.specs.Conflict.{test_outcome, conflict_call}
use Rattle.call_read.specs.Check.{check_call}
use Rattle.call_read.specs.Listings.{list_run, versions_of_call, all_versions_call}
use Rattle.call_read.specs.Numbers.{numbers_run, page_numbers_call}
use Rattle.call_read.specs.Scan.{scan_run, scan_visible_call}
use Rattle.meaning.specs.Refusals.{Refuses, KeepsOutput, ReadsRefuse, Keeps}
use Rattle.meaning.proofs.Refusing.{Known, AnswerKnown, either, done-refuses, refused-refuses}

-- ---- create and check

module _ (s : List ℕ) (st : State) where
  create-keeps : Keeps s (1 ∷ 10 ∷ []) (create_call s st)
  unfolding create_call mem
  create-keeps =
      either (Keeps s _) (good_pool s st)
      (λ e.
      either (Keeps s _) (has_page s st) (λ e. record { refuses = done-refuses _ _; stays = λ n. absurd (n refl) })
      (λ e. record { refuses = refused-refuses _ 10 refl; stays = λ n. refl }))
      (λ e. record { refuses = refused-refuses _ 1 refl; stays = λ n. refl })

  check-refuses : Refuses (1 ∷ []) (check_call s st)
  unfolding check_call mem
  check-refuses = either (Refuses _) (good_pool s st) (λ e. done-refuses _ _) (λ e. refused-refuses _ 1 refl)

-- ---- lookup

module _ (ns : List ℕ) where
  best-known : Known ns 2 → Known ns 8 → (b : Result Best Fault) → AnswerKnown ns (looked_best b)
  best-known two eight (Ok (Some (p, c))) = tt
  best-known two eight (Ok None) = eight
  best-known two eight (Err f) = two

  pub looked_known : (s : List ℕ) (st : State) (key : ℕ) (sn : Snapshot) (ss : Statuses)
      → Known ns 1 → (good_snapshot sn ≡ false → Known ns 3) → Known ns 4 → Known ns 2 → Known ns 8
      → AnswerKnown ns (find_visible_run s st key sn ss)
  unfolding find_visible_run
  looked_known s st key sn ss one three four two eight =
      either (AnswerKnown ns) (good_pool s st)
      (λ e.
      either (AnswerKnown ns) (good_snapshot sn)
      (λ e.
      either (AnswerKnown ns) (good_statuses ss)
      (λ e. best-known two eight (best_in_tree s st.used st.root key sn (lookup ss)))
      (λ e. four))
      three)
      (λ e. one)

  placed-refuses : (r : Result (ℕ × Cell) Refused) → AnswerKnown ns r → Refuses ns (hide (placed r))
  placed-refuses (Ok (p, c)) k = done-refuses ns _
  placed-refuses (Err r) k = refused-refuses ns _ k

-- the plain snapshot's list is never refused
pub plain-active : {A : Type 0} → good_active [] ≡ false → A
unfolding good_active rising
plain-active e = absurd (cc)

find-visible-refuses : (s : List ℕ) (st : State) (key : ℕ) (sn : Snapshot) (ss : Statuses)
    → Refuses (1 ∷ 3 ∷ 4 ∷ 2 ∷ 8 ∷ []) (find_visible_call s st key sn ss)
unfolding find_visible_call mem
find-visible-refuses s st key sn ss =
    placed-refuses _ (find_visible_run s st key sn ss) (looked_known (1 ∷ 3 ∷ 4 ∷ 2 ∷ 8 ∷ []) s st key sn ss refl (λ e. refl) refl refl refl)

find-refuses : (s : List ℕ) (st : State) (key : ℕ) (cur : Option ℕ) (ss : Statuses) → Refuses (1 ∷ 4 ∷ 2 ∷ 8 ∷ []) (find_call s st key cur ss)
unfolding find_call find_visible_call mem
find-refuses s st key cur ss =
    placed-refuses _ (find_visible_run s st key (plain_snapshot cur) ss)
    (looked_known (1 ∷ 4 ∷ 2 ∷ 8 ∷ []) s st key (plain_snapshot cur) ss refl plain-active refl refl refl)

-- ---- conflict

told-refuses : (ns : List ℕ) → Known ns 2 → (t : Result Bool Fault) → Refuses ns (test_outcome t)
told-refuses ns two (Ok b) = done-refuses ns b
told-refuses ns two (Err f) = refused-refuses ns 2 two

conflict-refuses : (s : List ℕ) (st : State) (key seen : ℕ) (sn : Snapshot) → Refuses (1 ∷ 3 ∷ 2 ∷ []) (conflict_call s st key sn seen)
unfolding conflict_call mem
conflict-refuses s st key seen sn =
    either (Refuses _) (good_pool s st)
    (λ e.
    either (Refuses _) (good_snapshot sn)
    (λ e. told-refuses _ refl (test_in_tree s st.used st.root key sn (lookup no_statuses) false seen))
    (λ e. refused-refuses _ 3 refl))
    (λ e. refused-refuses _ 1 refl)

-- ---- the listings

-- only a listing that is Done changes the output
module _ (out ns : List ℕ) where
  abbrev Ends : Written (Result ℕ Refused) → Type 0
  Ends w = KeepsOutput out ns (hide_list w)

  not_listed : (r : Refused) → Known ns (number_of r.refusal) → Ends (written (Err r) out)
  not_listed r k = record { refuses = refused-refuses ns _ k; stays = λ h. refl }

  module _ (two : Known ns 2) (twelve : Known ns 12) where
    fitted_ends : (x : List ℕ) → Ends (fitted x out)
    unfolding fitted
    fitted_ends x =
        either Ends (leb (length x) (length out)) (λ e. record { refuses = done-refuses ns _; stays = λ h. absurd (h refl) })
        (λ e. not_listed (refusal_of Refusal.Short) twelve)

    list_ends : (w : Which) (used root : ℕ) (s : List ℕ) → Ends (list_tree s used root w out)
    unfolding list_tree
    list_ends w used root s = by_way (descend_of s used root (route_of w) 3)
      where
        by_rows : (t : Result (List Row) Fault) → Ends (listed_rows t out)
        by_rows (Ok rs) = fitted_ends (records rs)
        by_rows (Err f) = not_listed (faulty f) two

        by_way : (d : Result ℕ Fault) → Ends (on_leaf (λ p. listed_rows (rows_along s used p w) out) (λ f. written (Err (faulty f)) out) d)
        by_way (Ok p) = by_rows (rows_along s used p w)
        by_way (Err f) = not_listed (faulty f) two

    numbers_ends : (used root : ℕ) (s : List ℕ) → Ends (numbers_tree s used root out)
    unfolding numbers_tree
    numbers_ends used root s = by_told (numbers_of s used root)
      where
        by_told : (t : Result (List ℕ) Fault) → Ends (on_told (λ l. fitted (number_records l) out) (λ f. written (Err (faulty f)) out) t)
        by_told (Ok l) = fitted_ends (number_records l)
        by_told (Err f) = not_listed (faulty f) two

    scan_ends : (sn : Snapshot) (st : ℕ → ℕ) (used root : ℕ) (s : List ℕ) → Ends (scan_tree s used root sn st out)
    unfolding scan_tree
    scan_ends sn st used root s = by_way (descend_of s used root Route.First 3)
      where
        by_rows : (t : Result (List Row) Fault) → Ends (listed_visible sn st out t)
        by_rows (Ok rs) = fitted_ends (records (scan_rows sn st rs))
        by_rows (Err f) = not_listed (faulty f) two

        by_way : (d : Result ℕ Fault) → Ends (on_leaf (λ p. listed_visible sn st out (chain_rows s used p)) (λ f. written (Err (faulty f)) out) d)
        by_way (Ok p) = by_rows (chain_rows s used p)
        by_way (Err f) = not_listed (faulty f) two

module _ (out s : List ℕ) (st : State) where
  list_keeps : (w : Which) → KeepsOutput out (1 ∷ 2 ∷ 12 ∷ []) (hide_list (list_run s st w out))
  unfolding list_run mem
  list_keeps w =
      either (Ends out _) (good_pool s st) (λ e. list_ends out _ refl refl w st.used st.root s) (λ e. not_listed out _ (refusal_of Refusal.BadPool) refl)

  versions-keeps : (key : ℕ) → KeepsOutput out (1 ∷ 2 ∷ 12 ∷ []) (versions_of_call s st key out)
  unfolding versions_of_call
  versions-keeps key = list_keeps (Which.Key key)

  all_keeps : KeepsOutput out (1 ∷ 2 ∷ 12 ∷ []) (all_versions_call s st out)
  unfolding all_versions_call
  all_keeps = list_keeps Which.All

  numbers_keeps : KeepsOutput out (1 ∷ 2 ∷ 12 ∷ []) (page_numbers_call s st out)
  unfolding page_numbers_call numbers_run mem
  numbers_keeps =
      either (Ends out _) (good_pool s st) (λ e. numbers_ends out _ refl refl st.used st.root s) (λ e. not_listed out _ (refusal_of Refusal.BadPool) refl)

  scan-keeps : (sn : Snapshot) (ss : Statuses)
      → KeepsOutput out (1 ∷ 3 ∷ 4 ∷ 2 ∷ 12 ∷ []) (scan_visible_call s st sn ss out)
  unfolding scan_visible_call scan_run mem
  scan-keeps sn ss =
      either (Ends out _) (good_pool s st)
      (λ e.
      either (Ends out _) (good_snapshot sn)
      (λ e.
      either (Ends out _) (good_statuses ss) (λ e. scan_ends out _ refl refl sn (lookup ss) st.used st.root s)
      (λ e. not_listed out _ (refusal_of Refusal.BadStatuses) refl))
      (λ e. not_listed out _ (refusal_of Refusal.BadSnapshot) refl))
      (λ e. not_listed out _ (refusal_of Refusal.BadPool) refl)

pub reads_refuse : ReadsRefuse
reads_refuse =
    record {
      create = create-keeps;
      check = check-refuses;
      find_visible = find-visible-refuses;
      find = find-refuses;
      conflict = conflict-refuses;
      versions_of = λ s st key out. versions-keeps out s st key;
      all_versions = λ s st out. all_keeps out s st;
      scan_visible = λ s st sn ss out. scan-keeps out s st sn ss;
      page_numbers = λ s st out. numbers_keeps out s st;
    }
