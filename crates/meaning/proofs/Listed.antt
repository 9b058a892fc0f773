-- The list of section 8's cases: most are proved where their rules stand, and gathered here; new are vacuum of an empty tree
-- and the limit of data. Assumes nothing.
use Rattle.std.proofs.Common.{Ok}
use mathlib.Core.Path.{◌≡◌, refl, sym, ap}
use mathlib.Core.Bool.{true, false}
use mathlib.Core.List.{List}
use Prim.Native.Nat.{ℕ}
use native.Mathlib.Omega.{arith}
use Rattle.page.specs.Page.{page, set_page}
use Rattle.page.specs.Pool.{good_pool}
use Rattle.page.specs.declared.pool.State.{State}
use Rattle.mvcc.specs.Snapshot.{lookup, good_statuses, Statuses}
use Rattle.leaf.specs.Cells.{cells_of}
use Rattle.leaf_vacuum.specs.Vacuum.{Swept, dropped_rows, changes_rows, vacuumed_leaf}
use Rattle.tree.specs.Chain.{go, along}
use Rattle.tree.specs.Create.{rooted, created_pool}
use Rattle.tree.specs.declared.Route.{Route}
use Rattle.call_answers.specs.Answer.{done, ended}
use Rattle.call_read.specs.Create.{create_call, has_page}
use Rattle.call_insert.specs.Insert.{version_ready, insert_version_run, insert_version_call, insert_ready, insert_run, insert_call}
use Rattle.call_clean.specs.Vacuum.{look_leaf, judged_along, vacuumed_along, vacuum_run, vacuum_call}
use Rattle.meaning.specs.Cases.{DataLimit, Cases}
use Rattle.page.proofs.PageLaws.{set_page-page}
use Rattle.mvcc.proofs.Rules.{rules_hold}
use Rattle.leaf.proofs.Choosing.{lookup_chooses}
use Rattle.leaf.proofs.CutFacts.{cut_cases}
use Rattle.inner_edit.proofs.Facts.{entry_enters, halves_divide}
use Rattle.tree.proofs.Ways.{along-end}
use Rattle.theory_grow.proofs.Cases.{pinned_root, moved-root}
use Rattle.call_read.proofs.Emptiness.{Empty, empty_judged, Alone, comes_to, created_alone, created_good, create-is_empty, tie_to_first}
use Rattle.call_clean.proofs.Storing.{vacuum-end}

-- ---- P1: vacuum of an empty tree

-- no row to drop: the page stays
empty_vacuumed : (f : ℕ → ℕ) (bound : ℕ) {pg : List ℕ} → Empty pg → vacuumed_leaf pg f bound ≡ record { page = pg; told = record { dropped = 0; changed = false } }
unfolding vacuumed_leaf dropped_rows changes_rows cells_of
empty_vacuumed f bound e = rw e.count

module _ (used root : ℕ) (s : List ℕ) (t : Alone used root s) where
  chain-judged : judged_along s used root ≡ Ok tt
  unfolding judged_along
  chain-judged =
      let here : look_leaf tt root (page s root) ≡ go tt = rw (empty_judged t.empty root) in
      let all : along s used root look_leaf used tt ≡ Ok tt =
      sym (along-end look_leaf used tt root s t.in_use refl used (omega (arith, t.in_use)) here refl t.empty.next) in
      rw all

  chain-stays : (f : ℕ → ℕ) (bound : ℕ) → vacuumed_along s used root f bound used 0 ≡ ended 0 s
  chain-stays f bound =
      let w = empty_vacuumed f bound t.empty in
      let same : s ≡ set_page root (vacuumed_leaf (page s root) f bound).page s = rw w (sym (set_page-page root s)) in
      sym
      (vacuum-end f bound used 0 root s t.in_use (sym (empty_judged t.empty root)) refl (sym (ap (λ (x : Swept). x.told) w)) same refl
      used (omega (arith, t.in_use)) t.empty.next)

vacuum_empty : (s : List ℕ) (st : State) (bound : ℕ) (ss : Statuses) → good_pool s st ≡ true → good_statuses ss ≡ true → Alone st.used st.root s
    → vacuum_call s st ss bound ≡ ended (done 0) s
unfolding vacuum_call vacuum_run
vacuum_empty s st bound ss good listed t =
    rw (
      good,
      listed,
      comes_to t Route.First,
      chain-judged st.used st.root s t,
      chain-stays st.used st.root s t (lookup ss) bound,
    )

vacuum_created : (s : List ℕ) (st : State) (bound : ℕ) (ss : Statuses) → good_pool s st ≡ true → has_page s st ≡ true → good_statuses ss ≡ true
    → vacuum_call (create_call s st).pool (rooted s st) ss bound ≡ ended (done 0) (create_call s st).pool
unfolding create_call
vacuum_created s st bound ss good left listed =
    rw (good, left) (vacuum_empty (created_pool s st) (rooted s st) bound ss (created_good s st left good) listed (created_alone s st left))

-- ---- P2: the limit of data

data_limit : DataLimit
unfolding insert_ready insert_run insert_call version_ready insert_version_run insert_version_call
data_limit =
    record {
      passes = λ s st key cur ss good listed. rw (good, listed);
      version_passes = λ s st key creator stamp pointer good. rw good;
      refused_data = λ s st key body cur ss good listed long. rw (good, listed, long);
      version_refused = λ s st key creator stamp pointer body good long. rw (good, long);
    }

-- ---- the list

pub cases : Cases
cases =
    record {
      p1 = create-is_empty;
      p1_vacuum = vacuum_created;
      p2 = data_limit;
      p3_fits = entry_enters;
      p3_divides = halves_divide;
      p4_p5_p6 = cut_cases;
      p7_p8 = rules_hold;
      p9_lookup = lookup_chooses;
      p9_listing = tie_to_first;
      p10 = pinned_root;
      moved = moved-root;
    }
