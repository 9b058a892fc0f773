-- Two claims that meet all premises of the second half of demand 3: each alone stamps the one row of a root leaf, which has room.
-- Assumes nothing.
use Rattle.std.proofs.Common.{None, Ok}
use mathlib.Core.Path.{◌≡◌, refl, sym, ap, ◌∙◌}
use mathlib.Core.Bool.{true, false}
use mathlib.Core.List.{List, [], ◌∷◌, map}
use Prim.Native.Nat.{ℕ, ◌+◌, ◌-◌, ◌*◌}
use native.Mathlib.Omega.{arith}
use lib.Dec.{ltb, eqb}
use lib.ListN.{length}
use borrow.Author.Tests.{le-ltb}
use Rattle.store.specs.Part.{zeros}
use Rattle.page.specs.Page.{page}
use Rattle.page.specs.declared.pool.State.{State}
use Rattle.row.specs.declared.Cell.{Cell}
use Rattle.mvcc.specs.Lists.{state_at, rising_from, rising, are_states, mem, good_active}
use Rattle.mvcc.specs.Snapshot.{lookup, good_statuses, no_statuses}
use Rattle.mvcc.specs.Rules.{is_current, of_deleter, finished_with, finished_before, visible, changed_after, conflicting, claim_conflicting}
use Rattle.leaf.specs.Cells.{cells, fold_cells}
use Rattle.leaf.specs.Find.{newest}
use Rattle.leaf.specs.Rows.{Row, row_of, rows, rows_bytes}
use Rattle.tree.specs.Climb.{path_of}
use Rattle.page.specs.Pool.{Grown, grown}
use Rattle.tree_room.specs.Room.{fitting, room_of}
use Rattle.tree_stamp.specs.Target.{beside_of, target_of}
use Rattle.tree_stamp.specs.Stamp.{longer, bytes_stamped, cut_stamped, stamp_plan}
use Rattle.tree_stamp.specs.Ready.{marking_at}
use Rattle.call_read.specs.Find.{find_visible_run}
use Rattle.call_stamp.specs.Mark.{conflict_told, mark_ready}
use Rattle.call_stamp.specs.Claim.{claim_ready, claim_run, claim_call}
use Rattle.theory_tree.specs.Pages.{Pages, leaf_page, with_page}
use Rattle.theory_tree.specs.View.{view}
use Rattle.theory_tree.specs.Shape.{Shape, leaf, WellFormed}
use Rattle.meaning.specs.Trees.{TreeIn}
use Rattle.meaning.specs.Meant.{live_row}
use Rattle.meaning.specs.Change.{claims, run}
use Rattle.meaning.specs.Example.{TwoClaimants, teacher}
use Rattle.page.proofs.PageLaws.{length-page}
use Rattle.page.proofs.PoolLaws.{pool-is}
use Rattle.leaf.proofs.Bytes.{bytes-page}
use Rattle.leaf.proofs.Chain.{judged-leaf}
use Rattle.leaf.proofs.RowFacts.{rows_fill}
use Rattle.leaf.proofs.Rowing.{end_of, length-rows}
use Rattle.theory_tree.proofs.Contexts.{top}
use Rattle.theory_walks.proofs.Walking.{AtLeaf, at_leaf}
use Rattle.theory_walks.proofs.Looking.{best-told, test_is}
use Rattle.meaning.proofs.Judging.{leaf-planned}
use Rattle.meaning.proofs.ExistingPools.{row_made, Pool, blank_pool, with_made, pool-tree}

abbrev seat : Row
seat = live_row 7 5 (1 ∷ 2 ∷ [])

-- ---- a leaf of one row has one cell

record OneCell (pg : List ℕ) (r : Row) : Type 0 where
  cell : Cell
  are : cells pg ≡ cell ∷ []
  is : row_of pg cell ≡ r

one_cell : (pg : List ℕ) (r : Row) → rows pg ≡ r ∷ [] → OneCell pg r
one_cell pg r e = by_cells (cells pg) refl e
  where
    by_cells : (cs : List Cell) → cells pg ≡ cs → map (row_of pg) cs ≡ r ∷ [] → OneCell pg r
    by_cells [] q e = absurd (let z : ◌≡◌ {A = ℕ} 0 1 = ap length e in omega arith)
    by_cells (c ∷ []) q e = record { cell = c; are = q; is = cc }
    by_cells (c ∷ d ∷ cs) q e = absurd (let z = ap length e in omega arith)

abbrev alone : Shape
alone = leaf 0 (seat ∷ [])

-- ---- a claim on a tree of that leaf

module _ (g : Grown) (tree : TreeIn g alone) where
  abbrev pg : List ℕ
  pg = page g.pool 0

  abbrev root : ℕ
  root = g.state.root

  abbrev used : ℕ
  used = g.state.used

  at : AtLeaf g.pool used (record { ctx = top; page = 0; cells = seat ∷ [] })
  at = at_leaf g.pool root used alone tree.formed _ refl

  one : OneCell pg seat
  one = one_cell pg seat at.says.rows_are

  -- it ends far from the page's end
  ends : one.cell.next ≡ 33
  unfolding end_of rows_bytes
  ends =
      let room = (pool-is g.pool g.state tree.good).room in
      let low = at.in_use in
      let whole : length pg ≡ 4096 = length-page 0 g.pool (omega arith) in
      let fills : 12 + length (rows_bytes (rows pg)) ≡ at.end =
      (rows_fill pg at.end (record { bytes = bytes-page 0 g.pool tree.bytes; whole = whole; judged = at.judged })).0 in
      let last : end_of 12 (cells pg) ≡ at.end = (judged-leaf 0 pg at.end at.judged).end in
      let size : length (rows_bytes (rows pg)) ≡ 21 = ap (λ (l : List Row). length (rows_bytes l)) at.says.rows_are ∙ length-rows seat [] in
      let here : one.cell.next ≡ at.end = rw one.are at last in
      omega arith

  -- the stamped leaf is not overfull
  fits : ltb 4084 (bytes_stamped (target_of pg 0 one.cell)) ≡ false
  unfolding beside_of fold_cells
  fits = rw one.are (le-ltb 4084 (one.cell.next - 12 + longer one.cell) (omega (arith, ends)))

  plans : stamp_plan g.pool g.state (target_of pg 0 one.cell) ≡ Ok (fitting (path_of (0 ∷ [])))
  unfolding stamp_plan
  plans = rw fits (leaf-planned g alone tree top 0 (seat ∷ []) refl false (cut_stamped pg (target_of pg 0 one.cell)))

  creator : one.cell.version.creator ≡ 5
  creator = ap (λ (r : Row). r.creator) one.is

  -- by a transaction that sees the row, meets no conflict and is not 0
  module _ (n : ℕ) (sees : visible (teacher n) (lookup no_statuses) 5 None ≡ true) where
    finds : find_visible_run g.pool g.state 7 (teacher n) no_statuses ≡ Ok (0, one.cell)
    unfolding find_visible_run good_active good_statuses rising_from rising are_states fold_cells newest
    finds =
        let told = best-told (teacher n) (lookup no_statuses) 7 g.pool root used alone tree.formed in
        let key : one.cell.key ≡ 7 = ap (λ (r : Row). r.key) one.is in
        let stamp : one.cell.version.stamp ≡ None = ap (λ (r : Row). r.stamp) one.is in
        rw (tree.good, told, one.are, key, creator, stamp, sees)

    module _ (free : claim_conflicting (teacher n) (lookup no_statuses) 5 5 None ≡ false) (some : eqb n 0 ≡ false) where
      unmet : conflict_told g.pool g.state 7 (teacher n) no_statuses true 5 ≡ Ok false
      unmet = test_is true (teacher n) (lookup no_statuses) 5 7 g.pool root used alone tree.formed ∙ rw free

      claims_it : (run (claims 7 (teacher n) no_statuses) g).number ≡ 0
      unfolding run claim_call claim_run claim_ready mark_ready marking_at room_of
      claims_it = rw (tree.good, some, finds, creator, unmet, plans)

-- ---- the pool: two pages, the first of them the root

formed : (w : Pages) → WellFormed (with_page w 0 (leaf_page 0 0 (seat ∷ []))) 0 1 alone
unfolding with_page
formed w =
    record {
      tree = tt;
      root_is = refl;
      rep = refl;
      level = (0, omega arith, refl);
      bounds = omega arith;
      small = tt;
      later = tt;
      distinct = (tt, tt);
      below = omega arith;
    }

two_pages : Pool 2 (with_page (view (zeros (2 * 4096))) 0 (leaf_page 0 0 (seat ∷ [])))
two_pages = with_made 0 (omega arith) (row_made 1 0 0 7 (omega arith) (omega arith) (omega arith)) (blank_pool 2)

abbrev state : State
state = record { root = 0; used = 1 }

seated : TreeIn (grown two_pages.bytes state) alone
seated = pool-tree two_pages state alone (omega arith) (omega arith) (omega arith) (formed (view (zeros (2 * 4096))))

pub two_claimants : TwoClaimants
unfolding mem state_at is_current of_deleter finished_with finished_before visible changed_after conflicting claim_conflicting
two_claimants =
    record {
      pool = grown two_pages.bytes state;
      shape = alone;
      tree = seated;
      first_fits = omega arith;
      second_fits = omega arith;
      apart = λ e. omega arith;
      first_after = refl;
      second_after = refl;
      first_done = claims_it (grown two_pages.bytes state) seated 15 refl refl refl;
      second_done = claims_it (grown two_pages.bytes state) seated 16 refl refl refl;
      same = finds (grown two_pages.bytes state) seated 15 refl ∙ sym (finds (grown two_pages.bytes state) seated 16 refl);
    }
