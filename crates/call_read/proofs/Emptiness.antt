-- What the reading calls say of a tree whose one page is an empty leaf, and that create makes such a tree (document 01,
-- section 8: P1); of two visible versions with one key and one creator the listing has the first (P9). Assumes nothing.
use Rattle.std.proofs.Common.{Option, None, Ok}
use mathlib.Core.Path.{◌≡◌, refl, sym, ap, ◌∙◌}
use mathlib.Core.Bool.{Bool, true, false, ◌&&◌}
use mathlib.Core.List.{List, [], map}
use Prim.Native.Nat.{ℕ, ◌+◌, ◌*◌, ◌/◌, ◌%◌, ◌≤◌, ◌<◌}
use native.Mathlib.Omega.{arith}
use borrow.Author.Tests.{lt-ltb, le-ltb, eq-eqb, ltb-true, le-leb, eqb-true}
use lib.Dec.{leb, eqb}
use lib.ListN.{length, length-replicate}
use Rattle.store.specs.Le.{le_at, put_at}
use Rattle.store.specs.Part.{zeros}
use Rattle.page.specs.Page.{page, set_page}
use Rattle.page.specs.Header.{node_type, parent_of, cell_count, next_leaf, with_node_type, with_is_root}
use Rattle.page.specs.Pool.{good_pool, next_page, allocated, with_fresh}
use Rattle.page.specs.declared.pool.State.{State}
use Rattle.mvcc.specs.Snapshot.{lookup, good_statuses, Snapshot, Statuses, good_snapshot, snapshot, no_statuses}
use Rattle.mvcc.specs.Lists.{rising, good_active}
use Rattle.leaf.specs.Cells.{cells, fold_cells, judge_cells, judge_leaf, has_larger}
use Rattle.leaf.specs.Find.{find_leaf, test_leaf}
use Rattle.leaf.specs.Rows.{row_of, rows}
use Rattle.tree.specs.Create.{rooted, created_pool}
use Rattle.tree.specs.Descend.{descend_of}
use Rattle.tree.specs.Chain.{Seen, go, along, look_best, best_along, look_test, test_along}
use Rattle.tree.specs.Lookup.{best_in_tree, test_in_tree}
use Rattle.tree.specs.declared.Route.{Route}
use Rattle.tree_check.specs.Check.{cells_within, sound_leaf, is_well_formed}
use Rattle.tree_check.specs.Steps.Check.{check_of, is_first}
use Rattle.list_records.specs.Records.{records}
use Rattle.list_records.specs.Listed.{fitted}
use Rattle.list_versions.specs.Gather.{look_rows, rows_along}
use Rattle.list_versions.specs.Listed.{route_of, list_tree}
use Rattle.list_versions.specs.declared.Which.{Which}
use Rattle.list_visible.specs.Visible.{look_all, chain_rows, visible_rows, entered_row, newest_each, scan_rows, scan_tree}
use Rattle.call_answers.specs.Answer.{written, refused, done}
use Rattle.call_read.specs.Create.{create_call, has_page}
use Rattle.call_read.specs.Find.{find_visible_run, find_visible_call, find_call}
use Rattle.call_read.specs.Conflict.{conflict_call}
use Rattle.call_read.specs.Check.{check_call}
use Rattle.call_read.specs.Listings.{list_run, versions_of_call, all_versions_call}
use Rattle.call_read.specs.Scan.{scan_run, scan_visible_call}
use Rattle.call_read.specs.Facts.{EmptyTree, CreateIsEmpty, TieToFirst}
use Rattle.store.proofs.LeLaws.{length-put_at}
use Rattle.store.proofs.PutLaws.{put_nil}
use Rattle.store.proofs.Tests.{and_both}
use Rattle.page.proofs.PageLaws.{length-set_page, page-set_page}
use Rattle.page.proofs.PoolLaws.{pool-is, pool_in_use}
use Rattle.tree.proofs.Ways.{way_leaf, leaf_here, along-end}
use Rattle.tree_check.proofs.Linking.{check-is_well}
use Rattle.list_visible.proofs.Writing.{cells-none}

-- ---- the page

-- a leaf without cells, below no page and before none
pub record Empty (pg : List ℕ) : Type 0 where
  pub leaf : node_type pg ≡ 1
  pub parent : parent_of pg ≡ 0
  pub count : cell_count pg ≡ 0
  pub next : next_leaf pg ≡ 0

-- as create writes it: "zeros but type 1 and is-root 1"
abbrev pub new-root : List ℕ
new-root = with_is_root 1 (with_node_type 1 (zeros 4096))

new-length : length new-root ≡ 4096
new-length = rw (length-put_at, length-put_at) (length-replicate {A = ℕ} 4096 0)

new_empty : Empty new-root
unfolding le_at put_at
new_empty = record { leaf = refl; parent = refl; count = refl; next = refl }

module _ {pg : List ℕ} (e : Empty pg) where
  empty_cells : cells pg ≡ []
  empty_cells = cells-none 12 pg (cell_count pg) (omega (arith, e.count))

  empty_rows : rows pg ≡ []
  empty_rows = ap (map (row_of pg)) empty_cells

  pub empty_judged : (p : ℕ) → judge_leaf pg p ≡ Ok 12
  unfolding judge_leaf judge_cells
  empty_judged p = rw (e.leaf, e.count)

-- ---- the tree

-- a listing of no rows: 0 bytes, and the output as it was
none-fitted : (out : List ℕ) → fitted (records []) out ≡ written (Ok 0) out
unfolding fitted records
none-fitted out = rw (le-leb 0 (length out) (omega arith), put_nil 0 out)

-- a root in use that is such a page
pub record Alone (used root : ℕ) (s : List ℕ) : Type 0 where
  pub in_use : root < used
  pub empty : Empty (page s root)

module _ {used root : ℕ} {s : List ℕ} (t : Alone used root s) where
  pub comes_to : (route : Route) → descend_of s used root route 3 ≡ Ok root
  comes_to route = sym (way_leaf s used root (leaf_here s used root t.in_use t.empty.leaf) route refl 3 refl)

  -- a walk ends where it starts, with what it started with
  stays : {A : Type 0} (look : A → ℕ → List ℕ → Seen A) (a : A) → look a root (page s root) ≡ go a → along s used root look used a ≡ Ok a
  stays look a e = sym (along-end look used a root s t.in_use refl used (omega (arith, t.in_use)) e refl t.empty.next)

  is_well : is_well_formed s used root ≡ true
  unfolding is_well_formed check_of sound_leaf cells_within fold_cells
  is_well =
      let first : is_first (check_of s used 0 0 root 0 4294967295 0) ≡ true =
      rw (lt-ltb root used t.in_use, t.empty.parent, empty_judged t.empty root, empty_cells t.empty, t.empty.next) in
      rw (sym (check-is_well 0 used root s) ∙ first)

  module _ (sn : Snapshot) (st : ℕ → ℕ) where
    best_none : (key : ℕ) → best_in_tree s used root key sn st ≡ Ok None
    unfolding best_in_tree best_along find_leaf fold_cells has_larger
    best_none key =
        let here : look_best key sn st None root (page s root) ≡ go None = rw (empty_judged t.empty root, empty_cells t.empty) in
        rw (comes_to (Route.Search key), stays (look_best key sn st) None here)

    test_none : (claiming : Bool) (seen key : ℕ) → test_in_tree s used root key sn st claiming seen ≡ Ok false
    unfolding test_in_tree test_along test_leaf fold_cells has_larger
    test_none claiming seen key =
        let here : look_test key sn st claiming seen false root (page s root) ≡ go false = rw (empty_judged t.empty root, empty_cells t.empty) in
        rw (comes_to (Route.Search key), stays (look_test key sn st claiming seen) false here)

  list_none : (w : Which) (out : List ℕ) → list_tree s used root w out ≡ written (Ok 0) out
  unfolding list_tree rows_along fold_cells has_larger
  list_none w out = rw (comes_to (route_of w), stays (look_rows w) [] (here w)) (none-fitted out)
    where
      here : (w : Which) → look_rows w [] root (page s root) ≡ go []
      here Which.All = rw (empty_judged t.empty root, empty_rows t.empty)
      here (Which.Key key) = rw (empty_judged t.empty root, empty_cells t.empty)

  scan-none : (sn : Snapshot) (st : ℕ → ℕ) (out : List ℕ) → scan_tree s used root sn st out ≡ written (Ok 0) out
  unfolding scan_tree chain_rows scan_rows visible_rows newest_each
  scan-none sn st out =
      let here : look_all [] root (page s root) ≡ go [] = rw (empty_judged t.empty root, empty_rows t.empty) in
      rw (comes_to Route.First, stays look_all [] here) (none-fitted out)

-- ---- the calls

module _ (s : List ℕ) (st : State) (good : good_pool s st ≡ true) (t : Alone st.used st.root s) where
  checked : check_call s st ≡ done true
  unfolding check_call
  checked = rw (good, is_well t)

  absent : (key : ℕ) (sn : Snapshot) (ss : Statuses) → good_snapshot sn ≡ true → good_statuses ss ≡ true
      → find_visible_call s st key sn ss ≡ refused 8
  unfolding find_visible_call find_visible_run
  absent key sn ss a b = rw (good, a, b, best_none t sn (lookup ss) key)

  plainly_absent : (key : ℕ) (cur : Option ℕ) (ss : Statuses) → good_statuses ss ≡ true → find_call s st key cur ss ≡ refused 8
  unfolding find_call good_active rising
  plainly_absent key cur ss = absent key (snapshot _ [] cur) ss refl

  no_conflict : (key seen : ℕ) (sn : Snapshot) → good_snapshot sn ≡ true → conflict_call s st key sn seen ≡ done false
  unfolding conflict_call
  no_conflict key seen sn a = rw (good, a, test_none t sn (lookup no_statuses) false seen key)

  none_of_key : (key : ℕ) (out : List ℕ) → versions_of_call s st key out ≡ written (done 0) out
  unfolding versions_of_call list_run
  none_of_key key out = rw (good, list_none t (Which.Key key) out)

  none : (out : List ℕ) → all_versions_call s st out ≡ written (done 0) out
  unfolding all_versions_call list_run
  none out = rw (good, list_none t Which.All out)

  none_seen : (sn : Snapshot) (ss : Statuses) (out : List ℕ) → good_snapshot sn ≡ true → good_statuses ss ≡ true
      → scan_visible_call s st sn ss out ≡ written (done 0) out
  unfolding scan_visible_call scan_run
  none_seen sn ss out a b = rw (good, a, b, scan-none t sn (lookup ss) out)

  pub empty_tree : EmptyTree s st
  empty_tree =
      record {
        checked = checked;
        absent = absent;
        plainly_absent = plainly_absent;
        no_conflict = no_conflict;
        none_of_key = none_of_key;
        none = none;
        none_seen = none_seen;
      }

-- ---- create

module _ (s : List ℕ) (st : State) (left : has_page s st ≡ true) where
  room : next_page s st * 4096 + 4096 ≤ length s
  unfolding next_page
  room = omega (arith, ltb-true st.used (length s / 4096) left)

  pub fresh_length : length (with_fresh s st) ≡ length s
  unfolding with_fresh
  fresh_length = length-set_page (next_page s st) (zeros 4096) s room (length-replicate {A = ℕ} 4096 0)

  pub fresh_page : page (with_fresh s st) (next_page s st) ≡ zeros 4096
  unfolding with_fresh
  fresh_page = page-set_page (next_page s st) (zeros 4096) s room (length-replicate {A = ℕ} 4096 0)

  created_is : created_pool s st ≡ set_page (next_page s st) new-root (with_fresh s st)
  unfolding created_pool
  created_is = rw fresh_page

  pub created_page : page (created_pool s st) (next_page s st) ≡ new-root
  created_page = rw created_is (page-set_page (next_page s st) new-root (with_fresh s st) (rw fresh_length room) new-length)

  pub created_length : length (created_pool s st) ≡ length s
  created_length = rw created_is (length-set_page (next_page s st) new-root (with_fresh s st) (rw fresh_length room) new-length ∙ fresh_length)

  pub created_alone : Alone (rooted s st).used (rooted s st).root (created_pool s st)
  unfolding allocated next_page
  created_alone = record { in_use = omega arith; empty = rw created_page new_empty }

  pub created_good : good_pool s st ≡ true → good_pool (created_pool s st) (rooted s st) ≡ true
  unfolding good_pool allocated
  created_good good =
      let rest = leb 1 (length s / 4096) && (leb (length s / 4096) 65536 && leb st.used (length s / 4096)) in
      let whole = eqb-true (length s % 4096) 0 (and_both (eqb (length s % 4096) 0) rest good).0 in
      let is = pool-is s st good in
      let more : st.used + 1 ≤ length s / 4096 = omega (arith, ltb-true st.used (length s / 4096) left) in
      sym (pool_in_use (created_pool s st) (rooted s st) (rw created_length whole) (rw created_length is.some) (rw created_length is.few))
      ∙ rw created_length (le-leb (st.used + 1) (length s / 4096) more)

pub create-is_empty : CreateIsEmpty
unfolding create_call
create-is_empty s st good left = rw (good, left) (empty_tree (created_pool s st) (rooted s st) (created_good s st left good) (created_alone s st left))

-- ---- a tie

pub tie_to_first : TieToFirst
unfolding scan_rows visible_rows newest_each entered_row
tie_to_first sn st r x k c v w =
    rw (v, w, le-ltb x.key r.key (omega arith), eq-eqb x.key r.key (sym k), le-ltb r.creator x.creator (omega arith))
