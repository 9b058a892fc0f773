-- What the reading calls say of a well-formed tree: its versions and its page numbers. Assumes nothing.
use Rattle.std.proofs.Common.{Some, None, Ok}
use mathlib.Core.Path.{◌≡◌, refl, sym, ap, ◌∙◌}
use mathlib.Core.Bool.{Bool, true, false, ◌&&◌}
use mathlib.Core.List.{List, [], ◌++◌, append-nil, append_assoc}
use Prim.Native.Nat.{ℕ}
use Rattle.store.specs.Pick.{pick}
use Rattle.mvcc.specs.Snapshot.{lookup, good_statuses, Snapshot, Statuses, good_snapshot, no_statuses}
use Rattle.mvcc.specs.Rules.{conflicting}
use Rattle.leaf.specs.Cells.{judge_leaf}
use Rattle.leaf.specs.Rows.{Row, rows, only, of_key}
use Rattle.leaf.specs.Find.{Best}
use Rattle.tree.specs.Chain.{Seen, stop, go, along}
use Rattle.page.specs.Pool.{Grown}
use Rattle.list_records.specs.Records.{records}
use Rattle.list_versions.specs.Gather.{look_rows, rows_along}
use Rattle.theory_tree.specs.Versions.{best}
use Rattle.list_versions.specs.Listed.{list_tree}
use Rattle.list_versions.specs.declared.Which.{Which}
use Rattle.list_pages.specs.Numbers.{number_records, numbers_tree}
use Rattle.list_visible.specs.Visible.{look_all, chain_rows, scan_rows, scan_tree}
use Rattle.call_answers.specs.Answer.{done, hide}
use Rattle.call_read.specs.Find.{looked_best, placed, find_visible_call}
use Rattle.call_read.specs.Conflict.{conflict_call}
use Rattle.call_read.specs.Listings.{list_run, versions_of_call, all_versions_call}
use Rattle.call_read.specs.Numbers.{numbers_run, page_numbers_call}
use Rattle.call_read.specs.Scan.{scan_run, scan_visible_call}
use Rattle.theory_tree.specs.View.{view}
use Rattle.theory_tree.specs.Shape.{Shape, chain, first, All, WellFormed}
use Rattle.meaning.specs.Trees.{TreeIn}
use Rattle.meaning.specs.Meant.{seen_by, some_of, on_best}
use Rattle.meaning.specs.Reads.{listing, numbers_in, ReadsTell}
use Rattle.leaf.proofs.Filtering.{filt_app}
use Rattle.theory_tree.proofs.Order.{filt_none}
use Rattle.theory_tree.proofs.Workers.{larger}
use Rattle.theory_tree.proofs.Contexts.{top}
use Rattle.theory_tree.proofs.Seek.{leaf_of}
use Rattle.theory_tree.proofs.Walk.{locs, locs_plug}
use Rattle.theory_walks.proofs.Descending.{descend_search, descend-first}
use Rattle.theory_walks.proofs.Walking.{at_leaves, gather_chain, walk-key, walk_all}
use Rattle.theory_walks.proofs.Looking.{larger_is, row_in, meets, test_is}
use Rattle.meaning.proofs.Last.{some_is}
use Rattle.meaning.proofs.Reading.{found, looks}
use Rattle.meaning.proofs.Visiting.{numbers_are}

-- ---- lookup

looked_number : (s : List ℕ) (b : Best) → (hide (placed (looked_best (Ok b)))).number ≡ on_best 8 (λ y. 0) (row_in s b)
looked_number s (Some (p, c)) = refl
looked_number s None = refl

-- ---- the rows that a listing gathers

module _ (s : List ℕ) (root used : ℕ) (t : Shape) (f : WellFormed (view s) root used t) where
  key-rows : (key : ℕ) → rows_along s used (leaf_of key t) (Which.Key key) ≡ Ok (only (of_key key) (chain t))
  unfolding rows_along
  key-rows key =
      walk-key (look_rows (Which.Key key)) key step says skips s root used t f []
      ∙ ap (λ (rs : List Row). Ok rs)
      (gather_chain step s used (λ a rs. a ++ only (of_key key) rs) (λ a p pg e j. refl) append-nil joins t (at_leaves s root used t f (locs t top) (locs_plug t top)) [])
    where
      step : List Row → ℕ → List ℕ → List Row
      step a p pg = a ++ only (of_key key) (rows pg)

      says : (a : List Row) (p : ℕ) (pg : List ℕ) (e : ℕ) → judge_leaf pg p ≡ Ok e
          → look_rows (Which.Key key) a p pg ≡ pick (larger key (rows pg)) (stop (step a p pg)) (go (step a p pg))
      says a p pg e j = rw (j, larger_is key pg)

      skips : (a : List Row) (p : ℕ) (pg : List ℕ) (e : ℕ) → judge_leaf pg p ≡ Ok e → All (λ (r : Row). of_key key r ≡ false) (rows pg) → step a p pg ≡ a
      skips a p pg e j o = ap (λ (l : List Row). a ++ l) (filt_none (of_key key) (rows pg) o) ∙ append-nil a

      joins : (a xs ys : List Row) → a ++ only (of_key key) (xs ++ ys) ≡ (a ++ only (of_key key) xs) ++ only (of_key key) ys
      joins a xs ys = ap (λ (l : List Row). a ++ l) (filt_app (of_key key) xs ys) ∙ sym (append_assoc a (only (of_key key) xs) (only (of_key key) ys))

  -- every look that takes all of a leaf's rows
  whole : (look : List Row → ℕ → List ℕ → Seen (List Row))
      → ((a : List Row) (p : ℕ) (pg : List ℕ) (e : ℕ) → judge_leaf pg p ≡ Ok e → look a p pg ≡ go (a ++ rows pg))
      → along s used (first t) look used [] ≡ Ok (chain t)
  whole look says =
      walk_all look (λ a p pg. a ++ rows pg) says s root used t f []
      ∙ ap (λ (rs : List Row). Ok rs)
      (gather_chain (λ a p pg. a ++ rows pg) s used (λ a rs. a ++ rs) (λ a p pg e j. refl) append-nil (λ a xs ys. sym (append_assoc a xs ys))
      t (at_leaves s root used t f (locs t top) (locs_plug t top)) [])

  all_rows : rows_along s used (first t) Which.All ≡ Ok (chain t)
  unfolding rows_along
  all_rows = whole (look_rows Which.All) (λ a p pg e j. rw j)

  chain-rows : chain_rows s used (first t) ≡ Ok (chain t)
  unfolding chain_rows
  chain-rows = whole look_all (λ a p pg e j. rw j)

-- ---- the calls

module _ (g : Grown) (t : Shape) (tree : TreeIn g t) where
  tells_find : (key : ℕ) (sn : Snapshot) (ss : Statuses) → good_snapshot sn ≡ true → good_statuses ss ≡ true
      → (find_visible_call g.pool g.state key sn ss).number
      ≡ on_best 8 (λ y. 0) (best (seen_by sn (lookup ss)) key (chain t))
  unfolding find_visible_call
  tells_find key sn ss a s =
      let b = found g t tree key sn ss in
      rw (looks g t tree key sn ss a s) (looked_number g.pool b.found ∙ ap (on_best 8 (λ y. 0)) b.row)

  tells_conflict : (key seen : ℕ) (sn : Snapshot) → good_snapshot sn ≡ true
      → conflict_call g.pool g.state key sn seen
      ≡ done (some_of (λ x. of_key key x && conflicting sn seen x.creator x.stamp) (chain t))
  unfolding conflict_call
  tells_conflict key seen sn a =
      rw (tree.good, a, test_is false sn (lookup no_statuses) seen key g.pool g.state.root g.state.used t tree.formed)
      (ap (λ (b : Bool). done b) (sym (some_is (meets false sn (lookup no_statuses) seen key) (chain t))))

  tells_versions : (key : ℕ) (out : List ℕ) → versions_of_call g.pool g.state key out ≡ listing (records (only (of_key key) (chain t))) out
  unfolding versions_of_call list_run list_tree
  tells_versions key out =
      rw (
        tree.good,
        descend_search g.pool g.state.root g.state.used t tree.formed key,
        key-rows g.pool g.state.root g.state.used t tree.formed key,
      )

  tells_all : (out : List ℕ) → all_versions_call g.pool g.state out ≡ listing (records (chain t)) out
  unfolding all_versions_call list_run list_tree
  tells_all out =
      rw (
        tree.good,
        descend-first g.pool g.state.root g.state.used t tree.formed,
        all_rows g.pool g.state.root g.state.used t tree.formed,
      )

  tells_scan : (sn : Snapshot) (ss : Statuses) (out : List ℕ) → good_snapshot sn ≡ true → good_statuses ss ≡ true
      → scan_visible_call g.pool g.state sn ss out ≡ listing (records (scan_rows sn (lookup ss) (chain t))) out
  unfolding scan_visible_call scan_run scan_tree
  tells_scan sn ss out a s =
      rw (
        tree.good,
        a,
        s,
        descend-first g.pool g.state.root g.state.used t tree.formed,
        chain-rows g.pool g.state.root g.state.used t tree.formed,
      )

  tells_numbers : (out : List ℕ) → page_numbers_call g.pool g.state out ≡ listing (number_records (numbers_in t)) out
  unfolding page_numbers_call numbers_run numbers_tree
  tells_numbers out = rw (tree.good, numbers_are g.pool g.state.root g.state.used t tree.formed)

pub reads_tell : ReadsTell
reads_tell g t tree =
    record {
      find = tells_find g t tree;
      conflict = tells_conflict g t tree;
      versions_of = tells_versions g t tree;
      all_versions = tells_all g t tree;
      scan_visible = tells_scan g t tree;
      page_numbers = tells_numbers g t tree;
    }
