-- Create makes an empty tree of a page that no tree has, so that every well-formed tree of the pool stays one. Assumes nothing.
use mathlib.Core.Path.{◌≡◌, refl, ◌∙◌}
use mathlib.Core.Bool.{true}
use mathlib.Core.List.{List, []}
use Prim.Native.Nat.{ℕ, ◌+◌, ◌/◌, ◌<◌}
use native.Mathlib.Omega.{arith}
use borrow.Author.Tests.{ltb-true}
use lib.ListN.{length}
use Rattle.store.specs.Le.{AreBytes}
use Rattle.page.specs.Page.{page}
use Rattle.page.specs.Header.{with_node_type, with_is_root}
use Rattle.page.specs.Pool.{good_pool, next_page, allocated, with_fresh}
use Rattle.page.specs.declared.pool.State.{State}
use Rattle.leaf.specs.Cells.{cells_of}
use Rattle.leaf.specs.Rows.{rows}
use Rattle.tree.specs.Create.{rooted, created_pool}
use Rattle.tree_grow.specs.Steps.Safe.{There}
use Rattle.call_read.specs.Create.{create_call, has_page}
use Rattle.theory_tree.specs.Pages.{leaf_page, with_page}
use Rattle.theory_tree.specs.View.{said, view}
use Rattle.theory_tree.specs.Shape.{Shape, leaf, pages_in, WellFormed}
use Rattle.meaning.specs.Reads.{CreateMakes}
use Rattle.store.proofs.LeLaws.{length-put_at}
use Rattle.page.proofs.PageLaws.{length-page}
use Rattle.leaf.proofs.Bytes.{bytes-page}
use Rattle.call_read.proofs.Emptiness.{Empty, fresh_length, created_alone, created_good}
use Rattle.theory_tree.proofs.Says.{leaf-said}
use Rattle.theory_tree.proofs.Lists.{all_map, out_fresh}
use Rattle.theory_tree.proofs.Frame.{frame_with_page}
use Rattle.theory_tree.proofs.Links.{set_twice}
use Rattle.theory_stores.proofs.Keeping.{bytes-zeros, bytes-field, bytes-set-page}
use Rattle.theory_stores.proofs.Viewing.{view-page, view-set, view_fresh}

-- what an empty leaf says
said_empty : (pg : List ℕ) → Empty pg → said pg ≡ leaf_page 0 0 []
unfolding cells_of
said_empty pg e =
    let none : rows pg ≡ [] = rw e.count in
    leaf-said pg e.leaf (rw (none, e.count)) ∙ rw (none, e.parent, e.next)

module _ (s : List ℕ) (st : State) (left : has_page s st ≡ true) where
  there : There st.used s
  there = omega (arith, ltb-true st.used (length s / 4096) left)

  abbrev new_page : List ℕ
  new_page = with_is_root 1 (with_node_type 1 (page (with_fresh s st) st.used))

  view_created : view (created_pool s st) ≡ with_page (view s) st.used (said new_page)
  unfolding created_pool next_page
  view_created =
      let fresh : There st.used (with_fresh s st) = rw (fresh_length s st left) there in
      let len : length new_page ≡ 4096 = rw (length-put_at, length-put_at) (length-page st.used (with_fresh s st) fresh) in
      view-set st.used new_page (with_fresh s st) fresh len ∙ rw (view_fresh s st there, set_twice)

  bytes_created : AreBytes s → AreBytes (created_pool s st)
  unfolding created_pool with_fresh
  bytes_created b =
      let f : AreBytes (with_fresh s st) = bytes-set-page (next_page s st) _ s (bytes-zeros 4096) b in
      bytes-set-page (next_page s st) _ (with_fresh s st)
      (bytes-field 1 _ 1 1 (bytes-field 1 _ 0 1 (bytes-page (next_page s st) (with_fresh s st) f))) f

  -- the new tree
  made : WellFormed (view (created_pool s st)) (rooted s st).root (rooted s st).used (leaf st.used [])
  unfolding next_page allocated
  made =
      record {
        tree = tt;
        root_is = refl;
        rep = view-page st.used (created_pool s st) ∙ said_empty (page (created_pool s st) st.used) (created_alone s st left).empty;
        level = (0, omega arith, refl);
        bounds = (omega arith, tt);
        small = tt;
        later = tt;
        distinct = (tt, tt);
        below = (omega arith, tt);
      }

  -- a tree that was there: its pages are in use, the new one was not
  stays : (root : ℕ) (t : Shape) → WellFormed (view s) root st.used t → WellFormed (view (created_pool s st)) root (rooted s st).used t
  unfolding allocated
  stays root t f =
      record {
        tree = f.tree;
        root_is = f.root_is;
        rep = rw view_created (frame_with_page (view s) st.used (said new_page) 0 0 t (out_fresh st.used (pages_in t) f.below) f.rep);
        level = f.level;
        bounds = f.bounds;
        small = f.small;
        later = f.later;
        distinct = f.distinct;
        below = all_map (λ p. p < st.used) (λ p. p < st.used + 1) (λ p l. omega arith) (pages_in t) f.below;
      }

  good_any : (root : ℕ) → good_pool s st ≡ true → good_pool (created_pool s st) (record { root = root; used = (rooted s st).used }) ≡ true
  unfolding good_pool
  good_any root good = created_good s st left good

after_is : (s : List ℕ) (st : State) → good_pool s st ≡ true → has_page s st ≡ true → (create_call s st).pool ≡ created_pool s st
unfolding create_call
after_is s st good left = rw (good, left)

pub create_makes : CreateMakes
create_makes g bytes good left =
    let is = after_is g.pool g.state good left in
    let b : AreBytes (create_call g.pool g.state).pool = rw is (bytes_created g.pool g.state left bytes) in
    record {
      new = record { bytes = b; good = rw is (created_good g.pool g.state left good); formed = rw is (made g.pool g.state left) };
      others = λ root t tree. record {
        bytes = b;
        good = rw is (good_any g.pool g.state left root good);
        formed = rw is (stays g.pool g.state left root t tree.formed);
      };
    }
