-- A leaf of a well-formed tree that gets other rows, in its own page or divided: the pool after it holds a well-formed tree, and
-- its chain has the new rows in the place of the old. Assumes nothing.
use mathlib.Core.Path.{◌≡◌, refl, ap, ◌∙◌}
use mathlib.Core.Bool.{Bool, true, false, ◌&&◌}
use mathlib.Core.List.{List, ◌∷◌, ◌++◌}
use Prim.Native.Nat.{ℕ, suc, ◌+◌, ◌/◌, ◌%◌, ◌≤◌, ◌<◌}
use native.Mathlib.Omega.{arith}
use lib.Dec.{leb, eqb}
use lib.ListN.{length}
use borrow.Author.Tests.{le-leb, eqb-false}
use Rattle.store.specs.Le.{AreBytes}
use Rattle.store.specs.Part.{part}
use Rattle.store.specs.Pick.{pick}
use Rattle.page.specs.Page.{page, set_page}
use Rattle.page.specs.Pool.{good_pool, Grown, grown}
use Rattle.page.specs.declared.pool.State.{State}
use Rattle.leaf.specs.Rows.{Row, AllFit, rows_bytes, write_rows}
use Rattle.leaf.specs.declared.place.Cut.{Cut}
use Rattle.tree.specs.Climb.{path_of}
use Rattle.tree_grow.specs.Plan.{division_of}
use Rattle.tree_grow.specs.Steps.Safe.{There}
use Rattle.tree_room.specs.Room.{dividing}
use Rattle.tree_room.specs.Up.{divided_up}
use Rattle.theory_tree.specs.Pages.{leaf_page, with_page}
use Rattle.theory_tree.specs.View.{view}
use Rattle.theory_tree.specs.Shape.{Shape, leaf, chain, KeysIn, Sorted, WellFormed}
use Rattle.meaning.specs.Trees.{TreeIn}
use Rattle.page.proofs.PageLaws.{length-page, length-set_page}
use Rattle.page.proofs.PoolLaws.{pool-is}
use Rattle.theory_tree.proofs.Contexts.{top_key, Ctx, plug, pre_c, post_c, pre_g, post_g, lo_c, hi_c, par_c, nxt_c, Grown as Raised}
use Rattle.theory_tree.proofs.Entries.{path}
use Rattle.theory_tree.proofs.Lists.{all_right}
use Rattle.theory_tree.proofs.Says.{LeafSays}
use Rattle.theory_tree.proofs.Zip.{plug_chain, plug_pages}
use Rattle.theory_tree.proofs.Leaf.{leaf-with_page}
use Rattle.theory_stores.proofs.Keeping.{bytes-field, bytes-pad, bytes-set-page}
use Rattle.theory_stores.proofs.Viewing.{view-set}
use Rattle.theory_stores.proofs.Rowing.{rows_long, said-rows}
use Rattle.theory_plan.proofs.Linking.{leaf-grown}
use Rattle.theory_plan.proofs.Sides.{RowsCut}
use Rattle.theory_plan.proofs.Leaves.{leaf_held}
use Rattle.theory_plan.proofs.Rooms.{HasRoom, GrowsIn, grows_in}
use Rattle.theory_grow.proofs.Settling.{used_after, Settled, divided_tree, divided-up_wf}
use Rattle.meaning.proofs.Judging.{formed_at}
use Rattle.store.proofs.Tests.{and_both}

-- ---- the pool is still none that is refused

pub good_kept : (s s' : List ℕ) (st st' : State) → length s' ≡ length s → st'.used ≤ length s / 4096 → good_pool s st ≡ true → good_pool s' st' ≡ true
unfolding good_pool
good_kept s s' st st' long few e =
    let a = and_both (eqb (length s % 4096) 0) (leb 1 (length s / 4096) && (leb (length s / 4096) 65536 && leb st.used (length s / 4096))) e in
    let b = and_both (leb 1 (length s / 4096)) (leb (length s / 4096) 65536 && leb st.used (length s / 4096)) a.1 in
    let c = and_both (leb (length s / 4096) 65536) (leb st.used (length s / 4096)) b.1 in
    rw (long, a.0, b.0, c.0, le-leb st'.used (length s / 4096) few)

-- ---- the leaf

-- h holds a well-formed tree of these rows
pub record Holding (chained : List Row) (h : Grown) : Type 0 where
  pub shape : Shape
  pub tree : TreeIn h shape
  pub chain-is : chain shape ≡ chained

module _ (g : Grown) (t : Shape) (tree : TreeIn g t) (c : Ctx) (p : ℕ) (old : List Row) (is : t ≡ plug c (leaf p old)) where
  abbrev s : List ℕ
  s = g.pool

  abbrev st : State
  st = g.state

  abbrev formed : WellFormed (view s) st.root st.used (plug c (leaf p old))
  formed = formed_at g t tree c p old is

  pub leaf-low : p < st.used
  leaf-low = (all_right (λ q. q < st.used) (pre_g c) (p ∷ post_g c) (rw (plug_pages c (leaf p old)) at formed.below)).0

  pub leaf-there : There p s
  leaf-there = omega (arith, leaf-low, (pool-is s st tree.good).room)

  pub leaf-long : length (page s p) ≡ 4096
  leaf-long = length-page p s leaf-there

  pub leaf_says_it : LeafSays (page s p) (par_c 0 c) (nxt_c 0 c) old
  leaf_says_it = (leaf_held s st.root st.used c p old formed).0

  module _ (rs : List Row) (keys : KeysIn (lo_c 0 c) (hi_c top_key c) rs) (sorted : Sorted rs) (B : AreBytes (part 0 12 (page s p) ++ rows_bytes rs)) where
    -- in its page
    module _ (fit : AllFit rs) (few : length (rows_bytes rs) ≤ 4084) where
      abbrev written : List ℕ
      written = write_rows rs (page s p)

      written-long : length written ≡ 4096
      written-long = rows_long rs (page s p) leaf-long few

      written-bytes : AreBytes written
      unfolding write_rows
      written-bytes = bytes-field 2 _ 6 (length rs) (bytes-pad 4096 _ B)

      view-written : view (set_page p written s) ≡ with_page (view s) p (leaf_page (par_c 0 c) (nxt_c 0 c) rs)
      view-written =
          view-set p written s leaf-there written-long
          ∙ ap (with_page (view s) p) (said-rows rs (page s p) leaf-long leaf_says_it.type fit few ∙ rw (leaf_says_it.parent, leaf_says_it.next))

      pub leaf_stored : Holding (pre_c c ++ (rs ++ post_c c)) (grown (set_page p written s) st)
      leaf_stored =
          record {
            shape = plug c (leaf p rs);
            tree = record {
              bytes = bytes-set-page p written s written-bytes tree.bytes;
              good = good_kept s (set_page p written s) st st (length-set_page p written s leaf-there written-long) (pool-is s st tree.good).in_use tree.good;
              formed = rw view-written (leaf-with_page (view s) st.root st.used c p old rs formed keys sorted);
            };
            chain-is = plug_chain c (leaf p rs);
          }

    -- divided over it and the next one, as planned, where there is room
    module _ (total : ℕ) (cut : Cut) (cuts : RowsCut rs cut) (room : HasRoom (length s / 4096) st total cut (path c) (division_of (path c) s)) where
      abbrev left : List Row
      left = cuts.left

      abbrev mid : Row
      mid = cuts.middle

      abbrev right : List Row
      right = cuts.right

      abbrev raised : Raised
      raised = divided_tree c p st.used left mid right

      grows : GrowsIn (length s / 4096) st.root c raised
      grows = grows_in s st c p old formed (length s / 4096) total cut room left (mid ∷ right) mid.key st.used

      pub used-few : used_after st.root raised ≤ length s / 4096
      used-few =
          by_growth (division_of (path c) s).grows (leaf-grown s st.root st.used c p old formed left (mid ∷ right) mid.key st.used (suc st.used)).0
          (eqb st.root 0) refl
        where
          by_growth : (b : Bool) → raised.grew ≡ pick b 1 0 → (z : Bool) → eqb st.root 0 ≡ z → raised.used + pick z 0 raised.grew ≤ length s / 4096
          by_growth b e true z = omega (arith, grows.few)
          by_growth true e false z = omega (arith, grows.pinned e (eqb-false st.root 0 z))
          by_growth false e false z = omega (arith, grows.few)

      abbrev after : Grown
      after = divided_up (dividing (path_of (p ∷ path c)) cut (division_of (path c) s)) p (length rs) (part 0 12 (page s p) ++ rows_bytes rs) g

      settles : Settled s st.root (used_after st.root raised) (pre_c c ++ ((left ++ (mid ∷ right)) ++ post_c c)) after
      settles =
          let few = (pool-is s st tree.good).few in
          divided-up_wf s st.root st.used t c p old left mid right (dividing (path_of (p ∷ path c)) cut (division_of (path c) s)) (length rs)
          (part 0 12 (page s p) ++ rows_bytes rs) is tree.formed tree.bytes B (rw cuts.whole keys) (rw cuts.whole sorted)
          cuts.left-few cuts.right-few cuts.left-fits cuts.right-fits (rw cuts.whole) (rw cuts.whole) refl cuts.place
          grows.deep (omega (arith, used-few)) (omega (arith, used-few))

      pub leaf-divided : Holding (pre_c c ++ (rs ++ post_c c)) after
      leaf-divided =
          record {
            shape = settles.shape;
            tree = record {
              bytes = settles.bytes;
              good = good_kept s after.pool st after.state settles.long (rw settles.used-is used-few) tree.good;
              formed = settles.formed;
            };
            chain-is = settles.chain-is ∙ rw cuts.whole;
          }
