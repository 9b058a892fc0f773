-- A new version stored in a well-formed tree, in place or with its leaf divided: the tree stays well-formed, and the version
-- arrives last of its key and creator. Assumes nothing.
use Rattle.std.proofs.Common.{Ok}
use mathlib.Core.Path.{◌≡◌, refl, sym, ◌∙◌, subst}
use mathlib.Core.Bool.{Bool, true, false}
use mathlib.Core.List.{List, [], ◌∷◌, ◌++◌}
use Prim.Native.Nat.{ℕ, ◌/◌}
use lib.Dec.{ltb}
use lib.ListN.{length}
use Rattle.store.specs.Le.{AreBytes}
use Rattle.store.specs.Part.{part}
use Rattle.page.specs.Page.{page}
use Rattle.page.specs.declared.pool.State.{State}
use Rattle.leaf.specs.Rows.{Row, RowFits, row_size, row_bytes, rows_bytes, rows}
use Rattle.leaf.specs.declared.place.Cut.{Cut}
use Rattle.page.specs.Pool.{Grown}
use Rattle.tree_grow.specs.Plan.{division_of}
use Rattle.tree_room.specs.Room.{room_of}
use Rattle.tree_insert.specs.Insert.{bytes_with, cut_with, spliced_at, inserted_at}
use Rattle.tree_insert.specs.declared.Spot.{Spot}
use Rattle.theory_tree.specs.Shape.{Shape, leaf, chain, KeysIn, Sorted}
use Rattle.theory_tree.specs.Versions.{of_version, SameVersions}
use Rattle.meaning.specs.Trees.{TreeIn}
use Rattle.meaning.specs.Meant.{arriving}
use Rattle.page.proofs.PoolLaws.{pool-is}
use Rattle.leaf.proofs.Bytes.{bytes-page}
use Rattle.tree_insert.proofs.Spotting.{SpotIs, spot_is}
use Rattle.theory_tree.proofs.Contexts.{top_key, Ctx, plug, pre_c, post_c, lo_c, hi_c, place}
use Rattle.theory_tree.proofs.Entries.{path}
use Rattle.leaf.proofs.Filtering.{filt_app}
use Rattle.theory_tree.proofs.Insert.{way, way_cells, way_versions}
use Rattle.theory_stores.proofs.Keeping.{bytes-spliced, bytes-cell}
use Rattle.theory_plan.proofs.Linking.{plan_above}
use Rattle.theory_plan.proofs.Rooms.{room-told}
use Rattle.theory_plan.proofs.Leaves.{insert-count, insert_all_fit, insert-spliced-is, insert-fits-bytes, insert_cut}
use Rattle.meaning.proofs.Judging.{way_there, way_leaf, spot_for, spots, insert_planned, insert_room}
use Rattle.meaning.proofs.Storing.{Holding, leaf_stored, leaf-divided}

-- h holds a well-formed tree in which r arrived
pub record Arrived (r : Row) (l : List Row) (h : Grown) : Type 0 where
  pub shape : Shape
  pub tree : TreeIn h shape
  pub versions : SameVersions (chain shape) (arriving r l)

module _ (g : Grown) (t : Shape) (tree : TreeIn g t) (r : Row) (fits : RowFits r) (B : AreBytes r.body) where
  abbrev s : List ℕ
  s = g.pool

  abbrev st : State
  st = g.state

  abbrev c : Ctx
  c = (way r t).ctx

  abbrev p : ℕ
  p = (way r t).page

  abbrev old : List Row
  old = (way r t).cells

  abbrev x : Spot
  x = spot_for g t tree r fits.key

  pub is : t ≡ plug c (leaf p old)
  is = sym (way_there g t tree r fits.key).back

  pub spot : SpotIs st.used r.key r.creator s x
  spot = spot_is st.used st.root r.key r.creator s x tree.bytes (pool-is s st tree.good).room (spots g t tree r fits.key)

  pub holds : rows (page s p) ≡ old
  holds = (way_leaf g t tree r fits.key).says.rows_are

  pub sorted_old : Sorted old
  sorted_old = (way_there g t tree r fits.key).inner.1

  pub new : KeysIn (lo_c 0 c) (hi_c top_key c) (place r old) × Sorted (place r old)
  new = way_cells r t (way_there g t tree r fits.key)

  pub spliced-is : spliced_at x (row_bytes r) (page s p) ≡ part 0 12 (page s p) ++ rows_bytes (place r old)
  spliced-is = insert-spliced-is st.used s x r old spot holds sorted_old fits

  pub bytes-new : AreBytes (part 0 12 (page s p) ++ rows_bytes (place r old))
  bytes-new =
      subst AreBytes spliced-is
      (bytes-spliced x.place.at x.place.at x.end (row_bytes r) (page s p) (bytes-cell r.key r.creator r.stamp r.pointer r.body B)
      (bytes-page p s tree.bytes))

  abbrev cut : Cut
  cut = cut_with (page s p) x (row_size r)

  by_over : (over : Bool) → ltb 4084 (bytes_with x (row_size r)) ≡ over → room_of (length s / 4096) st (bytes_with x (row_size r)) (plan_above c p over cut s) ≡ Ok tt
      → Holding (pre_c c ++ (place r old ++ post_c c)) (inserted_at x (plan_above c p over cut s) (row_bytes r) g)
  unfolding inserted_at
  by_over true o room =
      let h = room-told (length s / 4096) st (bytes_with x (row_size r)) p (path c) cut (division_of (path c) s) room in
      rw (spliced-is, insert-count st.used s x r old spot holds sorted_old fits)
      (leaf-divided g t tree c p old is (place r old) new.0 new.1 bytes-new (bytes_with x (row_size r)) cut
      (insert_cut st.used s x r old spot holds sorted_old fits o h.cuts) h)
  by_over false o room =
      let f = insert-fits-bytes st.used s x r old spot holds sorted_old fits o in
      rw f.0
      (leaf_stored g t tree c p old is (place r old) new.0 new.1 bytes-new (insert_all_fit st.used s x r old spot holds sorted_old fits) f.1)

  inserted : insert_room g t tree r fits.key (row_size r) ≡ Ok tt
      → Holding (pre_c c ++ (place r old ++ post_c c)) (inserted_at x (insert_planned g t tree r fits.key (row_size r)) (row_bytes r) g)
  inserted room = by_over (ltb 4084 (bytes_with x (row_size r))) refl room

  pub arrives : insert_room g t tree r fits.key (row_size r) ≡ Ok tt
      → Arrived r (chain t) (inserted_at x (insert_planned g t tree r fits.key (row_size r)) (row_bytes r) g)
  arrives room =
      let h = inserted room in
      record {
        shape = h.shape;
        tree = h.tree;
        versions = λ k d. way_versions r t h.shape (way_there g t tree r fits.key) h.chain-is k d ∙ sym (filt_app (of_version k d) (chain t) (r ∷ []));
      }
