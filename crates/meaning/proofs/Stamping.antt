-- The chosen version stamped in a well-formed tree, in place or with its leaf divided: the tree stays well-formed, and its chain
-- is the old one with that row stamped. Assumes nothing.
use Rattle.std.proofs.Common.{Ok, Some}
use mathlib.Core.Path.{◌≡◌, refl, sym, ap, ◌∙◌, subst}
use mathlib.Core.Bool.{Bool, true, false, ◌&&◌, ◌||◌}
use mathlib.Core.List.{List, [], ◌∷◌, ◌++◌, append_assoc, map, map-append}
use Prim.Native.Nat.{ℕ, ◌/◌, ◌<◌}
use lib.Dec.{ltb}
use lib.ListN.{length}
use borrow.Author.Tests.{eq-eqb}
use Rattle.store.specs.Le.{AreBytes}
use Rattle.store.specs.Part.{part}
use Rattle.store.specs.Pick.{pick}
use Rattle.page.specs.Page.{page}
use Rattle.page.specs.Header.{cell_count}
use Rattle.page.specs.declared.pool.State.{State}
use Rattle.row.specs.Write.{cell_bytes}
use Rattle.row.specs.declared.Cell.{Cell}
use Rattle.leaf.specs.Rows.{Row, row_of, rows_bytes}
use Rattle.leaf.specs.RowFacts.{Sound}
use Rattle.leaf.specs.declared.place.Cut.{Cut}
use Rattle.leaf_edit.specs.EditFacts.{stamp_row}
use Rattle.page.specs.Pool.{Grown}
use Rattle.tree_grow.specs.Plan.{division_of}
use Rattle.tree_room.specs.Room.{room_of}
use Rattle.tree_room.specs.Up.{divided_up}
use Rattle.tree_stamp.specs.Target.{target_of}
use Rattle.tree_stamp.specs.Stamp.{bytes_stamped, cut_stamped, spliced_stamp, stamped_at}
use Rattle.tree_stamp.specs.declared.Target.{Target}
use Rattle.theory_tree.specs.Shape.{Shape, chain, All, KeysIn, Sorted}
use Rattle.theory_tree.specs.Versions.{of_version, arrivals}
use Rattle.meaning.specs.Trees.{TreeIn}
use Rattle.meaning.specs.Meant.{some_of, change_last, stamped}
use Rattle.page.proofs.PoolLaws.{pool-is}
use Rattle.leaf.proofs.Bytes.{bytes-page}
use Rattle.theory_tree.proofs.Contexts.{top_key, Ctx, pre_c, post_c, lo_c, hi_c}
use Rattle.theory_tree.proofs.Entries.{path}
use Rattle.theory_walks.proofs.Walking.{AtLeaf, at_leaf}
use Rattle.theory_walks.proofs.Looking.{Standing, standing_chain}
use Rattle.theory_stores.proofs.Keeping.{bytes-spliced, bytes-cell}
use Rattle.theory_plan.proofs.Linking.{plan_above}
use Rattle.theory_plan.proofs.Rooms.{room-told}
use Rattle.theory_plan.proofs.Leaves.{leaf_held}
use Rattle.theory_plan.proofs.Stamps.{met_sound, stamped_rows, stamp_keys, stamp_sorted, stamp-count, stamp_all_fit, stamp-spliced-is, stamp-fits-bytes, stamp_cut}
use Rattle.meaning.proofs.Judging.{formed_at, target_for, stamp_planned, stamp_room}
use Rattle.meaning.proofs.Storing.{Holding, leaf_stored, leaf-divided}
use Rattle.store.proofs.PartLaws.{bytes-part}

-- ---- the last row that a test accepts, where it stands

module _ (v : Row → Bool) (f : Row → Row) where
  some_in : (a : List Row) (y : Row) (b : List Row) → v y ≡ true → some_of v (a ++ (y ∷ b)) ≡ true
  some_in [] y b e = rw e
  some_in (x ∷ a) y b e = go (v x) (some_in a y b e)
    where
      go : (c : Bool) → some_of v (a ++ (y ∷ b)) ≡ true → c || some_of v (a ++ (y ∷ b)) ≡ true
      go true i = refl
      go false i = i

  none_in : (b : List Row) → All (λ z. v z ≡ false) b → some_of v b ≡ false
  none_in [] h = refl
  none_in (x ∷ b) h = rw h.0 (none_in b h.1)

  change_split : (a : List Row) (y : Row) (b : List Row) → v y ≡ true → All (λ z. v z ≡ false) b → change_last v f (a ++ (y ∷ b)) ≡ a ++ (f y ∷ b)
  change_split [] y b e h = rw (none_in b h, e)
  change_split (x ∷ a) y b e h = rw (some_in a y b e) (ap (λ l. x ∷ l) (change_split a y b e h))

-- of those of a key and creator none is accepted: so none of all is accepted that has to be of them
none_of : (v : Row → Bool) (k c : ℕ) (l : List Row) → All (λ z. v z ≡ false) (arrivals k c l) → All (λ z. of_version k c z && v z ≡ false) l
none_of v k c [] h = tt
none_of v k c (x ∷ l) h = by_test (of_version k c x) (none_of v k c l) h
  where
    by_test : (b : Bool) → (All (λ z. v z ≡ false) (arrivals k c l) → All (λ z. of_version k c z && v z ≡ false) l)
        → All (λ z. v z ≡ false) (pick b (x ∷ arrivals k c l) (arrivals k c l)) → (b && v x ≡ false) × All (λ z. of_version k c z && v z ≡ false) l
    by_test true rest g = (g.0, rest g.1)
    by_test false rest g = (refl, rest g)

-- ---- the store

module _ (g : Grown) (t : Shape) (tree : TreeIn g t) (v : Row → Bool) (key p : ℕ) (c : Cell) (here : Standing v key g.pool t p c)
    (d : ℕ) (low : d < 18446744073709551616) where
  abbrev s : List ℕ
  s = g.pool

  abbrev st : State
  st = g.state

  abbrev pg : List ℕ
  pg = page s p

  abbrev ctx : Ctx
  ctx = here.ctx

  abbrev row : Row
  row = row_of pg c

  abbrev front : List Row
  front = map (row_of pg) here.before

  abbrev back : List Row
  back = map (row_of pg) here.after

  pub leaf-is : AtLeaf s st.used (record { ctx = ctx; page = p; cells = here.rows })
  leaf-is = at_leaf s st.root st.used t tree.formed (record { ctx = ctx; page = p; cells = here.rows }) (sym here.is)

  pub sound : Sound pg leaf-is.end
  sound =
      met_sound st.used p c s tree.bytes (pool-is s st tree.good).room
      (record {
        in_use = leaf-is.in_use;
        end = leaf-is.end;
        judged = leaf-is.judged;
        before = here.before;
        after = here.after;
        among = here.cells_are;
      })

  old_is : here.rows ≡ front ++ (row ∷ back)
  old_is = here.rows_are ∙ map-append (row_of pg) here.before (c ∷ here.after)

  abbrev new : List Row
  new = stamped_rows d here.before c here.after pg

  bounds : KeysIn (lo_c 0 ctx) (hi_c top_key ctx) (front ++ (row ∷ back)) × Sorted (front ++ (row ∷ back))
  bounds =
      let held = leaf_held s st.root st.used ctx p here.rows (formed_at g t tree ctx p here.rows here.is) in
      subst (λ (l : List Row). KeysIn (lo_c 0 ctx) (hi_c top_key ctx) l × Sorted l) old_is
      (held.1, held.2)

  pub keys : KeysIn (lo_c 0 ctx) (hi_c top_key ctx) new
  keys = stamp_keys (lo_c 0 ctx) (hi_c top_key ctx) d front row back bounds.0

  pub sorted : Sorted new
  sorted = stamp_sorted d front row back bounds.1

  abbrev target : Target
  target = target_of pg p c

  pub spliced-is : spliced_stamp d target pg ≡ part 0 12 pg ++ rows_bytes new
  spliced-is = stamp-spliced-is pg leaf-is.end p d here.before here.after c sound here.cells_are low

  pub bytes-new : AreBytes (part 0 12 pg ++ rows_bytes new)
  bytes-new =
      let B = bytes-page p s tree.bytes in
      let body = part c.version.start c.version.len pg in
      subst AreBytes spliced-is
      (bytes-spliced c.at c.next target.beside.end (cell_bytes c.key c.version.creator (Some d) c.version.pointer body) pg
      (bytes-cell c.key c.version.creator (Some d) c.version.pointer body (bytes-part c.version.start c.version.len pg B)) B)

  abbrev cut : Cut
  cut = cut_stamped pg target

  abbrev chained : List Row
  chained = pre_c ctx ++ (new ++ post_c ctx)

  by_over : (over : Bool) → ltb 4084 (bytes_stamped target) ≡ over → room_of (length s / 4096) st (bytes_stamped target) (plan_above ctx p over cut s) ≡ Ok tt
      → Holding chained (stamped_at d target (plan_above ctx p over cut s) g)
  unfolding stamped_at
  by_over true o room =
      let h = room-told (length s / 4096) st (bytes_stamped target) p (path ctx) cut (division_of (path ctx) s) room in
      let plan = plan_above ctx p true cut s in
      let n = stamp-count pg leaf-is.end p d here.before here.after c sound here.cells_are low in
      subst (λ (w : List ℕ). Holding chained (divided_up plan p (cell_count pg) w g)) (sym spliced-is)
      (subst (λ (n : ℕ). Holding chained (divided_up plan p n (part 0 12 pg ++ rows_bytes new) g)) (sym n)
      (leaf-divided g t tree ctx p here.rows here.is new keys sorted bytes-new (bytes_stamped target) cut
      (stamp_cut pg leaf-is.end p d here.before here.after c sound here.cells_are low o) h))
  by_over false o room =
      let f = stamp-fits-bytes pg leaf-is.end p d here.before here.after c sound here.cells_are low o in
      rw f.0
      (leaf_stored g t tree ctx p here.rows here.is new keys sorted bytes-new
      (stamp_all_fit pg leaf-is.end p d here.before here.after c sound here.cells_are low) f.1)

  -- the chain, as it is meant
  chain-new : chained ≡ stamped v key d row (chain t)
  chain-new =
      let w : (Row → Bool) = λ x. of_version key row.creator x && v x in
      let own : w row ≡ true = rw (here.of_the_key, eq-eqb row.creator row.creator refl, here.seen) in
      let none = none_of v key row.creator (back ++ post_c ctx) here.last in
      let there : stamped v key d row (chain t) ≡ (pre_c ctx ++ front) ++ (stamp_row d row ∷ (back ++ post_c ctx)) =
      ap (change_last w (stamp_row d)) (standing_chain v key s t p c here)
      ∙ change_split w (stamp_row d) (pre_c ctx ++ front) row (back ++ post_c ctx) own none in
      rw there (simp append_assoc)

  pub stamps_it : stamp_room g t tree v key p c here ≡ Ok tt
      → Holding (stamped v key d row (chain t)) (stamped_at d (target_for g t tree v key p c here) (stamp_planned g t tree v key p c here) g)
  stamps_it room = let h = by_over (ltb 4084 (bytes_stamped target)) refl room in record { shape = h.shape; tree = h.tree; chain-is = h.chain-is ∙ chain-new }
