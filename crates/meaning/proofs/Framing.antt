-- A call on a tree changes that tree's pages and pages that it takes: every other page in use stays as it was. Assumes nothing.
use Rattle.call_answers.specs.declared.Refusal.{Refusal}
use Rattle.call_answers.specs.declared.Refused.{Refused}
use Rattle.std.proofs.Common.{Some, None, Result, Ok, Err, Option}
use mathlib.Core.Path.{◌≡◌, refl, sym, subst}
use mathlib.Core.Bool.{Bool, true, false, or-true}
use mathlib.Core.List.{List, [], ◌∷◌, ◌++◌}
use Prim.Native.Nat.{ℕ, ◌+◌, ◌/◌, ◌≤◌, ◌<◌}
use native.Mathlib.Omega.{arith}
use lib.Dec.{leb, ltb, eqb}
use lib.ListN.{length}
use borrow.Author.Tests.{leb-true, eq-eqb}
use Rattle.store.specs.Le.{AreBytes}
use Rattle.store.specs.Part.{part}
use Rattle.store.specs.Pick.{pick}
use Rattle.page.specs.Header.{cell_count}
use Rattle.page.specs.Page.{page, set_page}
use Rattle.page.specs.declared.pool.State.{State}
use Rattle.row.specs.declared.Cell.{Cell}
use Rattle.row.specs.declared.Pointer.{Pointer}
use Rattle.mvcc.specs.Lists.{mem}
use Rattle.mvcc.specs.Snapshot.{lookup, good_statuses, creator_of, Snapshot, Statuses, good_snapshot, plain_snapshot}
use Rattle.leaf.specs.Rows.{Row, RowFits, row_size, row_bytes, rows_bytes, write_rows}
use Rattle.leaf.specs.Find.{Best}
use Rattle.leaf.specs.declared.place.Cut.{Cut}
use Rattle.tree.specs.Climb.{path_of}
use Rattle.page.specs.Pool.{Grown}
use Rattle.tree_grow.specs.Plan.{division_of}
use Rattle.tree_room.specs.Room.{dividing, room_of}
use Rattle.tree_room.specs.Up.{divided_up}
use Rattle.tree_room.specs.declared.Planned.{Planned}
use Rattle.tree_insert.specs.Insert.{bytes_with, cut_with, inserted_at}
use Rattle.tree_insert.specs.Ready.{on_ready, ready_by_room}
use Rattle.tree_insert.specs.declared.ready.Ready.{Ready}
use Rattle.tree_insert.specs.declared.Spot.{Spot}
use Rattle.tree_stamp.specs.Target.{target_of}
use Rattle.tree_stamp.specs.Stamp.{bytes_stamped, cut_stamped, stamped_at}
use Rattle.tree_stamp.specs.Ready.{marking_by_room, marking_at}
use Rattle.tree_stamp.specs.declared.Target.{Target}
use Rattle.tree_stamp.specs.declared.ready.Marking.{Marking}
use Rattle.call_read.specs.Find.{looked_best, find_visible_run}
use Rattle.call_answers.specs.Answer.{refusal_of, stays, changed_to}
use Rattle.call_insert.specs.Insert.{insert_version_run, insert_version_call, insert_run, insert_call}
use Rattle.call_stamp.specs.Mark.{on_looked, conflict_told, mark_ready, marked, mark_run, mark_call}
use Rattle.call_stamp.specs.Claim.{claim_ready, claim_run, claim_call}
use Rattle.theory_tree.specs.Shape.{Shape, leaf, chain, pages_in, KeysIn, Sorted}
use Rattle.theory_tree.specs.Versions.{best}
use Rattle.meaning.specs.Trees.{TreeIn}
use Rattle.meaning.specs.Change.{Change, inserts, inserts_version, stamps, claims, removes, Fits, run}
use Rattle.meaning.specs.Meant.{seen_by, on_best, conflict_in, live_row}
use Rattle.meaning.specs.Frame.{Elsewhere, Framed}
use Rattle.page.proofs.PageLaws.{page-set_page-other}
use Rattle.page.proofs.PoolLaws.{pool-is}
use Rattle.theory_tree.proofs.Contexts.{top_key, Ctx, plug, pre_g, post_g, lo_c, hi_c, place}
use Rattle.theory_tree.proofs.Entries.{path}
use Rattle.theory_tree.proofs.Insert.{way}
use Rattle.theory_tree.proofs.Zip.{plug_pages}
use Rattle.theory_stores.proofs.Rowing.{rows_long}
use Rattle.theory_walks.proofs.Looking.{Standing, StandsBy, BestIs}
use Rattle.theory_plan.proofs.Linking.{plan_above}
use Rattle.theory_plan.proofs.Sides.{RowsCut}
use Rattle.theory_plan.proofs.Rooms.{HasRoom, room-told}
use Rattle.theory_plan.proofs.Leaves.{insert-fits-bytes, insert_cut}
use Rattle.theory_plan.proofs.Stamps.{stamped_rows, stamp-fits-bytes, stamp_cut}
use Rattle.theory_grow.proofs.Framing.{divided-up_elsewhere}
use Rattle.theory_clean.proofs.Framing.{remove_elsewhere, vacuum_elsewhere}
use Rattle.meaning.proofs.Reading.{found}
use Rattle.meaning.proofs.Judging.{spot_for, insert_planned, insert_room, version_ready_lem, insert-ready, target_for, stamp_planned, stamp_room, marking_at_lem}
use Rattle.meaning.proofs.Storing.{leaf-there, leaf-long, used-few}
use Rattle.meaning.proofs.Inserting.{is as way-is, spot, holds, sorted_old, new as new-rows, spliced-is as insert-spliced, bytes-new as insert-bytes}
use Rattle.meaning.proofs.Stamping.{leaf-is, sound, keys as stamped-keys, sorted as stamped-sorted, spliced-is as stamp-spliced, bytes-new as stamp-bytes}
use Rattle.meaning.proofs.Changing.{conflict-told}

mem-there : (p : ℕ) (a b : List ℕ) → mem p (a ++ (p ∷ b)) ≡ true
unfolding mem
mem-there p [] b = rw (eq-eqb p p refl) refl
mem-there p (y ∷ a) b = rw (mem-there p a b) (or-true (eqb y p))

module _ (g : Grown) (t : Shape) (tree : TreeIn g t) where
  abbrev s : List ℕ
  s = g.pool

  abbrev st : State
  st = g.state

  -- from s to this pool
  abbrev Apart : List ℕ → Type 0
  Apart after = Elsewhere t st.used s after

  all_stay : Apart s
  all_stay x low out = refl

  -- ---- a leaf gets other rows

  module _ (c : Ctx) (p : ℕ) (old : List Row) (is : t ≡ plug c (leaf p old)) where
    not_leaf : (x : ℕ) → mem x (pages_in t) ≡ false → x ≡ p → ⊥
    not_leaf x out e =
        let own : mem p (pages_in t) ≡ true = rw (is, plug_pages c (leaf p old)) (mem-there p (pre_g c) (post_g c)) in
        absurd (let z : ◌≡◌ {A = ℕ} 0 1 = cc in omega arith)

    -- in its page
    stored_apart : (rs : List Row) → length (rows_bytes rs) ≤ 4084 → Apart (set_page p (write_rows rs (page s p)) s)
    stored_apart rs few x low out =
        page-set_page-other p (write_rows rs (page s p)) s (leaf-there g t tree c p old is) (rows_long rs (page s p) (leaf-long g t tree c p old is) few) x (not_leaf x out)

    -- divided as planned, whatever count of cells n it is said to have
    divided-apart : (rs : List Row) → KeysIn (lo_c 0 c) (hi_c top_key c) rs → Sorted rs → AreBytes (part 0 12 (page s p) ++ rows_bytes rs)
        → (total : ℕ) (cut : Cut) → RowsCut rs cut → HasRoom (length s / 4096) st total cut (path c) (division_of (path c) s)
        → (n : ℕ) → Apart (divided_up (dividing (path_of (p ∷ path c)) cut (division_of (path c) s)) p n (part 0 12 (page s p) ++ rows_bytes rs) g).pool
    divided-apart rs keys sorted B total cut cuts room n =
        let few = (pool-is s st tree.good).few in
        let used = used-few g t tree c p old is rs keys sorted B total cut cuts room in
        divided-up_elsewhere s st.root st.used t c p old cuts.left cuts.middle cuts.right
        (dividing (path_of (p ∷ path c)) cut (division_of (path c) s)) n (part 0 12 (page s p) ++ rows_bytes rs)
        is tree.formed tree.bytes B cuts.left-few cuts.right-few (rw cuts.whole) refl cuts.place (omega (arith, used)) (omega (arith, used))

  -- ---- a new version

  abbrev inserted_by : (b : List ℕ) → Result Ready Refused → List ℕ
  inserted_by b x = (on_ready (λ x plan. changed_to (inserted_at x plan b g)) (stays s) x).pool

  module _ (r : Row) (fits : RowFits r) (B : AreBytes r.body) where
    abbrev at_way : Ctx
    at_way = (way r t).ctx

    abbrev q : ℕ
    q = (way r t).page

    abbrev old : List Row
    old = (way r t).cells

    abbrev spot_for_lem : Spot
    spot_for_lem = spot_for g t tree r fits.key

    abbrev size : ℕ
    size = bytes_with spot_for_lem (row_size r)

    abbrev cut_with_lem : Cut
    cut_with_lem = cut_with (page s q) spot_for_lem (row_size r)

    insert_over : (over : Bool) → ltb 4084 size ≡ over → room_of (length s / 4096) st size (plan_above at_way q over cut_with_lem s) ≡ Ok tt
        → Apart (inserted_at spot_for_lem (plan_above at_way q over cut_with_lem s) (row_bytes r) g).pool
    unfolding inserted_at
    insert_over true o room =
        let h = room-told (length s / 4096) st size q (path at_way) cut_with_lem (division_of (path at_way) s) room in
        let n = new-rows g t tree r fits B in
        let cuts = insert_cut st.used s spot_for_lem r old (spot g t tree r fits B) (holds g t tree r fits B) (sorted_old g t tree r fits B) fits o h.cuts in
        subst (λ (w : List ℕ). Apart (divided_up (plan_above at_way q true cut_with_lem s) q (cell_count (page s q) + 1) w g).pool) (sym (insert-spliced g t tree r fits B))
        (divided-apart at_way q old (way-is g t tree r fits B) (place r old) n.0 n.1 (insert-bytes g t tree r fits B) size cut_with_lem cuts h
        (cell_count (page s q) + 1))
    insert_over false o room =
        let f = insert-fits-bytes st.used s spot_for_lem r old (spot g t tree r fits B) (holds g t tree r fits B) (sorted_old g t tree r fits B) fits o in
        subst (λ (w : List ℕ). Apart (set_page q w s)) (sym f.0) (stored_apart at_way q old (way-is g t tree r fits B) (place r old) f.1)

    abbrev plan_for : Planned
    plan_for = insert_planned g t tree r fits.key (row_size r)

    abbrev room_for : Result Unit Refusal
    room_for = insert_room g t tree r fits.key (row_size r)

    insert-room : (x : Result Unit Refusal) → room_for ≡ x → Apart (inserted_by (row_bytes r) (ready_by_room spot_for_lem plan_for x))
    insert-room (Ok tt) e = insert_over (ltb 4084 size) refl e
    insert-room (Err n) e = all_stay

    insert-apart : Apart (inserted_by (row_bytes r) (ready_by_room spot_for_lem plan_for room_for))
    insert-apart = insert-room room_for refl

  -- ---- a stamp

  abbrev marked_by : (d : ℕ) → Result Marking Refused → List ℕ
  marked_by d x = (marked s st d x).pool

  module _ (claiming : Bool) (key d : ℕ) (sn : Snapshot) (ss : Statuses) (low : d < 18446744073709551616) (more : ℕ → Bool)
      (told : (seen : ℕ) → conflict_told s st key sn ss claiming seen ≡ Ok (more seen)) where
    abbrev v : Row → Bool
    v = seen_by sn (lookup ss)

    module _ (p : ℕ) (c : Cell) (here : Standing v key s t p c) where
      abbrev target : Target
      target = target_for g t tree v key p c here

      abbrev total : ℕ
      total = bytes_stamped target

      abbrev cut_stamped_lem : Cut
      cut_stamped_lem = cut_stamped (page s p) target

      abbrev rows-stamped : List Row
      rows-stamped = stamped_rows d here.before c here.after (page s p)

      stamp_over : (over : Bool) → ltb 4084 total ≡ over → room_of (length s / 4096) st total (plan_above here.ctx p over cut_stamped_lem s) ≡ Ok tt
          → Apart (stamped_at d target (plan_above here.ctx p over cut_stamped_lem s) g).pool
      unfolding stamped_at
      stamp_over true o room =
          let h = room-told (length s / 4096) st total p (path here.ctx) cut_stamped_lem (division_of (path here.ctx) s) room in
          let leaf_at = leaf-is g t tree v key p c here d low in
          let cuts = stamp_cut (page s p) leaf_at.end p d here.before here.after c (sound g t tree v key p c here d low) here.cells_are low o in
          subst (λ (w : List ℕ). Apart (divided_up (plan_above here.ctx p true cut_stamped_lem s) p (cell_count (page s p)) w g).pool)
          (sym (stamp-spliced g t tree v key p c here d low))
          (divided-apart here.ctx p here.rows here.is rows-stamped (stamped-keys g t tree v key p c here d low) (stamped-sorted g t tree v key p c here d low)
          (stamp-bytes g t tree v key p c here d low) total cut_stamped_lem cuts h (cell_count (page s p)))
      stamp_over false o room =
          let leaf_at = leaf-is g t tree v key p c here d low in
          let f = stamp-fits-bytes (page s p) leaf_at.end p d here.before here.after c (sound g t tree v key p c here d low) here.cells_are low o in
          subst (λ (w : List ℕ). Apart (set_page p w s)) (sym f.0) (stored_apart here.ctx p here.rows here.is rows-stamped f.1)

      abbrev stamp_plan_lem : Planned
      stamp_plan_lem = stamp_planned g t tree v key p c here

      abbrev stamp-left : Result Unit Refusal
      stamp-left = stamp_room g t tree v key p c here

      stamp-room : (x : Result Unit Refusal) → stamp-left ≡ x → Apart (marked_by d (marking_by_room target stamp_plan_lem x))
      stamp-room (Ok tt) e = stamp_over (ltb 4084 total) refl e
      stamp-room (Err n) e = all_stay

      by_more : (b : Bool) → Apart (marked_by d (pick b (Err (refusal_of Refusal.Conflict)) (marking_by_room target stamp_plan_lem stamp-left)))
      by_more true = all_stay
      by_more false = stamp-room stamp-left refl

    abbrev mark_on : Result (ℕ × Cell) Refused → Result Marking Refused
    mark_on x =
        on_looked (λ p c. marking_at s st (conflict_told s st key sn ss claiming c.version.creator) (target_of (page s p) p c))
        (λ r. Err r) x

    by_found : (b : Best) → StandsBy sn (lookup ss) key s t b → Apart (marked_by d (mark_on (looked_best (Ok b))))
    by_found None z = all_stay
    by_found (Some (p, c)) z = rw (told c.version.creator, marking_at_lem g t tree v key p c z (more c.version.creator)) (by_more p c z (more c.version.creator))

    found_it : BestIs sn (lookup ss) key s st.root st.used t
    found_it = found g t tree key sn ss

    by_lists : (a b : Bool)
        → Apart (marked_by d (mark_on (pick a (pick b (looked_best (Ok found_it.found)) (Err (refusal_of Refusal.BadStatuses))) (Err (refusal_of Refusal.BadSnapshot)))))
    by_lists true true = by_found found_it.found found_it.stands
    by_lists true false = all_stay
    by_lists false b = all_stay

    mark-apart : Apart (marked_by d (mark_ready s st key sn ss claiming))
    unfolding mark_ready find_visible_run
    mark-apart = rw (tree.good, found_it.told) (by_lists (good_snapshot sn) (good_statuses ss))

  -- ---- the four calls

  module _ (key creator : ℕ) (stamp : Option ℕ) (pointer : Option Pointer) (body : List ℕ) (fits : Fits (inserts_version key creator stamp pointer body)) where
    abbrev new : Row
    new = record { key = key; creator = creator; stamp = stamp; pointer = pointer; body = body }

    abbrev new_ready : Result Ready Refused
    new_ready = ready_by_room (spot_for g t tree new fits.0) (insert_planned g t tree new fits.0 (row_size new)) (insert_room g t tree new fits.0 (row_size new))

    by_length : (b : Bool) → leb (length body) 4051 ≡ b → Apart (inserted_by (row_bytes new) (pick b new_ready (Err (refusal_of Refusal.BadData))))
    by_length true e =
        insert-apart new (record { key = fits.0; creator = fits.1; stamp = fits.2; pointer = fits.3; body = leb-true (length body) 4051 e }) fits.4
    by_length false e = all_stay

    version_apart : Apart (run (inserts_version key creator stamp pointer body) g).after.pool
    unfolding run insert_version_call insert_version_run
    version_apart = rw (version_ready_lem g t tree new fits.0 stamp pointer (length body)) (by_length (leb (length body) 4051) refl)

  module _ (key : ℕ) (body : List ℕ) (cur : Option ℕ) (ss : Statuses) (fits : Fits (inserts key cur ss body)) where
    abbrev live : Row
    live = live_row key (creator_of cur) body

    abbrev live_ready : Result Ready Refused
    live_ready = ready_by_room (spot_for g t tree live fits.0) (insert_planned g t tree live fits.0 (row_size live)) (insert_room g t tree live fits.0 (row_size live))

    by_best : leb (length body) 4051 ≡ true → (o : Option Row) → Apart (inserted_by (row_bytes live) (on_best live_ready (λ y. Err (refusal_of Refusal.Duplicate)) o))
    by_best e None = insert-apart live (record { key = fits.0; creator = fits.1; stamp = tt; pointer = tt; body = leb-true (length body) 4051 e }) fits.2
    by_best e (Some y) = all_stay

    by_tests : (a b : Bool) → leb (length body) 4051 ≡ b → (o : Option Row)
        → Apart (inserted_by (row_bytes live) (pick a (pick b (on_best live_ready (λ y. Err (refusal_of Refusal.Duplicate)) o) (Err (refusal_of Refusal.BadData))) (Err (refusal_of Refusal.BadStatuses))))
    by_tests true true e o = by_best e o
    by_tests true false e o = all_stay
    by_tests false b e o = all_stay

    new_apart : Apart (run (inserts key cur ss body) g).after.pool
    unfolding run insert_call insert_run
    new_apart =
        rw (insert-ready g t tree live fits.0 cur ss refl (length body))
        (by_tests (good_statuses ss) (leb (length body) 4051) refl (best (seen_by (plain_snapshot cur) (lookup ss)) key (chain t)))

  module _ (key d : ℕ) (sn : Snapshot) (ss : Statuses) (fits : Fits (stamps key sn ss d)) where
    stamp-apart : Apart (run (stamps key sn ss d) g).after.pool
    unfolding run mark_call mark_run
    stamp-apart = mark-apart false key d sn ss fits.1 (λ seen. false) (λ seen. refl)

  module _ (key : ℕ) (sn : Snapshot) (ss : Statuses) (fits : Fits (claims key sn ss)) where
    by_current : (b : Bool) → Apart (marked_by (creator_of sn.current) (pick b (Err (refusal_of Refusal.BadSnapshot)) (mark_ready s st key sn ss true)))
    by_current true = all_stay
    by_current false =
        mark-apart true key (creator_of sn.current) sn ss fits.1 (λ seen. conflict_in key sn (lookup ss) seen (chain t))
        (conflict-told g t tree key sn ss fits)

    claim-apart : Apart (run (claims key sn ss) g).after.pool
    unfolding run claim_call claim_run claim_ready
    claim-apart = rw tree.good (by_current (eqb (creator_of sn.current) 0))

-- ---- all five, and vacuum

changed-apart : (a : Change) (g : Grown) (t : Shape) → TreeIn g t → Fits a → Elsewhere t g.state.used g.pool (run a g).after.pool
unfolding run
changed-apart (inserts key cur ss body) g t tree fits = new_apart g t tree key body cur ss fits
changed-apart (inserts_version key creator stamp pointer body) g t tree fits = version_apart g t tree key creator stamp pointer body fits
changed-apart (stamps key sn ss d) g t tree fits = stamp-apart g t tree key d sn ss fits
changed-apart (claims key sn ss) g t tree fits = claim-apart g t tree key sn ss fits
changed-apart (removes key) g t tree fits = remove_elsewhere g.pool g.state t tree.bytes tree.formed key

pub framed : Framed
framed =
    record {
      changes = changed-apart;
      vacuums = λ g t bound ss tree. vacuum_elsewhere g.pool g.state t tree.bytes tree.formed bound ss;
    }
