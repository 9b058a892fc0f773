-- What the writing calls judge on a well-formed tree, before any store: the spot of a new version, the target of a stamp and the
-- plan of either are always there, so that none says BadTree, and only the room is left to be asked. Assumes nothing.
use Rattle.call_answers.specs.declared.Refusal.{Refusal}
use Rattle.call_answers.specs.Answer.{refusal_of, outcome_of}
use Rattle.std.proofs.Common.{Result, Err, Some, None, Ok, Option}
use mathlib.Core.Path.{◌≡◌, refl, sym, subst}
use mathlib.Core.Bool.{Bool, true, false}
use mathlib.Core.List.{List, [], ◌∷◌}
use Prim.Native.Nat.{ℕ, ◌+◌, ◌/◌, ◌<◌}
use native.Mathlib.Omega.{arith}
use lib.Dec.{leb, ltb}
use lib.ListN.{length}
use Rattle.store.specs.Pick.{pick}
use Rattle.page.specs.Page.{page}
use Rattle.page.specs.declared.pool.State.{State}
use Rattle.row.specs.Write.{cell_size}
use Rattle.row.specs.declared.Cell.{Cell}
use Rattle.row.specs.declared.Pointer.{Pointer}
use Rattle.mvcc.specs.Lists.{mem}
use Rattle.mvcc.specs.Snapshot.{lookup, good_statuses, creator_of, Statuses, plain_snapshot}
use Rattle.leaf.specs.Cells.{cells}
use Rattle.leaf.specs.Place.{cut_fits, place_of, place_leaf}
use Rattle.leaf.specs.Rows.{Row}
use Rattle.leaf.specs.Find.{Best}
use Rattle.leaf.specs.declared.place.Cut.{Cut}
use Rattle.page.specs.Pool.{Grown}
use Rattle.tree_grow.specs.Plan.{pages_asked}
use Rattle.tree_room.specs.Room.{grows_too_deep, leaf_plan, room_of}
use Rattle.tree_room.specs.declared.Planned.{Planned}
use Rattle.tree_insert.specs.Spot.{spot_of}
use Rattle.tree_insert.specs.Insert.{bytes_with, cut_with, insert_plan}
use Rattle.tree_insert.specs.Ready.{is_seen, ready_by_room, ready_at, version_at, new_at}
use Rattle.tree_insert.specs.declared.Spot.{Spot}
use Rattle.tree_stamp.specs.Target.{target_of}
use Rattle.tree_stamp.specs.Stamp.{bytes_stamped, cut_stamped, stamp_plan}
use Rattle.tree_stamp.specs.Ready.{marking_by_room, marking_at}
use Rattle.tree_stamp.specs.declared.Target.{Target}
use Rattle.call_insert.specs.Insert.{version_ready, insert_ready}
use Rattle.theory_tree.specs.View.{view}
use Rattle.theory_tree.specs.Shape.{Shape, leaf, chain, WellFormed}
use Rattle.theory_tree.specs.Versions.{best}
use Rattle.meaning.specs.Trees.{TreeIn}
use Rattle.meaning.specs.Meant.{seen_by, on_best}
use Rattle.theory_tree.proofs.Contexts.{Ctx, plug}
use Rattle.theory_tree.proofs.Insert.{way, Way, way_ok}
use Rattle.theory_walks.proofs.Descending.{descend-insert}
use Rattle.theory_walks.proofs.Walking.{AtLeaf, at_leaf}
use Rattle.theory_walks.proofs.Looking.{row_in, Standing, BestIs}
use Rattle.theory_walks.proofs.Climbing.{climb-leaf}
use Rattle.theory_plan.proofs.Linking.{plan_above, leaf_plan-ok}
use Rattle.meaning.proofs.Reading.{found}

-- ---- the room

-- the number of what was found of the room; 0 is none of its refusals
abbrev pub room_number : Result Unit Refusal → ℕ
room_number r = (outcome_of r).number

-- what is no room refusal has room
pub room_roomy : (pages : ℕ) (st : State) (t : ℕ) (x : Planned) → mem (room_number (room_of pages st t x)) (9 ∷ 10 ∷ 11 ∷ []) ≡ false → room_of pages st t x ≡ Ok tt
unfolding room_of mem
room_roomy pages st t x e =
    by_tests x.over (cut_fits t x.cut) (grows_too_deep x) (leb (st.used + 1 + pages_asked st.root x.above) pages) e
  where
    by_tests : (a b c d : Bool)
        → mem (room_number (pick a (pick b (pick c (Err Refusal.TooDeep) (pick d (Ok tt) (Err Refusal.NoPages))) (Err Refusal.Undividable)) (Ok tt))) (9 ∷ 10 ∷ 11 ∷ []) ≡ false
        → ◌≡◌ {A = Result Unit Refusal} (pick a (pick b (pick c (Err Refusal.TooDeep) (pick d (Ok tt) (Err Refusal.NoPages))) (Err Refusal.Undividable)) (Ok tt)) (Ok tt)
    by_tests false b c d e = refl
    by_tests true false c d e = absurd (let z : ◌≡◌ {A = ℕ} 0 1 = cc in omega arith)
    by_tests true true true d e = absurd (let z : ◌≡◌ {A = ℕ} 0 1 = cc in omega arith)
    by_tests true true false true e = refl
    by_tests true true false false e = absurd (let z : ◌≡◌ {A = ℕ} 0 1 = cc in omega arith)

module _ (g : Grown) (t : Shape) (tree : TreeIn g t) where
  abbrev s : List ℕ
  s = g.pool

  abbrev st : State
  st = g.state

  -- ---- a leaf of the tree

  module _ (c : Ctx) (p : ℕ) (rs : List Row) (is : t ≡ plug c (leaf p rs)) where
    pub formed_at : WellFormed (view s) st.root st.used (plug c (leaf p rs))
    formed_at = subst (WellFormed (view s) st.root st.used) is tree.formed

    pub leaf-planned : (over : Bool) (cut : Cut) → leaf_plan s st p over cut ≡ Ok (plan_above c p over cut s)
    leaf-planned = leaf_plan-ok s st c p rs formed_at (climb-leaf s st.root st.used t tree.formed c p rs is)

  -- ---- a new version

  module _ (r : Row) (k : r.key < 4294967296) where
    pub way_there : Way r t
    way_there = way_ok r t (omega arith) tree.formed.bounds

    pub way_leaf : AtLeaf s st.used (way r t)
    way_leaf = at_leaf s st.root st.used t tree.formed (way r t) way_there.back

    abbrev pub spot_for : Spot
    spot_for = record { leaf = (way r t).page; place = place_of r.key r.creator (cells (page s (way r t).page)); end = way_leaf.end }

    pub spots : spot_of s st.used st.root r.key r.creator ≡ Ok spot_for
    unfolding spot_of place_leaf
    spots = rw (descend-insert s st.root st.used t tree.formed r.key, way_leaf.judged)

    abbrev pub insert_planned : (m : ℕ) → Planned
    insert_planned m = plan_above (way r t).ctx (way r t).page (ltb 4084 (bytes_with spot_for m)) (cut_with (page s (way r t).page) spot_for m) s

    pub insert-planned : (m : ℕ) → insert_plan s st spot_for m ≡ Ok (insert_planned m)
    unfolding insert_plan
    insert-planned m = leaf-planned (way r t).ctx (way r t).page (way r t).cells (sym way_there.back) _ _

    abbrev pub insert_room : (m : ℕ) → Result Unit Refusal
    insert_room m = room_of (length s / 4096) st (bytes_with spot_for m) (insert_planned m)

    pub ready_at_lem : (seen : Bool) (m : ℕ) → ready_at s st seen spot_for m ≡ pick seen (Err (refusal_of Refusal.Duplicate)) (ready_by_room spot_for (insert_planned m) (insert_room m))
    unfolding ready_at
    ready_at_lem seen m = rw (insert-planned m)

    pub version_ready_lem : (stamp : Option ℕ) (pointer : Option Pointer) (len : ℕ) → version_ready s st r.key r.creator stamp pointer len
        ≡ pick (leb len 4051) (ready_by_room spot_for (insert_planned (cell_size stamp pointer len)) (insert_room (cell_size stamp pointer len))) (Err (refusal_of Refusal.BadData))
    unfolding version_ready version_at
    version_ready_lem stamp pointer len = rw (tree.good, spots, ready_at_lem false (cell_size stamp pointer len))

    module _ (cur : Option ℕ) (ss : Statuses) (by : r.creator ≡ creator_of cur) where
      abbrev seen : Row → Bool
      seen = seen_by (plain_snapshot cur) (lookup ss)

      new_at_lem : (m : ℕ) → new_at s st r.key cur ss m
          ≡ on_best (ready_by_room spot_for (insert_planned m) (insert_room m)) (λ y. Err (refusal_of Refusal.Duplicate)) (best seen r.key (chain t))
      unfolding new_at
      new_at_lem m = rw (← by, spots, found_it.told) (by_found found_it.found (best seen r.key (chain t)) found_it.row)
        where
          found_it : BestIs (plain_snapshot cur) (lookup ss) r.key s st.root st.used t
          found_it = found g t tree r.key (plain_snapshot cur) ss

          by_found : (b : Best) (o : Option Row) → row_in s b ≡ o
              → ready_at s st (is_seen b) spot_for m ≡ on_best (ready_by_room spot_for (insert_planned m) (insert_room m)) (λ y. Err (refusal_of Refusal.Duplicate)) o
          by_found None None e = ready_at_lem false m
          by_found None (Some y) e = absurd (let z : ◌≡◌ {A = ℕ} 0 1 = cc in omega arith)
          by_found (Some (p, d)) None e = absurd (let z : ◌≡◌ {A = ℕ} 0 1 = cc in omega arith)
          by_found (Some (p, d)) (Some y) e = ready_at_lem true m

      pub insert-ready : (len : ℕ) → insert_ready s st r.key cur ss len
          ≡ pick (good_statuses ss)
          (pick (leb len 4051)
          (on_best (ready_by_room spot_for (insert_planned (cell_size None None len)) (insert_room (cell_size None None len))) (λ y. Err (refusal_of Refusal.Duplicate))
          (best seen r.key (chain t)))
          (Err (refusal_of Refusal.BadData)))
          (Err (refusal_of Refusal.BadStatuses))
      unfolding insert_ready
      insert-ready len = rw (tree.good, new_at_lem (cell_size None None len))

  -- ---- a stamp

  module _ (v : Row → Bool) (key p : ℕ) (c : Cell) (here : Standing v key s t p c) where
    abbrev pub target_for : Target
    target_for = target_of (page s p) p c

    abbrev pub stamp_planned : Planned
    stamp_planned = plan_above here.ctx p (ltb 4084 (bytes_stamped target_for)) (cut_stamped (page s p) target_for) s

    pub stamp-planned : stamp_plan s st target_for ≡ Ok stamp_planned
    unfolding stamp_plan
    stamp-planned = leaf-planned here.ctx p here.rows here.is _ _

    abbrev pub stamp_room : Result Unit Refusal
    stamp_room = room_of (length s / 4096) st (bytes_stamped target_for) stamp_planned

    pub marking_at_lem : (b : Bool) → marking_at s st (Ok b) target_for ≡ pick b (Err (refusal_of Refusal.Conflict)) (marking_by_room target_for stamp_planned stamp_room)
    unfolding marking_at
    marking_at_lem true = rw stamp-planned
    marking_at_lem false = rw stamp-planned
