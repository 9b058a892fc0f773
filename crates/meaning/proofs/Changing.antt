-- What insert version, insert, stamp and claim do to a well-formed tree: the answer and the versions that are meant, room
-- refusals aside, and a well-formed tree after it. Assumes nothing.
use Rattle.call_answers.specs.declared.Refusal.{Refusal}
use Rattle.call_answers.specs.declared.Refused.{Refused}
use Rattle.std.proofs.Common.{Some, None, Result, Ok, Err, Option}
use mathlib.Core.Path.{◌≡◌, refl, sym, ap, ◌∙◌, subst}
use mathlib.Core.Bool.{Bool, true, false}
use mathlib.Core.List.{List}
use Prim.Native.Nat.{ℕ, ◌<◌}
use lib.Dec.{leb, eqb}
use lib.ListN.{length}
use borrow.Author.Tests.{leb-true}
use Rattle.store.specs.Le.{AreBytes}
use Rattle.store.specs.Pick.{pick}
use Rattle.page.specs.Page.{page}
use Rattle.page.specs.declared.pool.State.{State}
use Rattle.row.specs.declared.Cell.{Cell}
use Rattle.row.specs.declared.Pointer.{Pointer}
use Rattle.mvcc.specs.Snapshot.{lookup, good_statuses, creator_of, Snapshot, Statuses, good_snapshot, plain_snapshot}
use Rattle.leaf.specs.Rows.{Row, RowFits, row_of, row_size, row_bytes}
use Rattle.leaf.specs.Find.{Best}
use Rattle.page.specs.Pool.{Grown, grown}
use Rattle.tree_insert.specs.Insert.{inserted_at}
use Rattle.tree_insert.specs.Ready.{on_ready, ready_by_room}
use Rattle.tree_insert.specs.declared.ready.Ready.{Ready}
use Rattle.tree_stamp.specs.Target.{target_of}
use Rattle.tree_stamp.specs.Ready.{marking_by_room, marking_at}
use Rattle.tree_stamp.specs.declared.ready.Marking.{Marking}
use Rattle.call_read.specs.Find.{looked_best, find_visible_run}
use Rattle.call_answers.specs.Answer.{refusal_of, hide_end, stays, changed_to}
use Rattle.call_insert.specs.Insert.{insert_version_run, insert_version_call, insert_run, insert_call}
use Rattle.call_stamp.specs.Mark.{on_looked, conflict_told, mark_ready, marked, mark_run, mark_call}
use Rattle.call_stamp.specs.Claim.{claim_ready, claim_run, claim_call}
use Rattle.theory_tree.specs.Shape.{Shape, chain}
use Rattle.theory_tree.specs.Versions.{SameVersions, arrivals, best}
use Rattle.meaning.specs.Trees.{TreeIn}
use Rattle.meaning.specs.Change.{Change, inserts, inserts_version, stamps, claims, removes, Fits, Ran, ran_to, run, Roomy}
use Rattle.meaning.specs.Meant.{Meant, refused_as, done_with, seen_by, arriving, on_best, stamped, conflict_in, live_row, meant_insert, meant_version, meant_mark, meant_claim, meant}
use Rattle.meaning.specs.Demand.{Does, Effect}
use Rattle.theory_walks.proofs.Looking.{row_in, Standing, StandsBy, BestIs, test_is}
use Rattle.meaning.proofs.Last.{some_is}
use Rattle.meaning.proofs.Reading.{found}
use Rattle.meaning.proofs.Judging.{room_roomy, spot_for, insert_planned, insert_room, version_ready_lem, insert-ready, target_for, stamp_planned, stamp_room, marking_at_lem}
use Rattle.meaning.proofs.Inserting.{arrives}
use Rattle.meaning.proofs.Stamping.{stamps_it}

-- what was run comes to what is meant
record Comes (m : Meant) (r : Ran) : Type 0 where
  number : r.number ≡ m.number
  dropped : r.dropped ≡ m.dropped
  shape : Shape
  tree : TreeIn r.after shape
  versions : SameVersions (chain shape) m.rows

does : (a : Change) (g : Grown) (t : Shape) → Comes (meant a (chain t)) (run a g) → Does a t (run a g)
does a g t h = record { number = h.number; dropped = h.dropped; shape = h.shape; tree = h.tree; versions = h.versions }

-- so far as there is room
abbrev RoomComes : Meant → Ran → Type 0
RoomComes m r = (m.number ≡ 0 → Roomy r) → Comes m r

-- one call's case of the effect of all
abbrev pub EffectOf : Change → Type 0
EffectOf a = (g : Grown) (t : Shape) → TreeIn g t → Fits a → ((meant a (chain t)).number ≡ 0 → Roomy (run a g)) → Does a t (run a g)

module _ (g : Grown) (t : Shape) (tree : TreeIn g t) where
  abbrev s : List ℕ
  s = g.pool

  abbrev st : State
  st = g.state

  abbrev l : List Row
  l = chain t

  refused_comes : (n : ℕ) → RoomComes (refused_as n l) (record { number = n; dropped = 0; after = g })
  refused_comes n h = record { number = refl; dropped = refl; shape = t; tree = tree; versions = λ k c. refl }

  -- ---- a new version

  abbrev inserting : List ℕ → Result Ready Refused → Ran
  inserting b x = ran_to st (hide_end (on_ready (λ x plan. changed_to (inserted_at x plan b (grown s st))) (stays s) x))

  module _ (r : Row) (fits : RowFits r) (B : AreBytes r.body) where
    by_room : (x : Result Unit Refusal) → insert_room g t tree r fits.key (row_size r) ≡ x
        → RoomComes (done_with (arriving r l))
        (inserting (row_bytes r) (ready_by_room (spot_for g t tree r fits.key) (insert_planned g t tree r fits.key (row_size r)) x))
    by_room (Ok tt) e h =
        let a = arrives g t tree r fits B e in
        record { number = refl; dropped = refl; shape = a.shape; tree = a.tree; versions = a.versions }
    by_room (Err n) e h = absurd (let z = room_roomy _ _ _ _ (rw e (h refl)) in let u : Err n ≡ Ok tt = sym e ∙ z in cc)

    insert_comes : RoomComes (done_with (arriving r l))
        (inserting (row_bytes r) (ready_by_room (spot_for g t tree r fits.key) (insert_planned g t tree r fits.key (row_size r)) (insert_room g t tree r fits.key (row_size r))))
    insert_comes = by_room (insert_room g t tree r fits.key (row_size r)) refl

  -- ---- a stamp

  abbrev marks : (d : ℕ) → Result Marking Refused → Ran
  marks d x = ran_to st (hide_end (marked s st d x))

  module _ (claiming : Bool) (key d : ℕ) (sn : Snapshot) (ss : Statuses) (low : d < 18446744073709551616) (more : ℕ → Bool)
      (told : (seen : ℕ) → conflict_told s st key sn ss claiming seen ≡ Ok (more seen)) where
    abbrev v : Row → Bool
    v = seen_by sn (lookup ss)

    module _ (p : ℕ) (c : Cell) (here : Standing v key s t p c) where
      abbrev row : Row
      row = row_of (page s p) c

      stamp-room : (x : Result Unit Refusal) → stamp_room g t tree v key p c here ≡ x
          → RoomComes (done_with (stamped v key d row l))
          (marks d (marking_by_room (target_for g t tree v key p c here) (stamp_planned g t tree v key p c here) x))
      stamp-room (Ok tt) e h =
          let a = stamps_it g t tree v key p c here d low e in
          record { number = refl; dropped = refl; shape = a.shape; tree = a.tree; versions = λ k i. ap (arrivals k i) a.chain-is }
      stamp-room (Err n) e h = absurd (let z = room_roomy _ _ _ _ (rw e (h refl)) in let u : Err n ≡ Ok tt = sym e ∙ z in cc)

      by_more : (b : Bool)
          → RoomComes (pick b (refused_as 7 l) (done_with (stamped v key d row l)))
          (marks d (pick b (Err (refusal_of Refusal.Conflict)) (marking_by_room (target_for g t tree v key p c here) (stamp_planned g t tree v key p c here) (stamp_room g t tree v key p c here))))
      by_more true = refused_comes 7
      by_more false = stamp-room (stamp_room g t tree v key p c here) refl

    abbrev mark_meant : Option Row → Meant
    mark_meant o = on_best (refused_as 8 l) (λ y. pick (more y.creator) (refused_as 7 l) (done_with (stamped v key d y l))) o

    abbrev mark_on : Result (ℕ × Cell) Refused → Result Marking Refused
    mark_on x =
        on_looked (λ p c. marking_at s st (conflict_told s st key sn ss claiming c.version.creator) (target_of (page s p) p c))
        (λ r. Err r) x

    by_found : (b : Best) → StandsBy sn (lookup ss) key s t b → RoomComes (mark_meant (row_in s b)) (marks d (mark_on (looked_best (Ok b))))
    by_found None z = refused_comes 8
    by_found (Some (p, c)) z = rw (told c.version.creator, marking_at_lem g t tree v key p c z (more c.version.creator)) (by_more p c z (more c.version.creator))

    found_it : BestIs sn (lookup ss) key s st.root st.used t
    found_it = found g t tree key sn ss

    by_lists : (a b : Bool) → RoomComes (pick a (pick b (mark_meant (best v key l)) (refused_as 4 l)) (refused_as 3 l))
        (marks d (mark_on (pick a (pick b (looked_best (Ok found_it.found)) (Err (refusal_of Refusal.BadStatuses))) (Err (refusal_of Refusal.BadSnapshot)))))
    by_lists true true =
        subst (λ (o : Option Row). RoomComes (mark_meant o) (marks d (mark_on (looked_best (Ok found_it.found))))) found_it.row
        (by_found found_it.found found_it.stands)
    by_lists true false = refused_comes 4
    by_lists false b = refused_comes 3

    mark_comes : RoomComes (meant_mark key sn ss d (λ y. more y.creator) l) (marks d (mark_ready s st key sn ss claiming))
    unfolding meant_mark mark_ready find_visible_run
    mark_comes = rw (tree.good, found_it.told) (by_lists (good_snapshot sn) (good_statuses ss))

  -- ---- the four calls

  module _ (key creator : ℕ) (stamp : Option ℕ) (pointer : Option Pointer) (body : List ℕ) (fits : Fits (inserts_version key creator stamp pointer body)) where
    abbrev new : Row
    new = record { key = key; creator = creator; stamp = stamp; pointer = pointer; body = body }

    abbrev new_ready : Result Ready Refused
    new_ready = ready_by_room (spot_for g t tree new fits.0) (insert_planned g t tree new fits.0 (row_size new)) (insert_room g t tree new fits.0 (row_size new))

    by_length : (b : Bool) → leb (length body) 4051 ≡ b
        → RoomComes (pick b (done_with (arriving new l)) (refused_as 5 l)) (inserting (row_bytes new) (pick b new_ready (Err (refusal_of Refusal.BadData))))
    by_length true e =
        insert_comes new (record { key = fits.0; creator = fits.1; stamp = fits.2; pointer = fits.3; body = leb-true (length body) 4051 e }) fits.4
    by_length false e = refused_comes 5

    version_comes : RoomComes (meant (inserts_version key creator stamp pointer body) l) (run (inserts_version key creator stamp pointer body) g)
    unfolding meant meant_version run insert_version_call insert_version_run
    version_comes = rw (version_ready_lem g t tree new fits.0 stamp pointer (length body)) (by_length (leb (length body) 4051) refl)

  module _ (key : ℕ) (body : List ℕ) (cur : Option ℕ) (ss : Statuses) (fits : Fits (inserts key cur ss body)) where
    abbrev live : Row
    live = live_row key (creator_of cur) body

    abbrev live_ready : Result Ready Refused
    live_ready = ready_by_room (spot_for g t tree live fits.0) (insert_planned g t tree live fits.0 (row_size live)) (insert_room g t tree live fits.0 (row_size live))

    by_best : leb (length body) 4051 ≡ true → (o : Option Row)
        → RoomComes (on_best (done_with (arriving live l)) (λ y. refused_as 6 l) o) (inserting (row_bytes live) (on_best live_ready (λ y. Err (refusal_of Refusal.Duplicate)) o))
    by_best e None = insert_comes live (record { key = fits.0; creator = fits.1; stamp = tt; pointer = tt; body = leb-true (length body) 4051 e }) fits.2
    by_best e (Some y) = refused_comes 6

    by_tests : (a b : Bool) → leb (length body) 4051 ≡ b → (o : Option Row)
        → RoomComes (pick a (pick b (on_best (done_with (arriving live l)) (λ y. refused_as 6 l) o) (refused_as 5 l)) (refused_as 4 l))
        (inserting (row_bytes live) (pick a (pick b (on_best live_ready (λ y. Err (refusal_of Refusal.Duplicate)) o) (Err (refusal_of Refusal.BadData))) (Err (refusal_of Refusal.BadStatuses))))
    by_tests true true e o = by_best e o
    by_tests true false e o = refused_comes 5
    by_tests false b e o = refused_comes 4

    insert-call : RoomComes (meant (inserts key cur ss body) l) (run (inserts key cur ss body) g)
    unfolding meant meant_insert run insert_call insert_run
    insert-call =
        rw (insert-ready g t tree live fits.0 cur ss refl (length body))
        (by_tests (good_statuses ss) (leb (length body) 4051) refl (best (seen_by (plain_snapshot cur) (lookup ss)) key l))

  module _ (key d : ℕ) (sn : Snapshot) (ss : Statuses) (fits : Fits (stamps key sn ss d)) where
    stamp-call : RoomComes (meant (stamps key sn ss d) l) (run (stamps key sn ss d) g)
    unfolding meant run mark_call mark_run
    stamp-call = mark_comes false key d sn ss fits.1 (λ seen. false) (λ seen. refl)

  module _ (key : ℕ) (sn : Snapshot) (ss : Statuses) (fits : Fits (claims key sn ss)) where
    pub conflict-told : (seen : ℕ) → conflict_told s st key sn ss true seen ≡ Ok (conflict_in key sn (lookup ss) seen l)
    conflict-told seen =
        test_is true sn (lookup ss) seen key s st.root st.used t tree.formed ∙ ap (λ (b : Bool). Ok b) (sym (some_is _ l))

    by_current : (b : Bool)
        → RoomComes
        (pick b (refused_as 3 l)
        (meant_mark key sn ss (creator_of sn.current) (λ y. conflict_in key sn (lookup ss) y.creator l) l))
        (marks (creator_of sn.current) (pick b (Err (refusal_of Refusal.BadSnapshot)) (mark_ready s st key sn ss true)))
    by_current true = refused_comes 3
    by_current false =
        mark_comes true key (creator_of sn.current) sn ss fits.1 (λ seen. conflict_in key sn (lookup ss) seen l) conflict-told

    claim-call : RoomComes (meant (claims key sn ss) l) (run (claims key sn ss) g)
    unfolding meant meant_claim run claim_call claim_run claim_ready
    claim-call = rw tree.good (by_current (eqb (creator_of sn.current) 0))

pub effect_version : (key creator : ℕ) (stamp : Option ℕ) (pointer : Option Pointer) (body : List ℕ) → EffectOf (inserts_version key creator stamp pointer body)
effect_version key creator stamp pointer body g t tree fits room =
    does (inserts_version key creator stamp pointer body) g t (version_comes g t tree key creator stamp pointer body fits room)

pub effect_insert : (key : ℕ) (body : List ℕ) (cur : Option ℕ) (ss : Statuses) → EffectOf (inserts key cur ss body)
effect_insert key body cur ss g t tree fits room = does (inserts key cur ss body) g t (insert-call g t tree key body cur ss fits room)

pub effect_stamp : (key d : ℕ) (sn : Snapshot) (ss : Statuses) → EffectOf (stamps key sn ss d)
effect_stamp key d sn ss g t tree fits room =
    does (stamps key sn ss d) g t (stamp-call g t tree key d sn ss fits room)

pub effect_claim : (key : ℕ) (sn : Snapshot) (ss : Statuses) → EffectOf (claims key sn ss)
effect_claim key sn ss g t tree fits room =
    does (claims key sn ss) g t (claim-call g t tree key sn ss fits room)

-- all five, with what a remove does
pub effect_from : ((key : ℕ) → EffectOf (removes key)) → Effect
effect_from removing (inserts key cur ss body) = effect_insert key body cur ss
effect_from removing (inserts_version key creator stamp pointer body) = effect_version key creator stamp pointer body
effect_from removing (stamps key sn ss d) = effect_stamp key d sn ss
effect_from removing (claims key sn ss) = effect_claim key sn ss
effect_from removing (removes key) = removing key
