-- The writing calls refuse as demand 1 has it: each is judged on the unchanged pool, and stored only where nothing refuses.
-- Assumes nothing.
use Rattle.std.proofs.Common.{Option, None, Result, Ok, Err}
use mathlib.Core.Path.{◌≡◌, refl, sym}
use mathlib.Core.Bool.{Bool, true, false}
use mathlib.Core.List.{List, [], ◌∷◌}
use Prim.Native.Nat.{ℕ, ◌+◌, ◌/◌}
use lib.Dec.{leb, eqb}
use lib.ListN.{length}
use Rattle.store.specs.Le.{AreBytes}
use Rattle.store.specs.Pick.{pick}
use Rattle.page.specs.Page.{page}
use Rattle.page.specs.Pool.{good_pool, Grown, grown}
use Rattle.page.specs.declared.pool.State.{State}
use Rattle.row.specs.Write.{cell_size, cell_bytes}
use Rattle.row.specs.declared.Fault.{Fault}
use Rattle.row.specs.declared.Pointer.{Pointer}
use Rattle.row.specs.declared.Cell.{Cell}
use Rattle.mvcc.specs.Lists.{mem}
use Rattle.mvcc.specs.Snapshot.{lookup, good_statuses, creator_of, Snapshot, Statuses, plain_snapshot}
use Rattle.leaf.specs.Place.{cut_fits}
use Rattle.leaf.specs.Find.{Best}
use Rattle.tree.specs.Descend.{descend_of, on_leaf}
use Rattle.tree.specs.Lookup.{best_in_tree}
use Rattle.tree.specs.declared.Route.{Route}
use Rattle.tree_grow.specs.Plan.{pages_asked}
use Rattle.tree_room.specs.Room.{grows_too_deep, room_of, on_room, on_leaf_plan}
use Rattle.tree_room.specs.declared.Planned.{Planned}
use Rattle.tree_insert.specs.Spot.{spot_of}
use Rattle.tree_insert.specs.Insert.{bytes_with, insert_plan, inserted_at}
use Rattle.tree_insert.specs.Ready.{on_ready, ready_by_room, on_spot, ready_at, version_at, is_seen, on_chain, new_at}
use Rattle.tree_insert.specs.declared.Spot.{Spot}
use Rattle.tree_insert.specs.declared.ready.Ready.{Ready}
use Rattle.tree_stamp.specs.Target.{target_of}
use Rattle.tree_stamp.specs.Steps.Target.{CellMet}
use Rattle.tree_stamp.specs.Stamp.{bytes_stamped, stamp_plan}
use Rattle.tree_stamp.specs.Ready.{on_test, marking_by_room, marking_at}
use Rattle.tree_stamp.specs.declared.Target.{Target}
use Rattle.tree_stamp.specs.declared.ready.Marking.{Marking}
use Rattle.call_answers.specs.Answer.{ended, Ended, number_of, faulty, refusal_of, hide_end, stays, changed_to}
use Rattle.call_read.specs.Find.{find_visible_run}
use Rattle.call_answers.specs.declared.Refusal.{Refusal}
use Rattle.call_answers.specs.declared.Refused.{Refused}
use Rattle.call_insert.specs.Insert.{version_ready, insert_version_run, insert_version_call, insert_ready, insert_run, insert_call}
use Rattle.call_stamp.specs.Mark.{on_looked, conflict_told, mark_ready, marked, mark_run, mark_call, mark_plain_call, delete_call}
use Rattle.call_stamp.specs.Claim.{claim_ready, claim_run, claim_call}
use Rattle.call_clean.specs.Remove.{count_along, removed_along, on_count, remove_run, remove_call}
use Rattle.call_clean.specs.Vacuum.{judged_along, vacuumed_along, dropped_end, on_chain_judged, vacuum_run, vacuum_call}
use Rattle.meaning.specs.Refusals.{Keeps, WritesRefuse}
use Rattle.call_stamp.proofs.Stamping.{looked_finds}
use Rattle.meaning.proofs.Refusing.{Known, AnswerKnown, either, done-refuses, refused-refuses}
use Rattle.meaning.proofs.RefusingReads.{looked_known, plain-active}
use Rattle.meaning.proofs.RefusingStamps.{plan_cuts}

-- ---- the room

module _ (ns : List ℕ) where
  -- room, or one of these
  abbrev RoomKnown : Result Unit Refusal → Type 0
  RoomKnown (Ok _) = Unit
  RoomKnown (Err r) = Known ns (number_of r)

  room-known : (pages : ℕ) (st : State) (t : ℕ) (x : Planned) → (x.over ≡ true → cut_fits t x.cut ≡ false → Known ns 9) → Known ns 11 → Known ns 10
      → RoomKnown (room_of pages st t x)
  unfolding room_of
  room-known pages st t x nine eleven ten =
      either RoomKnown x.over
      (λ o.
      either RoomKnown (cut_fits t x.cut)
      (λ e.
      either RoomKnown (grows_too_deep x) (λ e. eleven)
      (λ e. either RoomKnown (leb (st.used + 1 + pages_asked st.root x.above) pages) (λ e. tt) (λ e. ten)))
      (nine o))
      (λ e. tt)

  by_room-known : {A : Type 0} (a : A) (r : Result Unit Refusal) → RoomKnown r → AnswerKnown ns (on_room (Ok a) (λ n. Err (refusal_of n)) r)
  by_room-known a (Ok _) k = tt
  by_room-known a (Err n) k = k

-- ---- an end that gives the new state

module _ (s ns : List ℕ) where
  -- what Done gives is no matter
  abbrev Ends : {A : Type 0} → Ended (Result A Refused) → Type 0
  Ends e = Keeps s ns (hide_end e)

  done-keeps : {A : Type 0} (a : A) (t : List ℕ) → Ends (ended (Ok a) t)
  done-keeps a t = record { refuses = done-refuses ns a; stays = λ h. absurd (h refl) }

  same-keeps : {A : Type 0} (r : Refused) → Known ns (number_of r.refusal) → Ends {A = A} (stays s r)
  same-keeps r k = record { refuses = refused-refuses ns _ k; stays = λ h. refl }

  ready-keeps : (good : Spot → Planned → Grown) (x : Result Ready Refused) → AnswerKnown ns x → Ends (on_ready (λ y plan. changed_to (good y plan)) (stays s) x)
  ready-keeps good (Ok r) k = done-keeps (good r.spot r.plan).state (good r.spot r.plan).pool
  ready-keeps good (Err r) k = same-keeps r k

  marked-keeps : (st : State) (d : ℕ) (x : Result Marking Refused) → AnswerKnown ns x → Ends (marked s st d x)
  marked-keeps st d (Ok m) k = done-keeps _ _
  marked-keeps st d (Err r) k = same-keeps r k

-- ---- insert and insert version

module _ (ns : List ℕ) (s : List ℕ) (st : State) (two : Known ns 2) (nine : Known ns 9) (eleven : Known ns 11) (ten : Known ns 10) where
  at_known : (seen : Bool) (x : Spot) (m : ℕ) → (seen ≡ true → Known ns 6) → AnswerKnown ns (ready_at s st seen x m)
  unfolding ready_at
  at_known seen x m six = by_plan (insert_plan s st x m)
    where
      room : Planned → Result Unit Refusal
      room plan = room_of (length s / 4096) st (bytes_with x m) plan

      by_plan : (p : Result Planned Fault)
          → AnswerKnown ns (on_leaf_plan (λ plan. pick seen (Err (refusal_of Refusal.Duplicate)) (ready_by_room x plan (room plan))) (λ f. Err (faulty f)) p)
      by_plan (Ok plan) =
          either (AnswerKnown ns) seen six
          (λ e. by_room-known ns _ (room plan) (room-known ns (length s / 4096) st (bytes_with x m) plan (λ o f. nine) eleven ten))
      by_plan (Err f) = two

  version_known : (key creator m : ℕ) → AnswerKnown ns (version_at s st key creator m)
  unfolding version_at
  version_known key creator m = by_spot (spot_of s st.used st.root key creator)
    where
      by_spot : (x : Result Spot Fault) → AnswerKnown ns (on_spot (λ x. ready_at s st false x m) (λ f. Err (faulty f)) x)
      by_spot (Ok x) = at_known false x m (λ e. absurd (cc))
      by_spot (Err f) = two

  new-known : (key : ℕ) (cur : Option ℕ) (ss : Statuses) (m : ℕ) → Known ns 6 → AnswerKnown ns (new_at s st key cur ss m)
  unfolding new_at
  new-known key cur ss m six = by_spot (spot_of s st.used st.root key (creator_of cur))
    where
      best : Result Best Fault
      best = best_in_tree s st.used st.root key (plain_snapshot cur) (lookup ss)

      by_chain : (x : Spot) (b : Result Best Fault) → AnswerKnown ns (on_chain (λ b. ready_at s st (is_seen b) x m) (λ f. Err (faulty f)) b)
      by_chain x (Ok b) = at_known (is_seen b) x m (λ e. six)
      by_chain x (Err f) = two

      by_spot : (x : Result Spot Fault)
          → AnswerKnown ns (on_spot (λ x. on_chain (λ b. ready_at s st (is_seen b) x m) (λ f. Err (faulty f)) best) (λ f. Err (faulty f)) x)
      by_spot (Ok x) = by_chain x best
      by_spot (Err f) = two

abbrev insert_numbers : List ℕ
insert_numbers = 1 ∷ 4 ∷ 5 ∷ 2 ∷ 6 ∷ 9 ∷ 11 ∷ 10 ∷ []

abbrev version_numbers : List ℕ
version_numbers = 1 ∷ 5 ∷ 2 ∷ 9 ∷ 11 ∷ 10 ∷ []

module _ (s : List ℕ) (st : State) (key : ℕ) where
  insert-known : (cur : Option ℕ) (ss : Statuses) (len : ℕ) → AnswerKnown insert_numbers (insert_ready s st key cur ss len)
  unfolding insert_ready mem
  insert-known cur ss len =
      either (AnswerKnown insert_numbers) (good_pool s st)
      (λ e.
      either (AnswerKnown insert_numbers) (good_statuses ss)
      (λ e.
      either (AnswerKnown insert_numbers) (leb len 4051)
      (λ e. new-known insert_numbers s st refl refl refl refl key cur ss (cell_size None None len) refl)
      (λ e. refl))
      (λ e. refl))
      (λ e. refl)

  insert-keeps : (body : List ℕ) (cur : Option ℕ) (ss : Statuses) → Keeps s insert_numbers (insert_call s st key cur ss body)
  unfolding insert_call insert_run
  insert-keeps body cur ss =
      ready-keeps s insert_numbers (λ x plan. inserted_at x plan (cell_bytes key (creator_of cur) None None body) (grown s st))
      (insert_ready s st key cur ss (length body)) (insert-known cur ss (length body))

  version_ready-known : (creator : ℕ) (stamp : Option ℕ) (pointer : Option Pointer) (len : ℕ) → AnswerKnown version_numbers (version_ready s st key creator stamp pointer len)
  unfolding version_ready mem
  version_ready-known creator stamp pointer len =
      either (AnswerKnown version_numbers) (good_pool s st)
      (λ e.
      either (AnswerKnown version_numbers) (leb len 4051)
      (λ e. version_known version_numbers s st refl refl refl refl key creator (cell_size stamp pointer len))
      (λ e. refl))
      (λ e. refl)

  insert_version_keeps : (creator : ℕ) (stamp : Option ℕ) (pointer : Option Pointer) (body : List ℕ)
      → Keeps s version_numbers (insert_version_call s st key creator stamp pointer body)
  unfolding insert_version_call insert_version_run
  insert_version_keeps creator stamp pointer body =
      ready-keeps s version_numbers (λ x plan. inserted_at x plan (cell_bytes key creator stamp pointer body) (grown s st))
      (version_ready s st key creator stamp pointer (length body)) (version_ready-known creator stamp pointer (length body))

-- ---- stamp and claim

module _ (ns : List ℕ) (s : List ℕ) (st : State) (B : AreBytes s) (two : Known ns 2) (eleven : Known ns 11) (ten : Known ns 10) where
  module _ (t : Target) (met : CellMet st.used t.leaf t.cell s) (is : t ≡ target_of (page s t.leaf) t.leaf t.cell) where
    abbrev room : Planned → Result Unit Refusal
    room plan = room_of (length s / 4096) st (bytes_stamped t) plan

    -- 9 is none of them, whatever the numbers: the plan's cut fits
    stamp-room : {plan : Planned} → stamp_plan s st t ≡ Ok plan → RoomKnown ns (room plan)
    stamp-room {plan} e =
        room-known ns (length s / 4096) st (bytes_stamped t) plan (λ o f. let g = plan_cuts s st B t met is e o in absurd (cc)) eleven ten

    marking-known : (test : Result Bool Fault) → (test ≡ Ok true → Known ns 7) → AnswerKnown ns (marking_at s st test t)
    unfolding marking_at
    marking-known test seven = by_plan (stamp_plan s st t) refl
      where
        tested : Planned → Result Bool Fault → Result Marking Refused
        tested plan y = on_test (Err (refusal_of Refusal.Conflict)) (marking_by_room t plan (room plan)) (λ f. Err (faulty f)) y

        by_test : (plan : Planned) → RoomKnown ns (room plan) → (y : Result Bool Fault) → (y ≡ Ok true → Known ns 7) → AnswerKnown ns (tested plan y)
        by_test plan r (Ok true) k = k refl
        by_test plan r (Ok false) k = by_room-known ns _ (room plan) r
        by_test plan r (Err f) k = two

        by_plan : (p : Result Planned Fault) → stamp_plan s st t ≡ p → AnswerKnown ns (on_leaf_plan (λ plan. tested plan test) (λ f. Err (faulty f)) p)
        by_plan (Ok plan) e = by_test plan (stamp-room e) test seven
        by_plan (Err f) e = two

  module _ (key : ℕ) (sn : Snapshot) (ss : Statuses) where
    -- only a claim asks for conflicts
    asked_known : (claiming : Bool) (seen : ℕ) → (claiming ≡ true → Known ns 7)
        → conflict_told s st key sn ss claiming seen ≡ Ok true → Known ns 7
    asked_known true seen seven e = seven refl
    asked_known false seen seven e = absurd (cc)

    mark-known : (claiming : Bool) → (claiming ≡ true → Known ns 7) → AnswerKnown ns (find_visible_run s st key sn ss)
        → AnswerKnown ns (mark_ready s st key sn ss claiming)
    unfolding mark_ready
    mark-known claiming seven looks = by_looked (find_visible_run s st key sn ss) refl looks
      where
        by_looked : (y : Result (ℕ × Cell) Refused) → find_visible_run s st key sn ss ≡ y → AnswerKnown ns y
            → AnswerKnown ns
            (on_looked (λ p c. marking_at s st (conflict_told s st key sn ss claiming c.version.creator) (target_of (page s p) p c)) (λ r. Err r) y)
        by_looked (Ok (p, c)) e k =
            let f = looked_finds s st key sn ss {looked = Ok (p, c)} (sym e) refl in
            marking-known (target_of (page s p) p c) f.met refl (conflict_told s st key sn ss claiming c.version.creator)
            (asked_known claiming c.version.creator seven)
        by_looked (Err r) e k = k

abbrev plain_numbers : List ℕ
plain_numbers = 1 ∷ 4 ∷ 2 ∷ 8 ∷ 11 ∷ 10 ∷ []

abbrev mark_numbers : List ℕ
mark_numbers = 1 ∷ 3 ∷ 4 ∷ 2 ∷ 8 ∷ 11 ∷ 10 ∷ []

abbrev claim_numbers : List ℕ
claim_numbers = 1 ∷ 3 ∷ 4 ∷ 2 ∷ 8 ∷ 7 ∷ 11 ∷ 10 ∷ []

-- what is no claim has no 7
no_claim : {A : Type 0} → false ≡ true → A
no_claim e = absurd (cc)

module _ (s : List ℕ) (st : State) (key : ℕ) (ss : Statuses) (B : AreBytes s) where
  module _ (sn : Snapshot) where
    mark-keeps : (d : ℕ) → Keeps s mark_numbers (mark_call s st key sn ss d)
    unfolding mark_call mark_run mem
    mark-keeps d =
        marked-keeps s mark_numbers st d (mark_ready s st key sn ss false)
        (mark-known mark_numbers s st B refl refl refl key sn ss false no_claim
        (looked_known mark_numbers s st key sn ss refl (λ e. refl) refl refl refl))

    claim-known : AnswerKnown claim_numbers (claim_ready s st key sn ss)
    unfolding claim_ready mem
    claim-known =
        either (AnswerKnown claim_numbers) (good_pool s st)
        (λ e.
        either (AnswerKnown claim_numbers) (eqb (creator_of sn.current) 0) (λ e. refl)
        (λ e.
        mark-known claim_numbers s st B refl refl refl key sn ss true (λ e. refl)
        (looked_known claim_numbers s st key sn ss refl (λ e. refl) refl refl refl)))
        (λ e. refl)

    claim-keeps : Keeps s claim_numbers (claim_call s st key sn ss)
    unfolding claim_call claim_run
    claim-keeps = marked-keeps s claim_numbers st (creator_of sn.current) (claim_ready s st key sn ss) claim-known

  mark-plain-keeps : (cur : Option ℕ) (d : ℕ) → Keeps s plain_numbers (mark_plain_call s st key cur ss d)
  unfolding mark_plain_call mark_call mark_run mem
  mark-plain-keeps cur d =
      marked-keeps s plain_numbers st d (mark_ready s st key (plain_snapshot cur) ss false)
      (mark-known plain_numbers s st B refl refl refl key (plain_snapshot cur) ss false no_claim
      (looked_known plain_numbers s st key (plain_snapshot cur) ss refl plain-active refl refl refl))

  delete-keeps : (cur : Option ℕ) → Keeps s plain_numbers (delete_call s st key cur ss)
  unfolding delete_call
  delete-keeps cur = mark-plain-keeps cur (creator_of cur)

-- ---- remove and vacuum

module _ (s ns : List ℕ) (two : Known ns 2) where
  way_keeps : {A : Type 0} (good : ℕ → Ended (Result A Refused)) → ((p : ℕ) → Ends s ns (good p)) → (d : Result ℕ Fault)
      → Ends s ns (on_leaf good (λ f. stays s (faulty f)) d)
  way_keeps good k (Ok p) = k p
  way_keeps good k (Err f) = same-keeps s ns (faulty f) two

  count-keeps : (after : List ℕ) (c : Result ℕ Fault) → Ends s ns (on_count (λ n. ended (Ok n) after) (λ f. stays s (faulty f)) c)
  count-keeps after (Ok n) = done-keeps s ns n after
  count-keeps after (Err f) = same-keeps s ns (faulty f) two

  judged-keeps : (e : Ended ℕ) (c : Result Unit Fault) → Ends s ns (on_chain_judged (dropped_end e) (λ f. stays s (faulty f)) c)
  judged-keeps e (Ok tt) = done-keeps s ns e.answer e.pool
  judged-keeps e (Err f) = same-keeps s ns (faulty f) two

module _ (s : List ℕ) (st : State) where
  remove-keeps : (key : ℕ) → Keeps s (1 ∷ 2 ∷ []) (remove_call s st key)
  unfolding remove_call remove_run mem
  remove-keeps key =
      either (Ends s _) (good_pool s st)
      (λ e.
      way_keeps s _ refl _ (λ p. count-keeps s _ refl (removed_along s st.used p key st.used) (count_along s st.used p key))
      (descend_of s st.used st.root (Route.Search key) 3))
      (λ e. same-keeps s _ (refusal_of Refusal.BadPool) refl)

  vacuum-keeps : (bound : ℕ) (ss : Statuses) → Keeps s (1 ∷ 4 ∷ 2 ∷ []) (vacuum_call s st ss bound)
  unfolding vacuum_call vacuum_run mem
  vacuum-keeps bound ss =
      either (Ends s _) (good_pool s st)
      (λ e.
      either (Ends s _) (good_statuses ss)
      (λ e.
      way_keeps s _ refl _ (λ p. judged-keeps s _ refl (vacuumed_along s st.used p (lookup ss) bound st.used 0) (judged_along s st.used p))
      (descend_of s st.used st.root Route.First 3))
      (λ e. same-keeps s _ (refusal_of Refusal.BadStatuses) refl))
      (λ e. same-keeps s _ (refusal_of Refusal.BadPool) refl)

pub writes-refuse : WritesRefuse
writes-refuse =
    record {
      insert = λ s st key body cur ss. insert-keeps s st key body cur ss;
      insert_version = λ s st key creator stamp pointer body. insert_version_keeps s st key creator stamp pointer body;
      mark = λ s st key d sn ss B. mark-keeps s st key ss B sn d;
      mark_plain = λ s st key d cur ss B. mark-plain-keeps s st key ss B cur d;
      delete = λ s st key cur ss B. delete-keeps s st key ss B cur;
      claim = λ s st key sn ss B. claim-keeps s st key ss B sn;
      remove = λ s st key. remove-keeps s st key;
      vacuum = λ s st bound ss. vacuum-keeps s st bound ss;
    }
