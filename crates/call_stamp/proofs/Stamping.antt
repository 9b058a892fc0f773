-- A lookup that finds a version has judged the pool and the lists, and met the version in its leaf; and a stamp that is
-- ready can be stored. Assumes nothing.
use Rattle.std.proofs.Common.{Some, None, Result, Ok, Err}
use mathlib.Core.Path.{◌≡◌, refl, sym, subst}
use mathlib.Core.Bool.{Bool, true, false}
use mathlib.Core.List.{List}
use Prim.Native.Nat.{ℕ, ◌/◌}
use lib.Dec.{eqb}
use lib.ListN.{length}
use Rattle.store.specs.Pick.{pick}
use Rattle.page.specs.Page.{page}
use Rattle.page.specs.Pool.{good_pool}
use Rattle.page.specs.declared.pool.State.{State}
use Rattle.row.specs.declared.Fault.{Fault}
use Rattle.row.specs.declared.Cell.{Cell}
use Rattle.mvcc.specs.Snapshot.{lookup, good_statuses, creator_of, Snapshot, Statuses, good_snapshot}
use Rattle.leaf.specs.Find.{Best}
use Rattle.tree.specs.Lookup.{best_in_tree}
use Rattle.tree_room.specs.Room.{on_leaf_plan, room_of}
use Rattle.tree_room.specs.declared.Planned.{Planned}
use Rattle.tree_stamp.specs.Target.{target_of}
use Rattle.tree_stamp.specs.Steps.Target.{CellMet}
use Rattle.tree_stamp.specs.Stamp.{bytes_stamped, stamp_plan}
use Rattle.tree_stamp.specs.Ready.{marking_by_room, on_test, marking_at}
use Rattle.tree_stamp.specs.declared.Target.{Target}
use Rattle.tree_stamp.specs.declared.ready.Marking.{Marking}
use Rattle.call_answers.specs.declared.Refusal.{Refusal}
use Rattle.call_answers.specs.declared.Refused.{Refused}
use Rattle.call_answers.specs.Answer.{refusal_of, faulty}
use Rattle.call_read.specs.Find.{looked_best, find_visible_run}
use Rattle.call_stamp.specs.Mark.{on_looked, conflict_told, mark_ready}
use Rattle.call_stamp.specs.Steps.Mark.{Stampable}
use Rattle.call_stamp.specs.Claim.{claim_ready}
use Rattle.tree_stamp.proofs.Meeting.{best-met}

-- ---- what a lookup that finds says

pub record Finds (s : List ℕ) (st : State) (sn : Snapshot) (ss : Statuses) (p : ℕ) (c : Cell) : Type 0 where
  pub good : good_pool s st ≡ true
  pub list : good_snapshot sn ≡ true
  pub statuses : good_statuses ss ≡ true
  pub met : CellMet st.used p c s

module _ (s : List ℕ) (st : State) (key : ℕ) (sn : Snapshot) (ss : Statuses) where
  pub looked_finds : {looked : Result (ℕ × Cell) Refused} {p : ℕ} {c : Cell} → looked ≡ find_visible_run s st key sn ss → looked ≡ Ok (p, c)
      → Finds s st sn ss p c
  unfolding find_visible_run
  looked_finds {looked} {p} {c} is h = by_pool (good_pool s st) (good_snapshot sn) (good_statuses ss) refl refl refl (rw is at h)
    where
      by_best : (y : Result Best Fault) → best_in_tree s st.used st.root key sn (lookup ss) ≡ y → looked_best y ≡ Ok (p, c) → CellMet st.used p c s
      by_best (Ok (Some (q, d))) e u =
          let t : ◌≡◌ {A = ℕ × Cell} (q, d) (p, c) = cc in
          subst (λ (x : ℕ × Cell). CellMet st.used x.0 x.1 s) t (best-met sn (lookup ss) st.used key s st.root e)
      by_best (Ok None) e u = absurd (cc)
      by_best (Err f) e u = absurd (cc)

      by_pool : (a b d : Bool) → good_pool s st ≡ a → good_snapshot sn ≡ b → good_statuses ss ≡ d
          → pick a
          (pick b (pick d (looked_best (best_in_tree s st.used st.root key sn (lookup ss))) (Err (refusal_of Refusal.BadStatuses))) (Err (refusal_of Refusal.BadSnapshot)))
          (Err (refusal_of Refusal.BadPool))
          ≡ Ok (p, c)
          → Finds s st sn ss p c
      by_pool true true true e f g u =
          record { good = e; list = f; statuses = g; met = by_best (best_in_tree s st.used st.root key sn (lookup ss)) refl u }
      by_pool true true false e f g u = absurd (cc)
      by_pool true false d e f g u = absurd (cc)
      by_pool false b d e f g u = absurd (cc)

-- the target that is made of it
pub target_met : (used : ℕ) (s : List ℕ) (p : ℕ) (c : Cell) {t : Target} → t ≡ target_of (page s p) p c → CellMet used p c s
    → CellMet used t.leaf t.cell s × (t ≡ target_of (page s t.leaf) t.leaf t.cell)
target_met used s p c e m = rw e (m, refl)

-- ---- what can be stored

module _ (s : List ℕ) (st : State) (t : Target) (good : good_pool s st ≡ true) (met : CellMet st.used t.leaf t.cell s)
    (is : t ≡ target_of (page s t.leaf) t.leaf t.cell) {x : Marking} where
  at_ok : (test : Result Bool Fault) → marking_at s st test t ≡ Ok x → Stampable s st x
  unfolding marking_at
  at_ok test h = by_plan (stamp_plan s st t) refl test h
    where
      room : Planned → Result Unit Refusal
      room plan = room_of (length s / 4096) st (bytes_stamped t) plan

      by_room : (plan : Planned) → stamp_plan s st t ≡ Ok plan → (r : Result Unit Refusal) → room plan ≡ r → marking_by_room t plan r ≡ Ok x → Stampable s st x
      by_room plan e (Ok tt) q u =
          let w : ◌≡◌ {A = Marking} (record { target = t; plan = plan }) x = cc in
          subst (λ (y : Marking). Stampable s st y) w (record { pool = good; met = met; is = is; plans = e; fits = q })
      by_room plan e (Err n) q u = absurd (cc)

      by_test : (plan : Planned) → stamp_plan s st t ≡ Ok plan → (y : Result Bool Fault)
          → on_test (Err (refusal_of Refusal.Conflict)) (marking_by_room t plan (room plan)) (λ f. Err (faulty f)) y ≡ Ok x → Stampable s st x
      by_test plan e (Ok true) u = absurd (cc)
      by_test plan e (Ok false) u = by_room plan e (room plan) refl u
      by_test plan e (Err f) u = absurd (cc)

      by_plan : (p : Result Planned Fault) → stamp_plan s st t ≡ p → (y : Result Bool Fault)
          → on_leaf_plan (λ plan. on_test (Err (refusal_of Refusal.Conflict)) (marking_by_room t plan (room plan)) (λ f. Err (faulty f)) y) (λ f. Err (faulty f)) p ≡ Ok x
          → Stampable s st x
      by_plan (Ok plan) e y u = by_test plan e y u
      by_plan (Err f) e y u = absurd (cc)

module _ (s : List ℕ) (st : State) (key : ℕ) (sn : Snapshot) (ss : Statuses) {x : Marking} where
  pub mark-ok : (claiming : Bool) → mark_ready s st key sn ss claiming ≡ Ok x → Stampable s st x
  unfolding mark_ready
  mark-ok claiming h = by_looked (find_visible_run s st key sn ss) refl h
    where
      by_looked : (y : Result (ℕ × Cell) Refused) → find_visible_run s st key sn ss ≡ y
          → on_looked (λ p c. marking_at s st (conflict_told s st key sn ss claiming c.version.creator) (target_of (page s p) p c)) (λ r. Err r) y ≡ Ok x
          → Stampable s st x
      by_looked (Ok (p, c)) e u =
          let f = looked_finds s st key sn ss {looked = Ok (p, c)} (sym e) refl in
          at_ok s st (target_of (page s p) p c) f.good f.met refl (conflict_told s st key sn ss claiming c.version.creator) u
      by_looked (Err r) e u = absurd (cc)

  pub claim-ok : claim_ready s st key sn ss ≡ Ok x → Stampable s st x
  unfolding claim_ready
  claim-ok h = by_pool (good_pool s st) (eqb (creator_of sn.current) 0) h
    where
      by_pool : (a b : Bool) → pick a (pick b (Err (refusal_of Refusal.BadSnapshot)) (mark_ready s st key sn ss true)) (Err (refusal_of Refusal.BadPool)) ≡ Ok x
          → Stampable s st x
      by_pool true true u = absurd (cc)
      by_pool true false u = mark-ok true u
      by_pool false b u = absurd (cc)
