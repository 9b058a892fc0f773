-- An insertion whose judgement is ok can be stored: its spot, its plan and the room are as the stores ask. Assumes nothing.
use Rattle.std.proofs.Common.{Option, Result, Ok, Err}
use mathlib.Core.Path.{◌≡◌, refl, subst}
use mathlib.Core.Bool.{Bool, true, false}
use mathlib.Core.List.{List}
use Prim.Native.Nat.{ℕ, ◌/◌}
use lib.ListN.{length}
use Rattle.store.specs.Pick.{pick}
use Rattle.page.specs.declared.pool.State.{State}
use Rattle.row.specs.declared.Fault.{Fault}
use Rattle.mvcc.specs.Snapshot.{lookup, creator_of, Statuses, plain_snapshot}
use Rattle.leaf.specs.Find.{Best}
use Rattle.tree.specs.Lookup.{best_in_tree}
use Rattle.call_answers.specs.Answer.{refusal_of, faulty}
use Rattle.call_answers.specs.declared.Refusal.{Refusal}
use Rattle.tree_room.specs.Room.{on_leaf_plan, room_of}
use Rattle.tree_room.specs.declared.Planned.{Planned}
use Rattle.tree_insert.specs.Spot.{spot_of}
use Rattle.tree_insert.specs.Insert.{bytes_with, insert_plan}
use Rattle.tree_insert.specs.Ready.{ready_by_room, on_spot, ready_at, version_at, is_seen, on_chain, new_at}
use Rattle.tree_insert.specs.declared.Spot.{Spot}
use Rattle.tree_insert.specs.declared.ready.Ready.{Ready}

pub record Storable (s : List ℕ) (st : State) (key creator m : ℕ) (r : Ready) : Type 0 where
  pub spots : spot_of s st.used st.root key creator ≡ Ok r.spot
  pub plans : insert_plan s st r.spot m ≡ Ok r.plan
  pub fits : room_of (length s / 4096) st (bytes_with r.spot m) r.plan ≡ Ok tt

module _ (s : List ℕ) (st : State) (key creator m : ℕ) {r : Ready} where
  module _ (x : Spot) (spots : spot_of s st.used st.root key creator ≡ Ok x) where
    by_room : (plan : Planned) → insert_plan s st x m ≡ Ok plan → (n : Result Unit Refusal) → room_of (length s / 4096) st (bytes_with x m) plan ≡ n
        → ready_by_room x plan n ≡ Ok r → Storable s st key creator m r
    by_room plan e (Ok _) q u =
        let same : record { spot = x; plan = plan } ≡ r = cc in
        subst (λ (y : Ready). Storable s st key creator m y) same (record { spots = spots; plans = e; fits = q })
    by_room plan e (Err n) q u = absurd (cc)

    by_seen : (plan : Planned) → insert_plan s st x m ≡ Ok plan → (seen : Bool)
        → pick seen (Err (refusal_of Refusal.Duplicate)) (ready_by_room x plan (room_of (length s / 4096) st (bytes_with x m) plan)) ≡ Ok r → Storable s st key creator m r
    by_seen plan e true u = absurd (cc)
    by_seen plan e false u = by_room plan e (room_of (length s / 4096) st (bytes_with x m) plan) refl u

    by_plan : (seen : Bool) (told : Result Planned Fault) → insert_plan s st x m ≡ told
        → on_leaf_plan (λ plan. pick seen (Err (refusal_of Refusal.Duplicate)) (ready_by_room x plan (room_of (length s / 4096) st (bytes_with x m) plan))) (λ f. Err (faulty f)) told ≡ Ok r
        → Storable s st key creator m r
    by_plan seen (Ok plan) e u = by_seen plan e seen u
    by_plan seen (Err f) e u = absurd (cc)

    pub at_ok : (seen : Bool) → ready_at s st seen x m ≡ Ok r → Storable s st key creator m r
    unfolding ready_at
    at_ok seen u = by_plan seen (insert_plan s st x m) refl u

  pub version_ok : version_at s st key creator m ≡ Ok r → Storable s st key creator m r
  unfolding version_at
  version_ok u = by_spot (spot_of s st.used st.root key creator) refl u
    where
      by_spot : (z : Result Spot Fault) → spot_of s st.used st.root key creator ≡ z → on_spot (λ x. ready_at s st false x m) (λ f. Err (faulty f)) z ≡ Ok r
          → Storable s st key creator m r
      by_spot (Ok x) e u = at_ok x e false u
      by_spot (Err f) e u = absurd (cc)

module _ (s : List ℕ) (st : State) (key : ℕ) (cur : Option ℕ) (ss : Statuses) (m : ℕ) {r : Ready} where
  pub new_ok : new_at s st key cur ss m ≡ Ok r → Storable s st key (creator_of cur) m r
  unfolding new_at
  new_ok u = by_spot (best_in_tree s st.used st.root key (plain_snapshot cur) (lookup ss)) (spot_of s st.used st.root key (creator_of cur)) refl u
    where
      by_chain : (x : Spot) → spot_of s st.used st.root key (creator_of cur) ≡ Ok x → (y : Result Best Fault)
          → on_chain (λ b. ready_at s st (is_seen b) x m) (λ f. Err (faulty f)) y ≡ Ok r → Storable s st key (creator_of cur) m r
      by_chain x e (Ok b) u = at_ok s st key (creator_of cur) m x e (is_seen b) u
      by_chain x e (Err f) u = absurd (cc)

      by_spot : (y : Result Best Fault) (z : Result Spot Fault) → spot_of s st.used st.root key (creator_of cur) ≡ z
          → on_spot (λ x. on_chain (λ b. ready_at s st (is_seen b) x m) (λ f. Err (faulty f)) y) (λ f. Err (faulty f)) z ≡ Ok r
          → Storable s st key (creator_of cur) m r
      by_spot y (Ok x) e u = by_chain x e y u
      by_spot y (Err f) e u = absurd (cc)
