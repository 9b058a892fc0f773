-- What is proved of the rules, for readers of section 4 and for the cases P7 and P8 of section 8.
use Rattle.std.specs.Prelude.{Option, Some, None, ◌≡◌, true, false, List, [], ◌∷◌, ℕ, ◌<◌}
use Rattle.mvcc.specs.Lists.{mem}
use Rattle.mvcc.specs.Snapshot.{lookup, Snapshot, snapshot, statuses, no_statuses}
use Rattle.mvcc.specs.Rules.{finished_before, visible, conflicting, claim_conflicting}
use Rattle.mvcc.specs.Vacuum.{fate, removable_deleter}
use Rattle.mvcc.specs.declared.vacuum.Fate.{Fate}

pub record RulesHold : Type 0 where
  -- absence counts as committed
  pub absent_finished : (sn : Snapshot) (st : ℕ → ℕ) (t : ℕ) → st t ≡ 0 → t < sn.xmax → mem t sn.active ≡ false → finished_before sn st t ≡ true
  -- 0 is always finished
  pub zero_finished : (sn : Snapshot) (st : ℕ → ℕ) → finished_before sn st 0 ≡ true
  -- an aborted creator is invisible even to itself
  pub aborted_invisible : (sn : Snapshot) (st : ℕ → ℕ) (c : ℕ) (stamp : Option ℕ) → st c ≡ 3 → visible sn st c stamp ≡ false
  -- a creator that is not aborted sees its version until it deletes it itself
  pub own_live : (xmax : ℕ) (active : List ℕ) (st : ℕ → ℕ) (c : ℕ) → (st c ≡ 3 → ⊥) → visible (snapshot xmax active (Some c)) st c None ≡ true
  pub own_other : (xmax : ℕ) (active : List ℕ) (st : ℕ → ℕ) (c d : ℕ) → (st c ≡ 3 → ⊥) → (d ≡ c → ⊥) → visible (snapshot xmax active (Some c)) st c (Some d) ≡ true
  pub own_gone : (xmax : ℕ) (active : List ℕ) (st : ℕ → ℕ) (c : ℕ) → visible (snapshot xmax active (Some c)) st c (Some c) ≡ false
  -- vacuum's drop rule wants a listed commit
  pub unlisted_kept : (st : ℕ → ℕ) (bound d : ℕ) → st d ≡ 0 → removable_deleter st bound (Some d) ≡ false
  pub nine_kept : fate (lookup no_statuses) 10 5 (Some 9) ≡ Fate.Same
  -- P7: xmax 20, active {12}, current 15, creator 5: deleter 12 is Conflict, 15 Absent
  pub p7_seen : visible (snapshot 20 (12 ∷ []) (Some 15)) (lookup no_statuses) 5 (Some 12) ≡ true
  pub p7_conflict : conflicting (snapshot 20 (12 ∷ []) (Some 15)) 5 5 (Some 12) ≡ true
  pub p7_absent : visible (snapshot 20 (12 ∷ []) (Some 15)) (lookup no_statuses) 5 (Some 15) ≡ false
  -- P8: the same, deleter 9 active in the status list, unlisted among the active: visible, no conflict
  pub p8_seen : visible (snapshot 20 (12 ∷ []) (Some 15)) (lookup (statuses (9 ∷ []) (1 ∷ []))) 5 (Some 9) ≡ true
  pub p8_no_conflict : conflicting (snapshot 20 (12 ∷ []) (Some 15)) 5 5 (Some 9) ≡ false
  -- claim's test is today the ported one
  pub claim_same : (sn : Snapshot) (st : ℕ → ℕ) (seen c : ℕ) (stamp : Option ℕ)
      → claim_conflicting sn st seen c stamp ≡ conflicting sn seen c stamp
