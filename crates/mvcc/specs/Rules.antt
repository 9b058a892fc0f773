-- Document 01, section 4, sentence by sentence. A status list is the function that it gives: st t is 0 where t is
-- absent, 1 active, 2 committed, 3 aborted; so another form of the list changes no rule.
use Rattle.std.specs.Prelude.{Option, Some, None, Bool, false, not, ◌&&◌, ◌||◌, List, ℕ, leb, ltb, eqb}
use Rattle.store.specs.Pick.{pick}
use Rattle.mvcc.specs.Lists.{mem}
use Rattle.mvcc.specs.Snapshot.{Snapshot}

-- "possibly a current transaction": t is it
unfoldable pub is_current : Option ℕ → ℕ → Bool
is_current None t = false
is_current (Some c) t = eqb t c

-- a rule holds of the deleter, which is there
unfoldable pub of_deleter : (ℕ → Bool) → Option ℕ → Bool
of_deleter rule None = false
of_deleter rule (Some d) = rule d

-- "Finished before: the transaction is 0; or it is below xmax, not in the active list, and not active or aborted in
-- the status list. Absence counts as committed." Here s is its state in that list.
unfoldable pub finished_with : (xmax : ℕ) → List ℕ → (s t : ℕ) → Bool
finished_with xmax active s t = eqb t 0 || (ltb t xmax && (not (mem t active) && not (eqb s 1 || eqb s 3)))

unfoldable pub finished_before : Snapshot → (ℕ → ℕ) → (t : ℕ) → Bool
finished_before sn st t = finished_with sn.xmax sn.active (st t) t

-- "its deleter absent, or neither current nor finished before": a deleter that hides is one or the other
unfoldable pub hiding : Snapshot → (ℕ → ℕ) → ℕ → Bool
hiding sn st d = is_current sn.current d || finished_before sn st d

-- "A version is invisible if its creator is aborted, even to its creator. If the creator is current, it is visible
-- unless the deleter is also current. Otherwise its creator must be finished before, and its deleter absent, or
-- neither current nor finished before."
unfoldable pub visible : Snapshot → (ℕ → ℕ) → (creator : ℕ) → Option ℕ → Bool
visible sn st creator stamp =
    not (eqb (st creator) 3)
    && pick (is_current sn.current creator)
    (not (of_deleter (is_current sn.current) stamp))
    (finished_before sn st creator && not (of_deleter (hiding sn st) stamp))

-- "Changed after: at or above xmax, or in the active list."
unfoldable pub changed_after : Snapshot → (t : ℕ) → Bool
changed_after sn t = leb sn.xmax t || mem t sn.active

-- a transaction "that changed after and is not current"
unfoldable pub intruding : Snapshot → ℕ → Bool
intruding sn t = changed_after sn t && not (is_current sn.current t)

-- "Conflict against a seen creator number holds if some version of the key has another creator that changed after and
-- is not current, or has that creator number and a deleter that changed after and is not current." For one version.
unfoldable pub conflicting : Snapshot → (seen creator : ℕ) → Option ℕ → Bool
conflicting sn seen creator stamp =
    pick (eqb creator seen) (of_deleter (intruding sn) stamp) (intruding sn creator)

-- claim's own test of one version against the creator that it found: today the same rule
unfoldable pub claim_conflicting : Snapshot → (ℕ → ℕ) → (seen creator : ℕ) → Option ℕ → Bool
claim_conflicting sn st seen creator stamp = conflicting sn seen creator stamp
