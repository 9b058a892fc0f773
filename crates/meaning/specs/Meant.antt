-- What a change means (document 01, sections 4 to 6), on the versions alone: a list of rows in which versions of one key and
-- creator stand as they arrived; where else a row stands plays no part.
use Rattle.std.specs.Prelude.{None, Bool, false, not, ◌&&◌, ◌||◌, List, [], ◌∷◌, ◌++◌, ℕ, leb, eqb, length, Option, Some}
use Rattle.store.specs.Pick.{pick}
use Rattle.mvcc.specs.Snapshot.{lookup, good_statuses, creator_of, Snapshot, Statuses, good_snapshot, plain_snapshot}
use Rattle.mvcc.specs.Rules.{visible, claim_conflicting}
use Rattle.leaf.specs.Rows.{Row, only, of_key}
use Rattle.leaf_edit.specs.EditFacts.{stamp_row}
use Rattle.theory_tree.specs.Versions.{of_version, best}
use Rattle.meaning.specs.Change.{Change, inserts, inserts_version, stamps, claims, removes}
use Rattle.call_answers.specs.Names.{Absent, BadData, BadSnapshot, BadStatuses, Conflict, Duplicate, unless}
use Rattle.row.specs.Write.{max_data}

pub record Meant : Type 0 where
  pub number : ℕ
  pub dropped : ℕ
  pub rows : List Row

-- refused, and the versions stay; done, with these versions
abbrev pub refused_as : ℕ → List Row → Meant
refused_as n l = record { number = n; dropped = 0; rows = l }

abbrev pub done_with : List Row → Meant
done_with l = refused_as 0 l

-- the snapshot sees the row
abbrev pub seen_by : Snapshot → (ℕ → ℕ) → Row → Bool
seen_by sn st r = visible sn st r.creator r.stamp

-- "A new version goes after equals of its key and creator"
abbrev pub arriving : Row → List Row → List Row
arriving r l = l ++ (r ∷ [])

-- some row is accepted; the last one that is accepted, changed by f
abbrev pub some_of : (Row → Bool) → List Row → Bool
some_of v [] = false
some_of v (x ∷ xs) = v x || some_of v xs

abbrev pub change_last : (Row → Bool) → (Row → Row) → List Row → List Row
change_last v f [] = []
change_last v f (x ∷ xs) = pick (some_of v xs) (x ∷ change_last v f xs) (pick (v x) (f x ∷ xs) (x ∷ xs))

-- the chosen version, if any, gets the stamp of d: the last of its key and creator that is seen
abbrev pub on_best : {A : Type 0} → A → (Row → A) → Option Row → A
on_best absent found None = absent
on_best absent found (Some y) = found y

abbrev pub stamped : (Row → Bool) → (key d : ℕ) → Row → List Row → List Row
stamped v key d y l = change_last (λ x. of_version key y.creator x && v x) (stamp_row d) l

-- "Conflict against a seen creator number holds if some version of the key .."
abbrev pub conflict_in : (key : ℕ) → Snapshot → (ℕ → ℕ) → (seen : ℕ) → List Row → Bool
conflict_in key sn st seen l = some_of (λ x. of_key key x && claim_conflicting sn st seen x.creator x.stamp) l

abbrev pub live_row : (key creator : ℕ) → List ℕ → Row
live_row key creator body = record { key = key; creator = creator; stamp = None; pointer = None; body = body }

-- ---- the five calls; refusals in section 6's order

-- 4, 5, 6
unfoldable pub meant_insert : (key : ℕ) → Option ℕ → Statuses → List ℕ → List Row → Meant
meant_insert key cur ss body l =
    unless (good_statuses ss) (refused_as BadStatuses l)
    (unless (leb (length body) max_data) (refused_as BadData l)
    (on_best (done_with (arriving (live_row key (creator_of cur) body) l)) (λ y. refused_as Duplicate l) (best (seen_by (plain_snapshot cur) (lookup ss)) key l)))

-- 5
unfoldable pub meant_version : Row → List Row → Meant
meant_version r l = unless (leb (length r.body) max_data) (refused_as BadData l) (done_with (arriving r l))

-- 3, 4, 8; `more` is what a claim asks of the chosen version before it is stamped
unfoldable pub meant_mark : (key : ℕ) → Snapshot → Statuses → (d : ℕ) → (more : Row → Bool) → List Row → Meant
meant_mark key sn ss d more l =
    unless (good_snapshot sn) (refused_as BadSnapshot l)
    (unless (good_statuses ss) (refused_as BadStatuses l)
    (on_best (refused_as Absent l) (λ y. pick (more y) (refused_as Conflict l) (done_with (stamped (seen_by sn (lookup ss)) key d y l)))
    (best (seen_by sn (lookup ss)) key l)))

-- 3, 4, 8, 7: "claim with no current, or current 0" is 3
unfoldable pub meant_claim : (key : ℕ) → Snapshot → Statuses → List Row → Meant
meant_claim key sn ss l =
    pick (eqb (creator_of sn.current) 0) (refused_as BadSnapshot l)
    (meant_mark key sn ss (creator_of sn.current) (λ y. conflict_in key sn (lookup ss) y.creator l) l)

-- "Remove drops every version of its key"
unfoldable pub meant_remove : (key : ℕ) → List Row → Meant
meant_remove key l = record { number = 0; dropped = length (only (of_key key) l); rows = only (λ x. not (of_key key x)) l }

unfoldable pub meant : Change → List Row → Meant
meant (inserts key cur ss body) l = meant_insert key cur ss body l
meant (inserts_version key creator stamp pointer body) l =
    meant_version (record { key = key; creator = creator; stamp = stamp; pointer = pointer; body = body }) l
meant (stamps key sn ss d) l = meant_mark key sn ss d (λ y. false) l
meant (claims key sn ss) l = meant_claim key sn ss l
meant (removes key) l = meant_remove key l
