-- What a change is told and does lies in the versions of its key: alike there, two lists of rows get the same answer and are
-- alike after it, and the versions of any other key stay. Assumes nothing.
use Rattle.std.proofs.Common.{Option, None, Some}
use mathlib.Core.Path.{◌≡◌, refl, sym, ap, ◌∙◌}
use mathlib.Core.Bool.{Bool, true, false, ◌&&◌}
use mathlib.Core.List.{List, [], ◌∷◌, ◌++◌, append-nil}
use Prim.Native.Nat.{ℕ}
use lib.Dec.{leb, eqb}
use lib.ListN.{length}
use borrow.Author.Tests.{ne_eqb, eqb-true, eqb-false}
use Rattle.store.specs.Pick.{pick}
use Rattle.mvcc.specs.Snapshot.{lookup, good_statuses, creator_of, Snapshot, Statuses, good_snapshot, plain_snapshot}
use Rattle.mvcc.specs.Rules.{claim_conflicting}
use Rattle.leaf.specs.Rows.{Row}
use Rattle.theory_tree.specs.Versions.{of_version, arrivals, best}
use Rattle.meaning.specs.Change.{Change, inserts, inserts_version, stamps, claims, removes, key_of}
use Rattle.meaning.specs.Meant.{Meant, refused_as, done_with, seen_by, arriving, on_best, stamped, live_row, meant_insert, meant_version, meant_mark, meant_claim, meant_remove, meant}
use Rattle.leaf.proofs.Filtering.{filt_app}
use Rattle.theory_tree.proofs.Abs.{best-same, ver_remove, ver_removed}
use Rattle.theory_tree.proofs.Count.{count_same}
use Rattle.meaning.proofs.Last.{some_alike, change_own, change_other}

-- the same versions of the key k
abbrev pub SameOf : ℕ → List Row → List Row → Type 0
SameOf k l m = (c : ℕ) → arrivals k c l ≡ arrivals k c m

-- told the same, with the same versions of k after it
pub record Alike (k : ℕ) (a b : Meant) : Type 0 where
  pub number : a.number ≡ b.number
  pub dropped : a.dropped ≡ b.dropped
  pub rows : SameOf k a.rows b.rows

pub refused_alike : (k n : ℕ) (l m : List Row) → SameOf k l m → Alike k (refused_as n l) (refused_as n m)
refused_alike k n l m e = record { number = refl; dropped = refl; rows = e }

-- whatever a test says, if both are alike
pub pick_alike : (k : ℕ) (t : Bool) {a b a' b' : Meant} → Alike k a a' → Alike k b b' → Alike k (pick t a b) (pick t a' b')
pick_alike k true h g = h
pick_alike k false h g = g

pub pick-keeps : (k : ℕ) (l : List Row) (t : Bool) (a b : Meant) → SameOf k a.rows l → SameOf k b.rows l → SameOf k (pick t a b).rows l
pick-keeps k l true a b h g = h
pick-keeps k l false a b h g = g

-- ---- a new version

pub arriving_alike : (r : Row) (l m : List Row) (k : ℕ) → SameOf k l m → SameOf k (arriving r l) (arriving r m)
arriving_alike r l m k e c =
    filt_app (of_version k c) l (r ∷ []) ∙ ap (λ z. z ++ arrivals k c (r ∷ [])) (e c) ∙ sym (filt_app (of_version k c) m (r ∷ []))

pub arriving-keeps : (r : Row) (l : List Row) (j : ℕ) → (j ≡ r.key → ⊥) → SameOf j (arriving r l) l
arriving-keeps r l j n c = filt_app (of_version j c) l (r ∷ []) ∙ rw (ne_eqb r.key j (λ e. n (sym e))) (append-nil (arrivals j c l))

-- ---- a stamp

module _ (v : Row → Bool) (key d : ℕ) (y : Row) where
  off_creator : (c : ℕ) → (y.creator ≡ c → ⊥) → (x : Row) → of_version key y.creator x ≡ true → of_version key c x ≡ false
  off_creator c n x = go (eqb x.key key) (eqb x.creator y.creator) refl
    where
      go : (a b : Bool) → eqb x.creator y.creator ≡ b → a && b ≡ true → a && eqb x.creator c ≡ false
      go true true e h = ne_eqb x.creator c (λ q. n (sym (eqb-true x.creator y.creator e) ∙ q))
      go true false e h = absurd (cc)
      go false b e h = refl

  off_key : (j c : ℕ) → (j ≡ key → ⊥) → (x : Row) → of_version key y.creator x ≡ true → of_version j c x ≡ false
  off_key j c n x = go (eqb x.key key) refl
    where
      go : (a : Bool) → eqb x.key key ≡ a → a && eqb x.creator y.creator ≡ true → of_version j c x ≡ false
      go true e h = rw (ne_eqb x.key j (λ q. n (sym q ∙ eqb-true x.key key e)))
      go false e h = absurd (cc)

  -- the versions of another creator stay
  pub stamped-creator : (l : List Row) (c : ℕ) → (y.creator ≡ c → ⊥) → arrivals key c (stamped v key d y l) ≡ arrivals key c l
  stamped-creator l c n = change_other d key y.creator v key c (off_creator c n) l

  pub stamped-keeps : (l : List Row) (j : ℕ) → (j ≡ key → ⊥) → SameOf j (stamped v key d y l) l
  stamped-keeps l j n c = change_other d key y.creator v j c (off_key j c n) l

  pub stamped_alike : (l m : List Row) → SameOf key l m → SameOf key (stamped v key d y l) (stamped v key d y m)
  stamped_alike l m e c = go (eqb y.creator c) refl
    where
      go : (b : Bool) → eqb y.creator c ≡ b → arrivals key c (stamped v key d y l) ≡ arrivals key c (stamped v key d y m)
      go true q =
          rw (← (eqb-true y.creator c q))
          (change_own d key y.creator v l ∙ rw (e y.creator) (sym (change_own d key y.creator v m)))
      go false q = stamped-creator l c (eqb-false y.creator c q) ∙ e c ∙ sym (stamped-creator m c (eqb-false y.creator c q))

-- ---- the five calls

pub insert_alike : (key : ℕ) (body : List ℕ) (cur : Option ℕ) (ss : Statuses) (l m : List Row) → SameOf key l m
    → Alike key (meant_insert key cur ss body l) (meant_insert key cur ss body m)
unfolding meant_insert
insert_alike key body cur ss l m e =
    pick_alike key (good_statuses ss) (pick_alike key (leb (length body) 4051) (rw (best-same v key l m e) (go (best v key m))) (refused_alike key 5 l m e))
    (refused_alike key 4 l m e)
  where
    v : Row → Bool
    v = seen_by (plain_snapshot cur) (lookup ss)

    new : Row
    new = live_row key (creator_of cur) body

    go : (o : Option Row) → Alike key (on_best (done_with (arriving new l)) (λ y. refused_as 6 l) o) (on_best (done_with (arriving new m)) (λ y. refused_as 6 m) o)
    go None = refused_alike key 0 (arriving new l) (arriving new m) (arriving_alike new l m key e)
    go (Some y) = refused_alike key 6 l m e

pub insert-keeps : (key : ℕ) (body : List ℕ) (cur : Option ℕ) (ss : Statuses) (l : List Row) (j : ℕ) → (j ≡ key → ⊥)
    → SameOf j (meant_insert key cur ss body l).rows l
unfolding meant_insert
insert-keeps key body cur ss l j n =
    pick-keeps j l (good_statuses ss) _ _
    (pick-keeps j l (leb (length body) 4051) _ _ (go (best (seen_by (plain_snapshot cur) (lookup ss)) key l)) (λ c. refl)) (λ c. refl)
  where
    go : (o : Option Row) → SameOf j (on_best (done_with (arriving (live_row key (creator_of cur) body) l)) (λ y. refused_as 6 l) o).rows l
    go None = arriving-keeps (live_row key (creator_of cur) body) l j n
    go (Some y) = λ c. refl

pub version_alike : (r : Row) (l m : List Row) → SameOf r.key l m → Alike r.key (meant_version r l) (meant_version r m)
unfolding meant_version
version_alike r l m e =
    pick_alike r.key (leb (length r.body) 4051)
    (refused_alike r.key 0 (arriving r l) (arriving r m) (arriving_alike r l m r.key e))
    (refused_alike r.key 5 l m e)

pub version_keeps : (r : Row) (l : List Row) (j : ℕ) → (j ≡ r.key → ⊥) → SameOf j (meant_version r l).rows l
unfolding meant_version
version_keeps r l j n = pick-keeps j l (leb (length r.body) 4051) _ _ (arriving-keeps r l j n) (λ c. refl)

module _ (key d : ℕ) (sn : Snapshot) (ss : Statuses) where
  abbrev v : Row → Bool
  v = seen_by sn (lookup ss)

  pub mark_alike : (more more' : Row → Bool) → ((y : Row) → more y ≡ more' y) → (l m : List Row) → SameOf key l m
      → Alike key (meant_mark key sn ss d more l) (meant_mark key sn ss d more' m)
  unfolding meant_mark
  mark_alike more more' q l m e =
      pick_alike key (good_snapshot sn) (pick_alike key (good_statuses ss) (rw (best-same v key l m e) (go (best v key m))) (refused_alike key 4 l m e))
      (refused_alike key 3 l m e)
    where
      go : (o : Option Row)
          → Alike key (on_best (refused_as 8 l) (λ y. pick (more y) (refused_as 7 l) (done_with (stamped v key d y l))) o)
          (on_best (refused_as 8 m) (λ y. pick (more' y) (refused_as 7 m) (done_with (stamped v key d y m))) o)
      go None = refused_alike key 8 l m e
      go (Some y) =
          rw (q y) (pick_alike key (more' y) (refused_alike key 7 l m e)
          (refused_alike key 0 (stamped v key d y l) (stamped v key d y m) (stamped_alike v key d y l m e)))

  pub mark-keeps : (more : Row → Bool) (l : List Row) (j : ℕ) → (j ≡ key → ⊥) → SameOf j (meant_mark key sn ss d more l).rows l
  unfolding meant_mark
  mark-keeps more l j n =
      pick-keeps j l (good_snapshot sn) _ _ (pick-keeps j l (good_statuses ss) _ _ (go (best v key l)) (λ c. refl)) (λ c. refl)
    where
      go : (o : Option Row) → SameOf j (on_best (refused_as 8 l) (λ y. pick (more y) (refused_as 7 l) (done_with (stamped v key d y l))) o).rows l
      go None = λ c. refl
      go (Some y) = pick-keeps j l (more y) _ _ (λ c. refl) (stamped-keeps v key d y l j n)

module _ (key : ℕ) (sn : Snapshot) (ss : Statuses) where
  pub claim_alike : (l m : List Row) → SameOf key l m → Alike key (meant_claim key sn ss l) (meant_claim key sn ss m)
  unfolding meant_claim
  claim_alike l m e =
      pick_alike key (eqb (creator_of sn.current) 0) (refused_alike key 3 l m e)
      (mark_alike key (creator_of sn.current) sn ss _ _
      (λ y. some_alike (λ x. claim_conflicting sn (lookup ss) y.creator x.creator x.stamp) key l m e) l m e)

  pub claim-keeps : (l : List Row) (j : ℕ) → (j ≡ key → ⊥) → SameOf j (meant_claim key sn ss l).rows l
  unfolding meant_claim
  claim-keeps l j n = pick-keeps j l (eqb (creator_of sn.current) 0) _ _ (λ c. refl) (mark-keeps key (creator_of sn.current) sn ss _ l j n)

pub remove_alike : (key : ℕ) (l m : List Row) → SameOf key l m → Alike key (meant_remove key l) (meant_remove key m)
unfolding meant_remove
remove_alike key l m e = record { number = refl; dropped = count_same key l m e; rows = λ c. ver_removed key c l ∙ sym (ver_removed key c m) }

pub remove-keeps : (key : ℕ) (l : List Row) (j : ℕ) → (j ≡ key → ⊥) → SameOf j (meant_remove key l).rows l
unfolding meant_remove
remove-keeps key l j n c = ver_remove j key c l n

pub meant_alike : (a : Change) (l m : List Row) → SameOf (key_of a) l m → Alike (key_of a) (meant a l) (meant a m)
unfolding meant
meant_alike (inserts key cur ss body) l m e = insert_alike key body cur ss l m e
meant_alike (inserts_version key creator stamp pointer body) l m e =
    version_alike (record { key = key; creator = creator; stamp = stamp; pointer = pointer; body = body }) l m e
meant_alike (stamps key sn ss d) l m e = mark_alike key d sn ss (λ y. false) (λ y. false) (λ y. refl) l m e
meant_alike (claims key sn ss) l m e = claim_alike key sn ss l m e
meant_alike (removes key) l m e = remove_alike key l m e

pub meant-keeps : (a : Change) (l : List Row) (j : ℕ) → (j ≡ key_of a → ⊥) → SameOf j (meant a l).rows l
unfolding meant
meant-keeps (inserts key cur ss body) l j n = insert-keeps key body cur ss l j n
meant-keeps (inserts_version key creator stamp pointer body) l j n =
    version_keeps (record { key = key; creator = creator; stamp = stamp; pointer = pointer; body = body }) l j n
meant-keeps (stamps key sn ss d) l j n = mark-keeps key d sn ss (λ y. false) l j n
meant-keeps (claims key sn ss) l j n = claim-keeps key sn ss l j n
meant-keeps (removes key) l j n = remove-keeps key l j n
