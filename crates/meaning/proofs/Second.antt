-- Two claims of one version, on the rows alone: after the first the second still sees the version, and its test holds.
-- Assumes nothing.
use Rattle.std.proofs.Common.{Some, None, Option}
use mathlib.Core.Path.{◌≡◌, refl, sym, ap, ◌∙◌, subst}
use mathlib.Core.Bool.{Bool, true, false, not, ◌&&◌, ◌||◌}
use mathlib.Core.List.{List}
use Prim.Native.Nat.{ℕ}
use native.Mathlib.Omega.{arith}
use lib.Dec.{leb, eqb}
use borrow.Author.Tests.{leb-true, eq-eqb, ne_eqb, eqb-false}
use Rattle.store.specs.Pick.{pick}
use Rattle.mvcc.specs.Lists.{mem}
use Rattle.mvcc.specs.Snapshot.{lookup, good_statuses, Snapshot, Statuses, creator_of, good_snapshot}
use Rattle.mvcc.specs.Rules.{is_current, of_deleter, finished_with, finished_before, hiding, visible, changed_after, intruding, conflicting, claim_conflicting}
use Rattle.leaf.specs.Rows.{Row}
use Rattle.leaf_edit.specs.EditFacts.{stamp_row}
use Rattle.theory_tree.specs.Versions.{arrivals, last_of, best}
use Rattle.meaning.specs.Meant.{Meant, refused_as, done_with, seen_by, on_best, stamped, conflict_in, meant_mark, meant_claim}
use Rattle.mvcc.proofs.RuleLaws.{unfinished_late, unfinished_active}
use Rattle.theory_tree.proofs.Abs.{Chosen, best_chosen, chosen_same}
use Rattle.meaning.proofs.Last.{some_version, change_own, last-seen, last-there, last-changed}
use Rattle.meaning.proofs.Local.{stamped-creator}

-- ---- what it tells that a claim is Done

pub record Claimed (key : ℕ) (sn : Snapshot) (ss : Statuses) (l : List Row) : Type 0 where
  pub someone : creator_of sn.current ≡ 0 → ⊥
  pub active-good : good_snapshot sn ≡ true
  pub statuses-good : good_statuses ss ≡ true
  pub version : Row
  pub chosen : best (seen_by sn (lookup ss)) key l ≡ Some version
  pub after : (meant_claim key sn ss l).rows ≡ stamped (seen_by sn (lookup ss)) key (creator_of sn.current) version l

pub claimed : (key : ℕ) (sn : Snapshot) (ss : Statuses) (l : List Row) → (meant_claim key sn ss l).number ≡ 0
    → Claimed key sn ss l
unfolding meant_claim meant_mark
claimed key sn ss l h =
    go (eqb (creator_of sn.current) 0) refl (good_snapshot sn) refl (good_statuses ss) refl (best v key l) refl h
  where
    v : Row → Bool
    v = seen_by sn (lookup ss)

    more : Row → Bool
    more y = conflict_in key sn (lookup ss) y.creator l

    on : Option Row → Meant
    on o = on_best (refused_as 8 l) (λ y. pick (more y) (refused_as 7 l) (done_with (stamped v key (creator_of sn.current) y l))) o

    go : (z : Bool) → eqb (creator_of sn.current) 0 ≡ z → (a : Bool) → good_snapshot sn ≡ a → (s : Bool) → good_statuses ss ≡ s → (o : Option Row) → best v key l ≡ o
        → (pick z (refused_as 3 l) (pick a (pick s (on o) (refused_as 4 l)) (refused_as 3 l))).number ≡ 0 → Claimed key sn ss l
    go true ez a ea s es o eo q = absurd (omega arith)
    go false ez false ea s es o eo q = absurd (omega arith)
    go false ez true ea false es o eo q = absurd (omega arith)
    go false ez true ea true es None eo q = absurd (omega arith)
    go false ez true ea true es (Some y) eo q = at (more y) refl q
      where
        at : (b : Bool) → more y ≡ b → (pick b (refused_as 7 l) (done_with (stamped v key (creator_of sn.current) y l))).number ≡ 0 → Claimed key sn ss l
        at true eb r = absurd (omega arith)
        at false eb r = record {
          someone = eqb-false (creator_of sn.current) 0 ez;
          active-good = ea;
          statuses-good = es;
          version = y;
          chosen = eo;
          after = rw (ez, ea, es, eo, eb);
        }

-- ---- the deleter c, whom the claimant's snapshot does not see as finished

-- who is not the current transaction
not_its : (cur : Option ℕ) {c : ℕ} → (c ≡ creator_of cur → ⊥) → is_current cur c ≡ false
unfolding is_current
not_its (Some t) {c} n = ne_eqb c t n
not_its None n = refl

module _ (sn : Snapshot) (st : ℕ → ℕ) (c : ℕ) (other : c ≡ creator_of sn.current → ⊥) (after : changed_after sn c ≡ true) where
  not_current : is_current sn.current c ≡ false
  not_current = not_its sn.current other

  unfinished : (c ≡ 0 → ⊥) → finished_before sn st c ≡ false
  unfolding changed_after finished_before
  unfinished n = go (leb sn.xmax c) refl after
    where
      go : (b : Bool) → leb sn.xmax c ≡ b → b || mem c sn.active ≡ true → finished_with sn.xmax sn.active (st c) c ≡ false
      go true e h = sym (unfinished_late sn.xmax sn.active (st c) c n (leb-true sn.xmax c e))
      go false e h = sym (unfinished_active sn.xmax sn.active (st c) c n h)

  pub still_seen : (c ≡ 0 → ⊥) → (creator : ℕ) (stamp : Option ℕ) → visible sn st creator stamp ≡ true
      → visible sn st creator (Some c) ≡ true
  unfolding visible of_deleter hiding
  still_seen n creator stamp h =
      rw (not_current, unfinished n)
      (go (not (eqb (st creator) 3)) (is_current sn.current creator) (finished_before sn st creator)
      (not (of_deleter (is_current sn.current) stamp)) (not (of_deleter (hiding sn st) stamp)) h)
    where
      go : (live mine old a b : Bool) → live && pick mine a (old && b) ≡ true → live && pick mine true (old && true) ≡ true
      go true true old a b q = refl
      go true false true a b q = refl
      go true false false a b q = q
      go false mine old a b q = q

  pub now_conflicting : (creator : ℕ) → claim_conflicting sn st creator creator (Some c) ≡ true
  unfolding claim_conflicting conflicting of_deleter intruding
  now_conflicting creator = rw (eq-eqb creator creator refl, after, not_current)

-- ---- the second claim

-- the version that both chose, stamped for the one, is what the other chooses
module _ (v w : Row → Bool) (key d : ℕ) (y : Row) (l : List Row) (one : best v key l ≡ Some y) (two : best w key l ≡ Some y) (seen : w (stamp_row d y) ≡ true) where
  by_one : Chosen v key l (Some y)
  by_one = subst (Chosen v key l) one (best_chosen v key l)

  by_two : Chosen w key l (Some y)
  by_two = subst (Chosen w key l) two (best_chosen w key l)

  pub last-stamped : last_of w (arrivals key y.creator (stamped v key d y l)) ≡ Some (stamp_row d y)
  last-stamped = ap (last_of w) (change_own d key y.creator v l) ∙ last-changed v w (stamp_row d) y (arrivals key y.creator l) seen by_one.0 by_two.0

  pub best-stamped : best w key (stamped v key d y l) ≡ Some (stamp_row d y)
  best-stamped =
      chosen_same w key m m (λ c. refl) (best w key m) (Some (stamp_row d y)) (best_chosen w key m)
      (last-stamped, λ c h. ap (last_of w) (stamped-creator v key d y l c (λ e. omega arith)) ∙ by_two.1 c h)
    where
      m : List Row
      m = stamped v key d y l

pub conflict-is : (key : ℕ) (sn : Snapshot) (ss : Statuses) (l : List Row) (y : Row) → (creator_of sn.current ≡ 0 → ⊥) → good_snapshot sn ≡ true
    → good_statuses ss ≡ true → best (seen_by sn (lookup ss)) key l ≡ Some y
    → conflict_in key sn (lookup ss) y.creator l ≡ true → (meant_claim key sn ss l).number ≡ 7
unfolding meant_claim meant_mark
conflict-is key sn ss l y n a s b h = rw (ne_eqb (creator_of sn.current) 0 n, a, s, b, h)

module _ (key : ℕ) (first second : Snapshot) (ss : Statuses) (l : List Row)
    (apart : creator_of first.current ≡ creator_of second.current → ⊥) (after : changed_after second (creator_of first.current) ≡ true) where
  pub second_conflicts : (one : Claimed key first ss l) → (two : Claimed key second ss l) → one.version ≡ two.version
      → (meant_claim key second ss (meant_claim key first ss l).rows).number ≡ 7
  second_conflicts one two same =
      rw one.after
      (conflict-is key second ss (stamped v key (creator_of first.current) y l) (stamp_row (creator_of first.current) y) two.someone two.active-good two.statuses-good
      (best-stamped v w key (creator_of first.current) y l one.chosen two_chosen seen)
      (some_version p key y.creator (stamped v key (creator_of first.current) y l)
      (last-there w p (stamp_row (creator_of first.current) y) (arrivals key y.creator (stamped v key (creator_of first.current) y l)) (now_conflicting second (lookup ss) (creator_of first.current) apart after y.creator)
      (last-stamped v w key (creator_of first.current) y l one.chosen two_chosen seen))))
    where
      v : Row → Bool
      v = seen_by first (lookup ss)

      w : Row → Bool
      w = seen_by second (lookup ss)

      y : Row
      y = one.version

      p : Row → Bool
      p x = claim_conflicting second (lookup ss) y.creator x.creator x.stamp

      two_chosen : best w key l ≡ Some y
      two_chosen = two.chosen ∙ ap Some (sym same)

      seen : w (stamp_row (creator_of first.current) y) ≡ true
      seen =
          still_seen second (lookup ss) (creator_of first.current) apart after one.someone y.creator y.stamp
          (last-seen w y (arrivals key y.creator l) (subst (Chosen w key l) two_chosen (best_chosen w key l)).0)
