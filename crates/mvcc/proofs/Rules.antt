-- The record `RulesHold` of specs/Facts: what section 4's rules say of the cases that readers ask for, and P7 and P8.
-- Assumes nothing.
use Rattle.std.proofs.Common.{Some, None}
use mathlib.Core.Path.{◌≡◌, refl, sym, ◌∙◌}
use mathlib.Core.Bool.{true, false, and-false, or-true}
use mathlib.Core.List.{List}
use Prim.Native.Nat.{ℕ, ◌<◌}
use borrow.Author.Tests.{lt-ltb, eq-eqb, ne_eqb}
use Rattle.mvcc.specs.Lists.{mem, state_at}
use Rattle.mvcc.specs.Rules.{is_current, of_deleter, finished_with, finished_before, hiding, visible, changed_after, intruding, conflicting, claim_conflicting}
use Rattle.mvcc.specs.Vacuum.{aborted_creator, removable_deleter, aborted_deleter, dropped, fate}
use Rattle.mvcc.specs.Facts.{RulesHold}
use Rattle.mvcc.specs.Snapshot.{Snapshot, snapshot}
use Rattle.mvcc.proofs.RuleLaws.{finished_zero, unseen_aborted, seen_own}

absent_finished : (sn : Snapshot) (st : ℕ → ℕ) (t : ℕ) → st t ≡ 0 → t < sn.xmax → mem t sn.active ≡ false → finished_before sn st t ≡ true
unfolding finished_before finished_with
absent_finished sn st t e h m = simp (e, lt-ltb t sn.xmax h, m, or-true)

zero_finished : (sn : Snapshot) (st : ℕ → ℕ) → finished_before sn st 0 ≡ true
unfolding finished_before
zero_finished sn st = sym (finished_zero sn.xmax sn.active (st 0) 0 refl)

-- a version of the current transaction
module _ (xmax : ℕ) (active : List ℕ) (st : ℕ → ℕ) (c : ℕ) where
  own_current : is_current (Some c) c ≡ true
  unfolding is_current
  own_current = eq-eqb c c refl

  own_live : (st c ≡ 3 → ⊥) → visible (snapshot xmax active (Some c)) st c None ≡ true
  unfolding of_deleter
  own_live n = sym (seen_own (snapshot xmax active (Some c)) st c None (st c) refl n own_current)

  own_other : (d : ℕ) → (st c ≡ 3 → ⊥) → (d ≡ c → ⊥) → visible (snapshot xmax active (Some c)) st c (Some d) ≡ true
  unfolding of_deleter is_current
  own_other d n m = sym (seen_own (snapshot xmax active (Some c)) st c (Some d) (st c) refl n own_current) ∙ rw (ne_eqb d c m)

  own_gone : visible (snapshot xmax active (Some c)) st c (Some c) ≡ false
  unfolding visible of_deleter is_current
  own_gone = simp (eq-eqb c c refl, and-false)

unlisted_kept : (st : ℕ → ℕ) (bound d : ℕ) → st d ≡ 0 → removable_deleter st bound (Some d) ≡ false
unfolding removable_deleter of_deleter
unlisted_kept st bound d e = simp (e, and-false)

pub rules_hold : RulesHold
unfolding mem state_at is_current of_deleter finished_with finished_before hiding visible changed_after intruding conflicting claim_conflicting aborted_creator removable_deleter aborted_deleter dropped fate
rules_hold = record {
  absent_finished = absent_finished;
  zero_finished = zero_finished;
  aborted_invisible = λ sn st c stamp e. sym (unseen_aborted sn st c stamp (st c) refl e);
  own_live = own_live;
  own_other = own_other;
  own_gone = own_gone;
  unlisted_kept = unlisted_kept;
  nine_kept = refl;
  p7_seen = refl;
  p7_conflict = refl;
  p7_absent = refl;
  p8_seen = refl;
  p8_no_conflict = refl;
  claim_same = λ sn st seen c stamp. refl;
}
