-- Laws of the rules in specs/Rules and specs/Vacuum: one for each way out of the code that decides them, so that a
-- proof file only says which tests led there. Assumes nothing.
use Rattle.std.proofs.Common.{Option, Some, None}
use mathlib.Core.Path.{◌≡◌}
use mathlib.Core.Bool.{Bool, true, false, not, and-true, and-false, or-true}
use mathlib.Core.List.{List}
use Prim.Native.Nat.{ℕ, ◌≤◌, ◌<◌}
use borrow.Author.Tests.{lt-ltb, le-ltb, le-leb, lt-leb, eq-eqb, ne_eqb}
use Rattle.mvcc.specs.Lists.{mem}
use Rattle.mvcc.specs.Rules.{is_current, of_deleter, finished_with, finished_before, hiding, visible, changed_after, intruding, conflicting}
use Rattle.mvcc.specs.Vacuum.{aborted_creator, removable_deleter, aborted_deleter, dropped, fate}
use Rattle.mvcc.specs.Steps.Vacuum.{stamped_fate}
use Rattle.mvcc.specs.declared.vacuum.Fate.{Fate}
use Rattle.mvcc.specs.Snapshot.{Snapshot, snapshot}

-- ---- a rule of the deleter

module _ (rule : ℕ → Bool) (stamp : Option ℕ) where
  pub of_absent : stamp ≡ None → false ≡ of_deleter rule stamp
  unfolding of_deleter
  of_absent e = rw e

  pub of_by : (d : ℕ) → stamp ≡ Some d → rule d ≡ of_deleter rule stamp
  unfolding of_deleter
  of_by d e = rw e

-- ---- finished before

module _ (xmax : ℕ) (active : List ℕ) (s t : ℕ) where
  pub finished_zero : t ≡ 0 → true ≡ finished_with xmax active s t
  unfolding finished_with
  finished_zero e = rw (eq-eqb t 0 e)

  module _ (n : t ≡ 0 → ⊥) where
    pub unfinished_late : xmax ≤ t → false ≡ finished_with xmax active s t
    unfolding finished_with
    unfinished_late h = rw (ne_eqb t 0 n, le-ltb)

    pub unfinished_running : s ≡ 1 → false ≡ finished_with xmax active s t
    unfolding finished_with
    unfinished_running e = simp (ne_eqb t 0 n, eq-eqb s 1 e, and-false)

    pub unfinished_aborted : s ≡ 3 → false ≡ finished_with xmax active s t
    unfolding finished_with
    unfinished_aborted e = simp (ne_eqb t 0 n, eq-eqb s 3 e, or-true, and-false)

    pub unfinished_active : mem t active ≡ true → false ≡ finished_with xmax active s t
    unfolding finished_with
    unfinished_active e = simp (ne_eqb t 0 n, e, and-false)

    pub finished_else : t < xmax → (s ≡ 1 → ⊥) → (s ≡ 3 → ⊥) → mem t active ≡ false → true ≡ finished_with xmax active s t
    unfolding finished_with
    finished_else h a b e = simp (ne_eqb t 0 n, lt-ltb t xmax h, e, ne_eqb s 1 a, ne_eqb s 3 b)

-- ---- visible

module _ (sn : Snapshot) (st : ℕ → ℕ) where
  -- the deleter d
  module _ (stamp : Option ℕ) (d : ℕ) (by : stamp ≡ Some d) where
    pub hidden_own : is_current sn.current d ≡ true → true ≡ of_deleter (hiding sn st) stamp
    unfolding of_deleter hiding
    hidden_own e = rw (by, e)

    pub hidden_else : is_current sn.current d ≡ false → (s : ℕ) → s ≡ st d → finished_with sn.xmax sn.active s d ≡ of_deleter (hiding sn st) stamp
    unfolding of_deleter hiding finished_before
    hidden_else e s is = rw (by, e, is)

  -- the creator c, whose state is s
  module _ (c : ℕ) (stamp : Option ℕ) (s : ℕ) (is : s ≡ st c) where
    pub unseen_aborted : s ≡ 3 → false ≡ visible sn st c stamp
    unfolding visible
    unseen_aborted e = rw (← is, e)

    module _ (n : s ≡ 3 → ⊥) where
      pub seen_own : is_current sn.current c ≡ true → not (of_deleter (is_current sn.current) stamp) ≡ visible sn st c stamp
      unfolding visible
      seen_own e = rw (← is, ne_eqb s 3 n, e)

      pub unseen_unfinished : is_current sn.current c ≡ false → finished_with sn.xmax sn.active s c ≡ false → false ≡ visible sn st c stamp
      unfolding visible finished_before
      unseen_unfinished e f = rw (← is, ne_eqb s 3 n, e, f)

      pub seen_else : is_current sn.current c ≡ false → finished_with sn.xmax sn.active s c ≡ true
          → not (of_deleter (hiding sn st) stamp) ≡ visible sn st c stamp
      unfolding visible finished_before
      seen_else e f = rw (← is, ne_eqb s 3 n, e, f)

-- ---- conflict

module _ (sn : Snapshot) (t : ℕ) where
  pub changed_late : sn.xmax ≤ t → true ≡ changed_after sn t
  unfolding changed_after
  changed_late h = rw le-leb

  pub changed_else : t < sn.xmax → mem t sn.active ≡ changed_after sn t
  unfolding changed_after
  changed_else h = rw lt-leb

  pub intruding_own : is_current sn.current t ≡ true → false ≡ intruding sn t
  unfolding intruding
  intruding_own e = simp (e, and-false)

  -- what changed after is asked for any current transaction: it plays no part in that
  pub intruding_else : (cur : Option ℕ) → is_current sn.current t ≡ false → changed_after (snapshot sn.xmax sn.active cur) t ≡ intruding sn t
  unfolding intruding changed_after
  intruding_else cur e = simp (e, and-true)

module _ (sn : Snapshot) (seen c : ℕ) (stamp : Option ℕ) where
  pub conflict-other : (c ≡ seen → ⊥) → intruding sn c ≡ conflicting sn seen c stamp
  unfolding conflicting
  conflict-other n = rw (ne_eqb c seen n)

  module _ (e : c ≡ seen) where
    pub conflict-live : stamp ≡ None → false ≡ conflicting sn seen c stamp
    unfolding conflicting of_deleter
    conflict-live q = rw (eq-eqb c seen e, q)

    pub conflict-stamped : (d : ℕ) → stamp ≡ Some d → {r : Bool} → r ≡ intruding sn d → r ≡ conflicting sn seen c stamp
    unfolding conflicting of_deleter
    conflict-stamped d q i = rw (eq-eqb c seen e, q) i

-- ---- vacuum

module _ (bound d s : ℕ) where
  pub stamped_aborted : s ≡ 3 → Fate.Cleared ≡ stamped_fate bound d s
  unfolding stamped_fate
  stamped_aborted e = simp (e, and-false)

  pub stamped-other : (s ≡ 3 → ⊥) → (s ≡ 2 → ⊥) → Fate.Same ≡ stamped_fate bound d s
  unfolding stamped_fate
  stamped-other a b = simp (ne_eqb s 3 a, ne_eqb s 2 b, and-false)

  pub stamped_old : s ≡ 2 → d < bound → Fate.Dropped ≡ stamped_fate bound d s
  unfolding stamped_fate
  stamped_old e h = simp (e, lt-ltb d bound h)

  pub stamped_late : (s ≡ 3 → ⊥) → bound ≤ d → Fate.Same ≡ stamped_fate bound d s
  unfolding stamped_fate
  stamped_late a h = simp (le-ltb d bound h, ne_eqb s 3 a)

-- of a version whose creator c has the state s
module _ (st : ℕ → ℕ) (bound c : ℕ) (stamp : Option ℕ) (s : ℕ) (is : s ≡ st c) where
  pub fate_aborted : s ≡ 3 → Fate.Dropped ≡ fate st bound c stamp
  unfolding fate dropped aborted_creator
  fate_aborted e = rw (← is, e)

  module _ (n : s ≡ 3 → ⊥) where
    pub fate-live : stamp ≡ None → Fate.Same ≡ fate st bound c stamp
    unfolding fate dropped aborted_creator removable_deleter aborted_deleter of_deleter
    fate-live e = rw (← is, ne_eqb s 3 n, e)

    pub fate-stamped : (d : ℕ) → stamp ≡ Some d → (z : ℕ) → z ≡ st d → stamped_fate bound d z ≡ fate st bound c stamp
    unfolding fate dropped aborted_creator removable_deleter aborted_deleter of_deleter stamped_fate
    fate-stamped d e z q = rw (← is, ne_eqb s 3 n, e, q)
