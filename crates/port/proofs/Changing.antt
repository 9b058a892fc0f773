-- What each writing call gives, in words and pool, from the call that it passes on. Assumes nothing.
use Rattle.std.proofs.Common.{Option}
use mathlib.Core.Path.{◌≡◌, ap, ◌∙◌}
use mathlib.Core.List.{List}
use Prim.Native.Nat.{ℕ}
use Rattle.page.specs.declared.pool.State.{State}
use Rattle.row.specs.declared.Pointer.{Pointer}
use Rattle.call_answers.specs.Answer.{ended, Ended, Outcome}
use Rattle.call_insert.specs.Insert.{insert_call, insert_version_call}
use Rattle.call_stamp.specs.Mark.{mark_call, mark_plain_call, delete_call}
use Rattle.call_stamp.specs.Claim.{claim_call}
use Rattle.call_clean.specs.Remove.{remove_call}
use Rattle.port.specs.Words.{Called, called, given, called_pool, given_pool}
use Rattle.mvcc.specs.Snapshot.{Statuses, snapshot}

-- ---- the words of an answer

-- the outcome that was given is the outcome of the definition, and the pool that the call left is the definition's
pub passed-pool : {A : Type 0} (w : A → List ℕ) {o : Outcome A} {e : Ended (Outcome A)} {n : ℕ} {t s : List ℕ} (old : List ℕ)
    → called n t ≡ given w o old → ended o s ≡ e → called_pool n t s ≡ given_pool w e old
passed-pool {A} w {o} {e} {n} {t} {s} old q f =
    ap (λ (x : Called). called_pool x.number x.words s) q ∙ ap (λ (x : Ended (Outcome A)). given_pool w x old) f

-- ---- a call asked with an equal key and an equal current transaction

module _ (s : List ℕ) (st : State) {k l : ℕ} (key : k ≡ l) where
  pub insert_version_asked : {a b : Option ℕ} {p q : Option Pointer} (creator : ℕ) (body : List ℕ) → a ≡ b → p ≡ q
      → insert_version_call s st k creator a p body ≡ insert_version_call s st l creator b q body
  insert_version_asked creator body e f = rw (key, e, f)

  pub remove_asked : remove_call s st k ≡ remove_call s st l
  remove_asked = rw key

module _ (s : List ℕ) (st : State) {k l : ℕ} {x y : Option ℕ} (key : k ≡ l) (cur : x ≡ y) where
  pub insert_asked : (body : List ℕ) (ss : Statuses) → insert_call s st k x ss body ≡ insert_call s st l y ss body
  insert_asked body ss = rw (key, cur)

  pub mark_asked : (d xmax : ℕ) (active : List ℕ) (ss : Statuses) → mark_call s st k (snapshot xmax active x) ss d ≡ mark_call s st l (snapshot xmax active y) ss d
  mark_asked d xmax active ss = rw (key, cur)

  pub plain_asked : (d : ℕ) (ss : Statuses) → mark_plain_call s st k x ss d ≡ mark_plain_call s st l y ss d
  plain_asked d ss = rw (key, cur)

  pub delete_asked : (ss : Statuses) → delete_call s st k x ss ≡ delete_call s st l y ss
  delete_asked ss = rw (key, cur)

  pub claim_asked : (xmax : ℕ) (active : List ℕ) (ss : Statuses) → claim_call s st k (snapshot xmax active x) ss ≡ claim_call s st l (snapshot xmax active y) ss
  claim_asked xmax active ss = rw (key, cur)
