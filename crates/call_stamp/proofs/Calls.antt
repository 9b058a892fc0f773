-- A claim that names nobody is refused. Assumes nothing.
use Rattle.std.proofs.Common.{Result, Err}
use mathlib.Core.Path.{◌≡◌, sym, ◌∙◌}
use mathlib.Core.Bool.{Bool, true}
use mathlib.Core.List.{List}
use Prim.Native.Nat.{ℕ}
use borrow.Author.Tests.{eq-eqb}
use Rattle.page.specs.Pool.{good_pool}
use Rattle.page.specs.declared.pool.State.{State}
use Rattle.mvcc.specs.Snapshot.{creator_of, Snapshot, Statuses}
use Rattle.tree_stamp.specs.declared.ready.Marking.{Marking}
use Rattle.call_answers.specs.declared.Refusal.{Refusal}
use Rattle.call_answers.specs.declared.Refused.{Refused}
use Rattle.call_answers.specs.Answer.{refusal_of}
use Rattle.call_stamp.specs.Claim.{claim_ready}

module _ (s : List ℕ) (st : State) (key : ℕ) (sn : Snapshot) (ss : Statuses) {a : Bool} (pool : a ≡ good_pool s st) {m : Result Marking Refused} where
  pub claim_nobody : a ≡ true → {who : ℕ} → who ≡ creator_of sn.current → who ≡ 0 → m ≡ Err (refusal_of Refusal.BadSnapshot) → m ≡ claim_ready s st key sn ss
  unfolding claim_ready
  claim_nobody t k z u = u ∙ rw (sym pool ∙ t, eq-eqb (creator_of sn.current) 0 (sym k ∙ z))
