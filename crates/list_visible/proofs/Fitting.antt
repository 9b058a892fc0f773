-- The two ends of a listing whose length is known. Assumes nothing.
use Rattle.call_answers.specs.declared.Refusal.{Refusal}
use Rattle.call_answers.specs.Answer.{refusal_of, written}
use Rattle.std.proofs.Common.{Ok, Err}
use Rattle.call_answers.specs.declared.Refused.{Refused}
use mathlib.Core.Path.{◌≡◌}
use mathlib.Core.List.{List}
use Prim.Native.Nat.{ℕ, ◌≤◌, ◌<◌}
use native.Mathlib.Omega.{arith}
use borrow.Author.Tests.{le-leb, lt-leb}
use lib.ListN.{length}
use Rattle.store.specs.Part.{put}
use Rattle.list_records.specs.Listed.{fitted}

module _ (x out : List ℕ) {n : ℕ} (size : n ≡ length x) where
  pub fitted_short : {r : Refused} → length out < n → r ≡ refusal_of Refusal.Short → written (Err r) out ≡ fitted x out
  unfolding fitted
  fitted_short h e = rw (lt-leb (length x) (length out) (omega arith), e)

  pub fitted-done : {new : List ℕ} → n ≤ length out → new ≡ put 0 x out → written (Ok n) new ≡ fitted x out
  unfolding fitted
  fitted-done h e = rw (le-leb (length x) (length out) (omega arith), e, size)
