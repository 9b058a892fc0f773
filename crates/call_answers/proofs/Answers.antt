-- The number and the value of an answer determine it (document 01, section 9); an answer without its fault. Assumes nothing.
use Rattle.std.proofs.Common.{◌≡◌, ℕ, List, Result, Ok, Err, refl}
use Rattle.std.specs.Prelude.{eqb}
use Rattle.store.specs.Pick.{pick}
use mathlib.Core.Path.{sym, ap, ◌∙◌}
use Rattle.call_answers.specs.declared.Refusal.{Refusal}
use Rattle.call_answers.specs.declared.Refused.{Refused}
use Rattle.call_answers.specs.Answer.{Value, value, nothing, Outcome, outcome_of, OneAnswer, Ended, ended, hide, hide_end}

-- the refusal that has a number; of one that no refusal has, some refusal
abbrev by_number : ℕ → Refusal
by_number n =
    pick (eqb n 1) Refusal.BadPool
    (pick (eqb n 2) Refusal.BadTree
    (pick (eqb n 3) Refusal.BadSnapshot
    (pick (eqb n 4) Refusal.BadStatuses
    (pick (eqb n 5) Refusal.BadData
    (pick (eqb n 6) Refusal.Duplicate
    (pick (eqb n 7) Refusal.Conflict
    (pick (eqb n 8) Refusal.Absent
    (pick (eqb n 9) Refusal.Undividable
    (pick (eqb n 10) Refusal.NoPages
    (pick (eqb n 11) Refusal.TooDeep Refusal.Short))))))))))

abbrev by_value : {A : Type 0} → ℕ → Value A → Result A Refusal
by_value n (value a) = Ok a
by_value n nothing = Err (by_number n)

-- the answer that an outcome stands for
abbrev back : {A : Type 0} → Outcome A → Result A Refusal
back o = by_value o.number o.gives

same : {A : Type 0} (x : Result A Refusal) → back (outcome_of x) ≡ x
same (Ok a) = refl
same (Err Refusal.BadPool) = refl
same (Err Refusal.BadTree) = refl
same (Err Refusal.BadSnapshot) = refl
same (Err Refusal.BadStatuses) = refl
same (Err Refusal.BadData) = refl
same (Err Refusal.Duplicate) = refl
same (Err Refusal.Conflict) = refl
same (Err Refusal.Absent) = refl
same (Err Refusal.Undividable) = refl
same (Err Refusal.NoPages) = refl
same (Err Refusal.TooDeep) = refl
same (Err Refusal.Short) = refl

-- an answer that its outcome gives back is the only one with it
pub one_answer : {A : Type 0} → OneAnswer (outcome_of {A = A})
one_answer x y e = sym (same x) ∙ (ap back e ∙ same y)

-- what a call gives, without its fault
pub hidden-end : {A : Type 0} {q : Result A Refused} {o : Outcome A} {t : List ℕ} {e : Ended (Result A Refused)} → ended q t ≡ e → o ≡ hide q → ended o t ≡ hide_end e
hidden-end h u = rw u (ap hide_end h)
