-- An answer that is Done, or a refusal by one of the call's numbers, is as demand 1 has it; and so is a choice between two
-- such answers. Assumes nothing.
use Rattle.std.proofs.Common.{Result, Ok, Err}
use mathlib.Core.Path.{◌≡◌, refl}
use mathlib.Core.Bool.{Bool, true, false}
use mathlib.Core.List.{List, ◌∷◌}
use Prim.Native.Nat.{ℕ}
use Rattle.store.specs.Pick.{pick}
use Rattle.mvcc.specs.Lists.{mem}
use Rattle.call_answers.specs.Answer.{refused, done, number_of}
use Rattle.call_answers.specs.declared.Refused.{Refused}
use Rattle.meaning.specs.Refusals.{Refuses}

-- Done, or one of these
abbrev pub Known : List ℕ → ℕ → Type 0
Known ns n = mem n (0 ∷ ns) ≡ true

pub done-known : (ns : List ℕ) → Known ns 0
unfolding mem
done-known ns = refl

-- an answer whose refusal, if it is one, is one of these
abbrev pub AnswerKnown : {A : Type 0} → List ℕ → Result A Refused → Type 0
AnswerKnown ns (Ok a) = Unit
AnswerKnown ns (Err r) = Known ns (number_of r.refusal)

-- a choice, where each side may use what the test says
pub either : {A : Type 0} (P : A → Type 0) (b : Bool) {x y : A} → (b ≡ true → P x) → (b ≡ false → P y) → P (pick b x y)
either P true p q = p refl
either P false p q = q refl

pub done-refuses : {A : Type 0} (ns : List ℕ) (a : A) → Refuses ns (done a)
done-refuses ns a = record { known = done-known ns; plain = λ h. absurd (h refl) }

pub refused-refuses : {A : Type 0} (ns : List ℕ) (n : ℕ) → Known ns n → Refuses {A = A} ns (refused n)
refused-refuses ns n k = record { known = k; plain = λ h. refl }
