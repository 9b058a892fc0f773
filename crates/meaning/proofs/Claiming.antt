-- Demand 3's second half, from what each call does: of two that would each claim one version, the second is warned.
-- Assumes nothing.
use mathlib.Core.Path.{◌≡◌, refl, sym, ap, ◌∙◌}
use mathlib.Core.List.{List, [], ◌∷◌}
use Rattle.std.proofs.Common.{Some}
use Prim.Native.Nat.{ℕ}
use native.Mathlib.Omega.{arith}
use Rattle.page.specs.declared.pool.State.{State}
use Rattle.mvcc.specs.Lists.{mem}
use Rattle.leaf.specs.Rows.{Row}
use Rattle.page.specs.Pool.{Grown}
use Rattle.call_answers.specs.Answer.{refused, ended, Ended, Outcome, nothing, Value}
use Rattle.call_stamp.specs.Claim.{claim_call}
use Rattle.theory_tree.specs.Shape.{Shape, chain}
use Rattle.meaning.specs.Trees.{TreeIn}
use Rattle.meaning.specs.Change.{Change, claims, Fits, Ran, run, Roomy}
use Rattle.meaning.specs.Meant.{meant_claim, meant}
use Rattle.meaning.specs.Refusals.{Keeps, WritesRefuse}
use Rattle.meaning.specs.Demand.{Does, Effect, row_found, LookupIs, FirstClaims}
use Rattle.mvcc.specs.Snapshot.{Snapshot, Statuses}
use Rattle.meaning.proofs.Respecting.{meant-same}
use Rattle.meaning.proofs.Second.{Claimed, claimed, second_conflicts}

-- a call that is Done met no room refusal
done_roomy : (r : Ran) → r.number ≡ 0 → Roomy r
unfolding mem
done_roomy r e = rw e

-- the call as it is written, and as a change
claim_means : (key : ℕ) (sn : Snapshot) (ss : Statuses) (l : List Row)
    → meant (claims key sn ss) l ≡ meant_claim key sn ss l
unfolding meant
claim_means key sn ss l = refl

claim_runs : (key : ℕ) (sn : Snapshot) (ss : Statuses) (g : Grown)
    → (claim_call g.pool g.state key sn ss).answer.number ≡ (run (claims key sn ss) g).number
unfolding run
claim_runs key sn ss g = refl

ended_is : (e : Ended (Outcome State)) (n : ℕ) (s : List ℕ) → e.answer.number ≡ n → e.answer.gives ≡ nothing → e.pool ≡ s → e ≡ ended (refused n) s
ended_is e n s p q r = parts e.answer.number e.answer.gives e.pool p q r
  where
    parts : (m : ℕ) (v : Value State) (u : List ℕ) → m ≡ n → v ≡ nothing → u ≡ s → ended (record { number = m; gives = v }) u ≡ ended (refused n) s
    parts m v u p q r = rw (p, q, r)

-- a claim that is Done on a well-formed tree
module _ (effect : Effect) (g : Grown) (t : Shape) (key : ℕ) (sn : Snapshot) (ss : Statuses) (tree : TreeIn g t)
    (fits : Fits (claims key sn ss)) (done : (run (claims key sn ss) g).number ≡ 0) where
  does : Does (claims key sn ss) t (run (claims key sn ss) g)
  does = effect (claims key sn ss) g t tree fits (λ z. done_roomy (run (claims key sn ss) g) done)

  has_claimed : Claimed key sn ss (chain t)
  has_claimed =
      claimed key sn ss (chain t)
      (ap (λ m. m.number) (sym (claim_means key sn ss (chain t))) ∙ sym does.number ∙ done)

pub first_from : Effect → LookupIs → WritesRefuse → FirstClaims
first_from effect looks refuses g t key one two ss tree fits₁ fits₂ apart after₁ after₂ done₁ done₂ same =
    ended_is (claim_call h.pool h.state key two ss) 7 h.pool answer (keeps.refuses.plain warned) (keeps.stays warned)
  where
    first : Change
    first = claims key one ss

    second : Change
    second = claims key two ss

    h : Grown
    h = (run first g).after

    stored : Does first t (run first g)
    stored = does effect g t key one ss tree fits₁ done₁

    claim₁ : Claimed key one ss (chain t)
    claim₁ = has_claimed effect g t key one ss tree fits₁ done₁

    claim₂ : Claimed key two ss (chain t)
    claim₂ = has_claimed effect g t key two ss tree fits₂ done₂

    found : Some claim₁.version ≡ Some claim₂.version
    found =
        sym claim₁.chosen ∙ sym (looks g t key one ss tree claim₁.active-good claim₁.statuses-good) ∙ ap (row_found g.pool) same
        ∙ looks g t key two ss tree claim₂.active-good claim₂.statuses-good ∙ claim₂.chosen

    version : claim₁.version ≡ claim₂.version
    version = cc found

    -- the second after the first, on the rows that are meant, and so on those of the tree
    on_rows : (meant second (meant first (chain t)).rows).number ≡ 7
    on_rows =
        rw (
          claim_means key one ss (chain t),
          claim_means key two ss (meant_claim key one ss (chain t)).rows,
        )
        (second_conflicts key one two ss (chain t) apart after₂ claim₁ claim₂ version)

    seven : (meant second (chain stored.shape)).number ≡ 7
    seven = (meant-same second (chain stored.shape) (meant first (chain t)).rows stored.versions).0 ∙ on_rows

    told : Does second stored.shape (run second h)
    told = effect second h stored.shape stored.tree fits₂ (λ z. absurd (omega (arith, seven)))

    answer : (claim_call h.pool h.state key two ss).answer.number ≡ 7
    answer = claim_runs key two ss h ∙ told.number ∙ seven

    warned : (claim_call h.pool h.state key two ss).answer.number ≡ 0 → ⊥
    warned e = omega (arith, answer)

    keeps : Keeps h.pool (1 ∷ 3 ∷ 4 ∷ 2 ∷ 8 ∷ 7 ∷ 11 ∷ 10 ∷ []) (claim_call h.pool h.state key two ss)
    keeps = refuses.claim h.pool h.state key two ss stored.tree.bytes
