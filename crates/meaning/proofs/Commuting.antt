-- Demand 3's first half, from what each call does: two calls on different keys, room refusals aside. Assumes nothing.
use mathlib.Core.Path.{◌≡◌, sym, ◌∙◌}
use Rattle.page.specs.Pool.{Grown}
use Rattle.theory_tree.specs.Shape.{Shape, chain}
use Rattle.theory_tree.specs.Versions.{SameVersions}
use Rattle.meaning.specs.Trees.{TreeIn}
use Rattle.meaning.specs.Change.{Change, key_of, Fits, run, Roomy}
use Rattle.meaning.specs.Meant.{meant}
use Rattle.meaning.specs.Demand.{Does, Effect, Commute}
use Rattle.meaning.proofs.Respecting.{meant-same}
use Rattle.meaning.proofs.Apart.{meant-first, meant-first-dropped, meant-apart}

-- b, then a, where a and b are apart
pub record InTurn (a b : Change) (g : Grown) (t : Shape) : Type 0 where
  pub number : (run a (run b g).after).number ≡ (meant a (chain t)).number
  pub dropped : (run a (run b g).after).dropped ≡ (meant a (chain t)).dropped
  pub shape : Shape
  pub tree : TreeIn (run a (run b g).after).after shape
  pub versions : SameVersions (chain shape) (meant a (meant b (chain t)).rows).rows

pub in_turn : Effect → (a b : Change) (g : Grown) (t : Shape) → TreeIn g t → Fits a → Fits b → (key_of a ≡ key_of b → ⊥)
    → Roomy (run b g) → Roomy (run a (run b g).after) → InTurn a b g t
in_turn effect a b g t tree fa fb n rb ra =
    record {
      number = two.number ∙ over.0 ∙ meant-first a b n (chain t);
      dropped = two.dropped ∙ over.1 ∙ meant-first-dropped a b n (chain t);
      shape = two.shape;
      tree = two.tree;
      versions = λ k c. two.versions k c ∙ over.2 k c;
    }
  where
    one : Does b t (run b g)
    one = effect b g t tree fb (λ z. rb)

    two : Does a one.shape (run a (run b g).after)
    two = effect a (run b g).after one.shape one.tree fa (λ z. ra)

    over : ((meant a (chain one.shape)).number ≡ (meant a (meant b (chain t)).rows).number)
        × ((meant a (chain one.shape)).dropped ≡ (meant a (meant b (chain t)).rows).dropped)
        × SameVersions (meant a (chain one.shape)).rows (meant a (meant b (chain t)).rows).rows
    over = meant-same a (chain one.shape) (meant b (chain t)).rows one.versions

pub commute_from : Effect → Commute
commute_from effect a b g t tree fa fb n ra rab rb rba =
    record {
      first = a_first.number ∙ sym a_last.number;
      first_dropped = a_first.dropped ∙ sym a_last.dropped;
      second = b_last.number ∙ sym b_first.number;
      second_dropped = b_last.dropped ∙ sym b_first.dropped;
      one = b_last.shape;
      other = a_last.shape;
      one_tree = b_last.tree;
      other_tree = a_last.tree;
      versions = λ k c. b_last.versions k c ∙ meant-apart a b n (chain t) k c ∙ sym (a_last.versions k c);
    }
  where
    a_first : Does a t (run a g)
    a_first = effect a g t tree fa (λ z. ra)

    b_first : Does b t (run b g)
    b_first = effect b g t tree fb (λ z. rb)

    a_last : InTurn a b g t
    a_last = in_turn effect a b g t tree fa fb n rb rba

    b_last : InTurn b a g t
    b_last = in_turn effect b a g t tree fb fa (λ e. n (sym e)) ra rab
