-- Remove and vacuum on a well-formed tree, as the statements over the calls say it. Assumes nothing.
use mathlib.Core.Path.{◌≡◌, refl, ap}
use mathlib.Core.Bool.{true}
use mathlib.Core.List.{List}
use Prim.Native.Nat.{ℕ}
use lib.ListN.{length}
use Rattle.page.specs.Pool.{good_pool, Grown}
use Rattle.call_answers.specs.Answer.{Ended, Outcome}
use Rattle.theory_tree.specs.Shape.{Shape}
use Rattle.meaning.specs.Trees.{TreeIn}
use Rattle.meaning.specs.Change.{removes, run}
use Rattle.meaning.specs.Meant.{meant, meant_remove}
use Rattle.meaning.specs.Demand.{Does}
use Rattle.meaning.specs.Reads.{VacuumCleans}
use Rattle.theory_clean.proofs.Removing.{Removes, remove_does}
use Rattle.theory_clean.proofs.Vacuuming.{Vacuums, vacuum_does}

-- a pool of the same length is as good
pub still_good : (g : Grown) (s : List ℕ) → length s ≡ length g.pool → good_pool g.pool g.state ≡ true → good_pool s g.state ≡ true
unfolding good_pool
still_good g s e h = rw e h

pub vacuum_cleans : VacuumCleans
vacuum_cleans g t bound ss tree lists =
    let v : Vacuums g.pool g.state bound ss t = vacuum_does g.pool g.state t tree.bytes tree.good tree.formed bound ss lists in
    record {
      count = ap (λ (e : Ended (Outcome ℕ)). e.answer) v.answer;
      shape = v.tree;
      tree = rw v.answer (record { bytes = v.bytes; good = still_good g v.pool v.long tree.good; formed = v.holds });
      rows = v.rows_are;
    }

pub effect_removes : (key : ℕ) (g : Grown) (t : Shape) → TreeIn g t → Does (removes key) t (run (removes key) g)
unfolding run meant meant_remove
effect_removes key g t tree =
    let r : Removes g.pool g.state key t = remove_does g.pool g.state t tree.bytes tree.good tree.formed key in
    rw r.answer
    (record {
      number = refl;
      dropped = refl;
      shape = r.tree;
      tree = record { bytes = r.bytes; good = still_good g r.pool r.long tree.good; formed = r.holds };
      versions = λ k c. rw r.rows_are;
    })
