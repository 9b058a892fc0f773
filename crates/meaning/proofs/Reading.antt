-- Lookup finds the version that is meant, and check says yes exactly for a well-formed tree. Assumes nothing.
use Rattle.std.proofs.Common.{Some, None, Ok}
use mathlib.Core.Path.{◌≡◌, refl, ap, ◌∙◌}
use mathlib.Core.Bool.{Bool, true, false}
use mathlib.Core.List.{List}
use Prim.Native.Nat.{ℕ}
use Rattle.store.specs.Le.{AreBytes}
use Rattle.store.specs.Pick.{pick}
use Rattle.page.specs.Pool.{good_pool, Grown}
use Rattle.mvcc.specs.Snapshot.{lookup, good_statuses, Snapshot, Statuses, good_snapshot}
use Rattle.leaf.specs.Find.{Best}
use Rattle.tree_check.specs.Check.{is_well_formed}
use Rattle.call_answers.specs.Answer.{refused, done, Outcome, nothing, value, Value}
use Rattle.call_read.specs.Check.{check_call}
use Rattle.call_read.specs.Find.{looked_best, find_visible_run}
use Rattle.theory_tree.specs.Shape.{Shape}
use Rattle.meaning.specs.Trees.{TreeIn, CheckIs}
use Rattle.meaning.specs.Demand.{row_found, LookupIs}
use Rattle.theory_check.proofs.Formed.{formed-is, formed-yes}
use Rattle.theory_walks.proofs.Looking.{row_in, BestIs, best-is}

-- ---- lookup

module _ (g : Grown) (t : Shape) (tree : TreeIn g t) (key : ℕ) (sn : Snapshot) (ss : Statuses) where
  pub found : BestIs sn (lookup ss) key g.pool g.state.root g.state.used t
  found = best-is sn (lookup ss) key g.pool g.state.root g.state.used t tree.formed

  pub looks : good_snapshot sn ≡ true → good_statuses ss ≡ true
      → find_visible_run g.pool g.state key sn ss ≡ looked_best (Ok found.found)
  unfolding find_visible_run
  looks a s = rw (tree.good, a, s, found.told)

looked_row : (s : List ℕ) (b : Best) → row_found s (looked_best (Ok b)) ≡ row_in s b
looked_row s (Some (p, c)) = refl
looked_row s None = refl

pub lookup-is : LookupIs
lookup-is g t key sn ss tree a s =
    let b = found g t tree key sn ss in
    ap (row_found g.pool) (looks g t tree key sn ss a s) ∙ (looked_row g.pool b.found ∙ b.row)

-- ---- check

pub check-is : CheckIs
unfolding check_call
check-is = record { yes = λ g t tree. rw (tree.good, formed-yes g.state.used g.state.root g.pool t tree.formed); only = only-tree }
  where
    gives : Outcome Bool → Value Bool
    gives o = o.gives

    by_tests : (g : Grown) → AreBytes g.pool → (a : Bool) → good_pool g.pool g.state ≡ a → (b : Bool) → is_well_formed g.pool g.state.used g.state.root ≡ b
        → pick a (done b) (refused 1) ≡ done true → (t : Shape) × TreeIn g t
    by_tests g B true p true q e =
        let f = formed-is g.state.used g.state.root g.pool q in
        (f.0, record { bytes = B; good = p; formed = f.1 })
    by_tests g B true p false q e = absurd (let w : value false ≡ value true = ap gives e in cc)
    by_tests g B false p b q e = absurd (let w : nothing ≡ value true = ap gives e in cc)

    only-tree : (g : Grown) → AreBytes g.pool → check_call g.pool g.state ≡ done true → (t : Shape) × TreeIn g t
    only-tree g B e = by_tests g B (good_pool g.pool g.state) refl (is_well_formed g.pool g.state.used g.state.root) refl e
