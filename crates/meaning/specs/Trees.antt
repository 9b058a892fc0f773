-- A well-formed tree in a pool (document 01, sections 3 and 6), as a fact about the pool's pages and not as check's answer.
use Rattle.std.specs.Prelude.{◌≡◌, true}
use Rattle.store.specs.Le.{AreBytes}
use Rattle.page.specs.Pool.{good_pool, Grown}
use Rattle.theory_tree.specs.Shape.{Shape, WellFormed}
use Rattle.theory_tree.specs.View.{view}
use Rattle.call_answers.specs.Answer.{done}
use Rattle.call_read.specs.Check.{check_call}

-- the pool is bytes and no BadPool, and its pages hold the tree t
pub record TreeIn (g : Grown) (t : Shape) : Type 0 where
  pub bytes : AreBytes g.pool
  pub good : good_pool g.pool g.state ≡ true
  pub formed : WellFormed (view g.pool) g.state.root g.state.used t

-- "Check answers yes exactly for this"
pub record CheckIs : Type 0 where
  pub yes : (g : Grown) (t : Shape) → TreeIn g t → check_call g.pool g.state ≡ done true
  pub only : (g : Grown) → AreBytes g.pool → check_call g.pool g.state ≡ done true → (t : Shape) × TreeIn g t
