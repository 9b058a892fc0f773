-- A call on a tree changes that tree's pages and pages that it takes, and no other page in use.
use Rattle.std.specs.Prelude.{◌≡◌, false, List, ℕ, ◌<◌}
use Rattle.page.specs.Page.{page}
use Rattle.mvcc.specs.Lists.{mem}
use Rattle.page.specs.Pool.{Grown}
use Rattle.call_clean.specs.Vacuum.{vacuum_call}
use Rattle.theory_tree.specs.Shape.{Shape, pages_in}
use Rattle.meaning.specs.Trees.{TreeIn}
use Rattle.meaning.specs.Change.{Change, Fits, run}
use Rattle.mvcc.specs.Snapshot.{Statuses}

-- every page in use that is none of the tree's is as it was
abbrev pub Elsewhere : Shape → (used : ℕ) → (before after : List ℕ) → Type 0
Elsewhere t used before after = (x : ℕ) → x < used → mem x (pages_in t) ≡ false → page after x ≡ page before x

pub record Framed : Type 0 where
  pub changes : (a : Change) (g : Grown) (t : Shape) → TreeIn g t → Fits a → Elsewhere t g.state.used g.pool (run a g).after.pool
  pub vacuums : (g : Grown) (t : Shape) (bound : ℕ) (ss : Statuses) → TreeIn g t
      → Elsewhere t g.state.used g.pool (vacuum_call g.pool g.state ss bound).pool
