-- What a plan is good for: where it finds every child in use and the pages it asks for are left, each store above the
-- division is inside the pool. This is why the writing calls judge before the first store and need no `requires`.
use Rattle.std.specs.Prelude.{Ok, ◌≡◌, List, ◌∷◌, ℕ, ◌+◌, ◌*◌, ◌≤◌, ◌<◌, length}
use Rattle.page.specs.Page.{page}
use Rattle.page.specs.Header.{node_type}
use Rattle.page.specs.declared.pool.State.{State}
use Rattle.tree.specs.Climb.{up, climb_of}
use Rattle.page.specs.Pool.{Grown}
use Rattle.tree_grow.specs.Steps.Safe.{Stands, AboveSafe}
use Rattle.tree_grow.specs.Plan.{division_of, pages_asked, plan_of}

-- what a climb from a leaf finds
abbrev pub ClimbStands : Type 0
ClimbStands =
    (used root p : ℕ) (s ps : List ℕ) → p < used → climb_of s used root p 3 ≡ up (p ∷ ps) → Stands used p ps s

-- the pool s with the leaf p divided, its right side in the page that was next: no other page in use is changed by that
pub record LeafDivided (s : List ℕ) (st : State) (p : ℕ) (g : Grown) : Type 0 where
  pub long : length g.pool ≡ length s
  pub same : (x : ℕ) → x < st.used → (x ≡ p → ⊥) → page g.pool x ≡ page s x
  pub leaf : node_type (page g.pool p) ≡ 1
  pub root : g.state.root ≡ st.root
  pub used : g.state.used ≡ st.used + 1

-- the pages that are asked for are left
abbrev pub Room : (asked : ℕ) → Grown → Type 0
Room asked g = (g.state.used + asked ≤ 65536) × ((g.state.used + asked) * 4096 ≤ length g.pool)

abbrev pub PlanIsSafe : Type 0
PlanIsSafe =
    (s : List ℕ) (st : State) (p sep : ℕ) (ps : List ℕ) (g : Grown) → p < st.used → node_type (page s p) ≡ 1
    → climb_of s st.used st.root p 3 ≡ up (p ∷ ps) → plan_of s st.used p ps ≡ Ok (division_of ps s)
    → LeafDivided s st p g → Room (pages_asked st.root (division_of ps s)) g → AboveSafe st.root p sep st.used ps g
