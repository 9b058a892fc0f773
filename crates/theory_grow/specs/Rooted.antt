-- Document 01, section 8, case P10: a root that divides, of number 3 and of number 0.
use Rattle.std.specs.Prelude.{◌≡◌, List, [], ◌∷◌, ℕ, ◌*◌, ◌≤◌, length}
use Rattle.store.specs.Le.{AreBytes}
use Rattle.page.specs.Page.{page}
use Rattle.page.specs.Header.{next_leaf}
use Rattle.inner.specs.Inner.{children_of}
use Rattle.tree.specs.Climb.{path_of}
use Rattle.page.specs.Pool.{Grown, grown}
use Rattle.tree_room.specs.Up.{divided_up}
use Rattle.tree_room.specs.declared.Planned.{Planned}

-- P10: "Root leaf 3 with 4 pages in use: new leaf 4, top 5, relocated 6, 7 in use; page 3 has children 6 and 4, and its bytes 8
-- to 11 stay 4"
pub record Pinned (h : Grown) : Type 0 where
  pub state : h.state ≡ record { root = 3; used = 7 }
  pub children : children_of (page h.pool 3) ≡ 6 ∷ 4 ∷ []
  pub next : next_leaf (page h.pool 3) ≡ 4

abbrev pub PinnedRoot : Type 0
PinnedRoot =
    (s : List ℕ) (plan : Planned) (n : ℕ) (v : List ℕ) → AreBytes s → AreBytes v → 7 * 4096 ≤ length s → plan.path ≡ path_of (3 ∷ [])
    → Pinned (divided_up plan 3 n v (grown s (record { root = 3; used = 4 })))

-- "Root leaf 0, 1 in use, divides to 3 in use, root 2"
abbrev pub MovedRoot : Type 0
MovedRoot =
    (s : List ℕ) (plan : Planned) (n : ℕ) (v : List ℕ) → plan.path ≡ path_of (0 ∷ [])
    → (divided_up plan 0 n v (grown s (record { root = 0; used = 1 }))).state ≡ record { root = 2; used = 3 }
