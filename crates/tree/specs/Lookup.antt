-- From the root to what a key's chain says (document 01, sections 5 and 6): down by search, then along the chain. A fault on
-- the way down is the walk's.
use Rattle.std.specs.Prelude.{Result, Err, Bool, List, ℕ, ◌+◌, ◌*◌}
use Rattle.row.specs.declared.Fault.{Fault}
use Rattle.leaf.specs.Find.{Best}
use Rattle.row.specs.declared.Version.{Version}
use Rattle.row.specs.declared.Cell.{Cell}
use Rattle.tree.specs.Descend.{descend_of, on_leaf}
use Rattle.tree.specs.Chain.{best_along, test_along}
use Rattle.tree.specs.declared.Route.{Route}
use Rattle.mvcc.specs.Snapshot.{Snapshot}

unfoldable pub best_in_tree : List ℕ → (used root key : ℕ) → Snapshot → (ℕ → ℕ) → Result Best Fault
best_in_tree s used root key sn st =
    on_leaf (λ p. best_along s used p key sn st) (λ f. Err f) (descend_of s used root (Route.Search key) 3)

unfoldable pub test_in_tree : List ℕ → (used root key : ℕ) → Snapshot → (ℕ → ℕ) → Bool → (seen : ℕ) → Result Bool Fault
test_in_tree s used root key sn st claiming seen =
    on_leaf (λ p. test_along s used p key sn st claiming seen) (λ f. Err f) (descend_of s used root (Route.Search key) 3)

-- "A returned version's data is that part of the pool, given by start and length."
abbrev pub in_pool : ℕ → Cell → Version
in_pool p c =
    record {
      creator = c.version.creator;
      stamp = c.version.stamp;
      pointer = c.version.pointer;
      start = p * 4096 + c.version.start;
      len = c.version.len;
    }
