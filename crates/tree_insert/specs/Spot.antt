-- Where a new version goes (document 01, section 5): down from the root by the insertion rule, and in the leaf after equals
-- of its key and creator. The leaf is judged whole.
use Rattle.std.specs.Prelude.{Result, Ok, Err, List, ℕ}
use Rattle.row.specs.declared.Fault.{Fault}
use Rattle.leaf.specs.declared.place.Place.{Place}
use Rattle.tree_insert.specs.declared.Spot.{Spot}
use Rattle.page.specs.Page.{page}
use Rattle.leaf.specs.Place.{place_leaf}
use Rattle.tree.specs.Descend.{descend_of, on_leaf}
use Rattle.tree.specs.declared.Route.{Route}

-- the place in page p, if the leaf is judged well
abbrev pub spot_in : (p : ℕ) → Result (Place × ℕ) Fault → Result Spot Fault
spot_in p (Ok (here, e)) = Ok (record { leaf = p; place = here; end = e })
spot_in p (Err f) = Err f

unfoldable pub spot_of : List ℕ → (used root key creator : ℕ) → Result Spot Fault
spot_of s used root key creator =
    on_leaf (λ p. spot_in p (place_leaf (page s p) p key creator)) (λ f. Err f) (descend_of s used root (Route.Insert key) 3)
