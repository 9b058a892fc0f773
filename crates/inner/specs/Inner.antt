-- An internal page (document 01, section 2): a child, then per key a signed key and a child; its keys and children as
-- lists, and its judgement (section 3: "1 to 510 non-decreasing keys").
use Rattle.std.specs.Prelude.{Result, Ok, Err, Bool, true, ◌&&◌, List, [], ◌∷◌, ℕ, zero, suc, ◌+◌, ◌*◌, leb, eqb}
use Rattle.row.specs.declared.Fault.{Fault}
use Rattle.store.specs.Pick.{pick}
use Rattle.store.specs.Le.{le_at}
use Rattle.page.specs.Header.{node_type, cell_count, header_size, node_internal}
use Rattle.page.specs.Key.{rank_at}
use Rattle.row.specs.Fault.{structural}

-- "At most 510 keys"
abbrev pub max_keys : ℕ
max_keys = 510

-- key i, by its rank, and child i; child i is left of key i
unfoldable pub key_at : List ℕ → ℕ → ℕ
key_at pg i = rank_at pg (16 + 8 * i)

unfoldable pub child_at : List ℕ → ℕ → ℕ
child_at pg i = le_at 4 pg (header_size + 8 * i)

-- n keys, and n children, from the i-th on
unfoldable pub keys_from : List ℕ → (i n : ℕ) → List ℕ
keys_from pg i zero = []
keys_from pg i (suc n) = key_at pg i ∷ keys_from pg (i + 1) n

unfoldable pub children_from : List ℕ → (i n : ℕ) → List ℕ
children_from pg i zero = []
children_from pg i (suc n) = child_at pg i ∷ children_from pg (i + 1) n

abbrev pub keys_of : List ℕ → List ℕ
keys_of pg = keys_from pg 0 (cell_count pg)

abbrev pub children_of : List ℕ → List ℕ
children_of pg = children_from pg 0 (cell_count pg + 1)

-- x, then l, never falls
unfoldable pub never_falls : ℕ → List ℕ → Bool
never_falls x [] = true
never_falls x (y ∷ ys) = leb x y && never_falls y ys

-- page p with the bytes pg: how many keys it has, or its fault. A rank is never below 0.
unfoldable pub judge_inner : List ℕ → ℕ → Result ℕ Fault
judge_inner pg p =
    pick (eqb (node_type pg) node_internal && (leb 1 (cell_count pg) && (leb (cell_count pg) max_keys && never_falls 0 (keys_of pg))))
    (Ok (cell_count pg))
    (Err (structural p))
