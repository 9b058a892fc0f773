-- A page's header (document 01, section 2): node type at 0 (0 internal, 1 leaf), is-root at 1, parent at 2 to 5,
-- cell count at 6 to 7, next leaf at 8 to 11; cells from 12.
use Rattle.std.specs.Prelude.{List, ℕ}
use Rattle.store.specs.Le.{le_at, put_at}

abbrev pub header_size : ℕ
header_size = 12

-- "cells over 4084 bytes" overfill a leaf: bytes 12 to 4095
abbrev pub leaf_room : ℕ
leaf_room = 4084

abbrev pub node_internal : ℕ
node_internal = 0

abbrev pub node_leaf : ℕ
node_leaf = 1

abbrev pub node_type : List ℕ → ℕ
node_type pg = le_at 1 pg 0

abbrev pub is_root : List ℕ → ℕ
is_root pg = le_at 1 pg 1

abbrev pub parent_of : List ℕ → ℕ
parent_of pg = le_at 4 pg 2

abbrev pub cell_count : List ℕ → ℕ
cell_count pg = le_at 2 pg 6

abbrev pub next_leaf : List ℕ → ℕ
next_leaf pg = le_at 4 pg 8

-- the page with a field set
abbrev pub with_node_type : ℕ → List ℕ → List ℕ
with_node_type v pg = put_at 1 pg 0 v

abbrev pub with_is_root : ℕ → List ℕ → List ℕ
with_is_root v pg = put_at 1 pg 1 v

abbrev pub with_parent : ℕ → List ℕ → List ℕ
with_parent v pg = put_at 4 pg 2 v

abbrev pub with_count : ℕ → List ℕ → List ℕ
with_count v pg = put_at 2 pg 6 v

abbrev pub with_next_leaf : ℕ → List ℕ → List ℕ
with_next_leaf v pg = put_at 4 pg 8 v
