-- A row is a cell without its places: key, creator, stamp, pointer and data. The size of its cell, and that cell's bytes
-- (document 01, section 2).
use Rattle.std.specs.Prelude.{Option, List, ℕ, length}
use Rattle.row.specs.Write.{cell_bytes, cell_size}
use Rattle.row.specs.declared.Pointer.{Pointer}

pub record Row : Type 0 where
  pub key : ℕ
  pub creator : ℕ
  pub stamp : Option ℕ
  pub pointer : Option Pointer
  pub body : List ℕ

abbrev pub row_size : Row → ℕ
row_size r = cell_size r.stamp r.pointer (length r.body)

abbrev pub row_bytes : Row → List ℕ
row_bytes r = cell_bytes r.key r.creator r.stamp r.pointer r.body
