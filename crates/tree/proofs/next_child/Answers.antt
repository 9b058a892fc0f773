-- `tree::next_child` meets its contract: each way out is one law of Ways. Assumes nothing.
use Rattle.tree.proofs.Ways.{child_search, child_insert, child_first}
use native.Mathlib.Omega.{arith}
use Rattle.tree.proofs.next_child.Goals as goal

pub leftmost_child_for_key-requires : goal.leftmost_child_for_key-requires
leftmost_child_for_key-requires c = (omega arith, c.page_of-pg.ensures.1, rw c.page_of-pg.ensures.0 c.requires.2)

pub child_for_key-requires : goal.child_for_key-requires
child_for_key-requires c = (omega arith, c.page_of-pg.ensures.1, rw c.page_of-pg.ensures.0 c.requires.2)

pub returns-in-Search : goal.returns-in-Search
returns-in-Search c = child_search _ _ _ c.page_of-pg.ensures.0 c.in-Search.is c.leftmost_child_for_key.ensures.0 c.child_at.ensures

pub returns-in-Insert : goal.returns-in-Insert
returns-in-Insert c = child_insert _ _ _ c.page_of-pg.ensures.0 c.in-Insert.is c.child_for_key.ensures.0 c.child_at-in-Insert.ensures

pub returns-in-First : goal.returns-in-First
returns-in-First c = child_first _ _ _ c.page_of-pg.ensures.0 c.in-First.is c.child_at-in-First.ensures
