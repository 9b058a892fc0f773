-- Document 01, section 8: "The P cases form one list, and a single theorem about the rules above covers it".
use Rattle.std.specs.Prelude.{Option, None, ◌≡◌, true, List, ℕ, length}
use Rattle.page.specs.Pool.{good_pool}
use Rattle.page.specs.declared.pool.State.{State}
use Rattle.row.specs.declared.Pointer.{Pointer}
use Rattle.row.specs.Write.{cell_size, max_data}
use Rattle.mvcc.specs.Snapshot.{good_statuses, Statuses}
use Rattle.mvcc.specs.Facts.{RulesHold}
use Rattle.leaf.specs.CutFacts.{CutCases}
use Rattle.leaf.specs.FindFacts.{LookupChooses}
use Rattle.inner_edit.specs.Facts.{EntryEnters, HalvesDivide}
use Rattle.tree.specs.Create.{rooted}
use Rattle.theory_grow.specs.Rooted.{PinnedRoot, MovedRoot}
use Rattle.tree_insert.specs.Ready.{new_at, version_at}
use Rattle.call_answers.specs.Answer.{refused, done, ended}
use Rattle.call_read.specs.Create.{create_call, has_page}
use Rattle.call_read.specs.Facts.{CreateIsEmpty, TieToFirst}
use Rattle.call_insert.specs.Insert.{version_ready, insert_version_call, insert_ready, insert_call}
use Rattle.call_clean.specs.Vacuum.{vacuum_call}
use Rattle.call_answers.specs.Names.{BadData}

-- P2: data of 4051 passes: it is not what an insertion is refused for; 4052 is BadData
pub record DataLimit : Type 0 where
  pub passes : (s : List ℕ) (st : State) (key : ℕ) (cur : Option ℕ) (ss : Statuses) → good_pool s st ≡ true → good_statuses ss ≡ true
      → insert_ready s st key cur ss max_data ≡ new_at s st key cur ss (cell_size None None max_data)
  pub version_passes : (s : List ℕ) (st : State) (key creator : ℕ) (stamp : Option ℕ) (pointer : Option Pointer) → good_pool s st ≡ true
      → version_ready s st key creator stamp pointer max_data ≡ version_at s st key creator (cell_size stamp pointer max_data)
  pub refused_data : (s : List ℕ) (st : State) (key : ℕ) (body : List ℕ) (cur : Option ℕ) (ss : Statuses) → good_pool s st ≡ true
      → good_statuses ss ≡ true → length body ≡ 4052 → insert_call s st key cur ss body ≡ ended (refused BadData) s
  pub version_refused : (s : List ℕ) (st : State) (key creator : ℕ) (stamp : Option ℕ) (pointer : Option Pointer) (body : List ℕ) → good_pool s st ≡ true
      → length body ≡ 4052 → insert_version_call s st key creator stamp pointer body ≡ ended (refused BadData) s

pub record Cases : Type 0 where
  -- P1: lookup Absent, listing 0 bytes; vacuum 0
  pub p1 : CreateIsEmpty
  pub p1_vacuum : (s : List ℕ) (st : State) (bound : ℕ) (ss : Statuses) → good_pool s st ≡ true → has_page s st ≡ true → good_statuses ss ≡ true
      → vacuum_call (create_call s st).pool (rooted s st) ss bound ≡ ended (done 0) (create_call s st).pool
  pub p2 : DataLimit
  -- P3: 510 keys fit, 511 do not
  pub p3_fits : EntryEnters
  pub p3_divides : HalvesDivide
  -- P4, P5, P6
  pub p4_p5_p6 : CutCases
  -- P7, P8
  pub p7_p8 : RulesHold
  -- P9: lookup last, listing first
  pub p9_lookup : LookupChooses
  pub p9_listing : TieToFirst
  pub p10 : PinnedRoot
  pub moved : MovedRoot
