-- What a judgement of an insertion that is ok says of the pool, the data and the stores. Assumes nothing.
use Rattle.std.proofs.Common.{Option, None, Result, Ok, Err}
use mathlib.Core.Path.{◌≡◌, refl, sym, ◌∙◌}
use mathlib.Core.Bool.{Bool, true, false}
use mathlib.Core.List.{List}
use Prim.Native.Nat.{ℕ, ◌≤◌}
use borrow.Author.Tests.{leb-true}
use Rattle.page.specs.Pool.{good_pool}
use Rattle.page.specs.declared.pool.State.{State}
use Rattle.row.specs.Write.{cell_size}
use Rattle.row.specs.declared.Pointer.{Pointer}
use Rattle.mvcc.specs.Snapshot.{creator_of, Statuses}
use Rattle.tree_insert.specs.declared.ready.Ready.{Ready}
use Rattle.call_answers.specs.Answer.{refusal_of}
use Rattle.call_answers.specs.Names.{unless}
use Rattle.call_answers.specs.declared.Refusal.{Refusal}
use Rattle.call_answers.specs.declared.Refused.{Refused}
use Rattle.call_insert.specs.Insert.{version_ready, insert_ready}
use Rattle.tree_insert.proofs.Answering.{Storable, version_ok, new_ok}

-- what a judgement that is ok says, of data of len bytes and a cell of m
pub record Stores (s : List ℕ) (st : State) (key creator m len : ℕ) (r : Ready) : Type 0 where
  pub good : good_pool s st ≡ true
  pub short : len ≤ 4051
  pub storable : Storable s st key creator m r

-- a guard that did not refuse
passed : (b : Bool) (n : Refusal) (x : Result Ready Refused) {r : Ready} → unless b (Err (refusal_of n)) x ≡ Ok r → (b ≡ true) × (x ≡ Ok r)
passed true n x u = (refl, u)
passed false n x u = absurd (cc)

pub version_stores : (s : List ℕ) (st : State) (key creator : ℕ) (stamp : Option ℕ) (pointer : Option Pointer) (len : ℕ) {told : Result Ready Refused} {r : Ready}
    → told ≡ version_ready s st key creator stamp pointer len → told ≡ Ok r → Stores s st key creator (cell_size stamp pointer len) len r
unfolding version_ready
version_stores s st key creator stamp pointer len e u =
    let pool = passed _ _ _ (sym e ∙ u) in
    let row = passed _ _ _ pool.1 in
    record { good = pool.0; short = leb-true len 4051 row.0; storable = version_ok s st key creator (cell_size stamp pointer len) row.1 }

pub insert_stores : (s : List ℕ) (st : State) (key : ℕ) (cur : Option ℕ) (ss : Statuses) (len : ℕ) {told : Result Ready Refused} {r : Ready}
    → told ≡ insert_ready s st key cur ss len → told ≡ Ok r → Stores s st key (creator_of cur) (cell_size None None len) len r
unfolding insert_ready
insert_stores s st key cur ss len e u =
    let pool = passed _ _ _ (sym e ∙ u) in
    let list = passed _ _ _ pool.1 in
    let row = passed _ _ _ list.1 in
    record { good = pool.0; short = leb-true len 4051 row.0; storable = new_ok s st key cur ss (cell_size None None len) row.1 }
