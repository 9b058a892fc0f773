-- Laws of the pool: each way out of its judgement, what a good one gives its readers, and what a fresh page is.
-- Assumes nothing.
use mathlib.Core.Path.{◌≡◌, ap, ◌∙◌}
use mathlib.Core.Bool.{true, false, ◌&&◌, and-eq-true_iff}
use mathlib.Core.List.{List}
use Prim.Native.Nat.{ℕ, ◌+◌, ◌-◌, ◌*◌, ◌/◌, ◌%◌, ◌≤◌, ◌<◌}
use native.Mathlib.Omega.{arith}
use borrow.Author.Tests.{eq-eqb, ne_eqb, le-leb, lt-leb, leb-true}
use lib.Dec.{leb, eqb}
use lib.ListN.{length, length-replicate}
use Rattle.store.specs.Part.{put, zeros}
use Rattle.page.specs.Page.{set_page}
use Rattle.page.specs.Pool.{good_pool, allocated, with_fresh, next_page}
use Rattle.page.specs.declared.pool.State.{State}
use Rattle.page.specs.declared.pool.Allocated.{Allocated}
use Rattle.store.proofs.PutLaws.{put-splice}

module _ (s : List ℕ) (st : State) where
  pub pool_ragged : (length s % 4096 ≡ 0 → ⊥) → false ≡ good_pool s st
  unfolding good_pool
  pool_ragged h = rw (ne_eqb _ _ h)

  pub pool-none : length s % 4096 ≡ 0 → length s / 4096 < 1 → false ≡ good_pool s st
  unfolding good_pool
  pool-none h k = simp (eq-eqb _ _ h, lt-leb _ _ k)

  pub pool_large : length s % 4096 ≡ 0 → 1 ≤ length s / 4096 → 65536 < length s / 4096 → false ≡ good_pool s st
  unfolding good_pool
  pool_large h k l = simp (eq-eqb _ _ h, le-leb _ _ k, lt-leb _ _ l)

  pub pool_in_use : length s % 4096 ≡ 0 → 1 ≤ length s / 4096 → length s / 4096 ≤ 65536 → leb st.used (length s / 4096) ≡ good_pool s st
  unfolding good_pool
  pool_in_use h k l = simp (eq-eqb _ _ h, le-leb _ _ k, le-leb _ _ l)

-- what a good pool gives its readers
pub record PoolIs (s : List ℕ) (st : State) : Type 0 where
  pub some : 1 ≤ length s / 4096
  pub few : length s / 4096 ≤ 65536
  pub in_use : st.used ≤ length s / 4096
  pub room : st.used * 4096 ≤ length s

pub pool-is : (s : List ℕ) (st : State) → good_pool s st ≡ true → PoolIs s st
unfolding good_pool
pool-is s st e =
    let a = (and-eq-true_iff (eqb (length s % 4096) 0) (leb 1 (length s / 4096) && (leb (length s / 4096) 65536 && leb st.used (length s / 4096)))).0 e in
    let b = (and-eq-true_iff (leb 1 (length s / 4096)) (leb (length s / 4096) 65536 && leb st.used (length s / 4096))).0 a.1 in
    let c = (and-eq-true_iff (leb (length s / 4096) 65536) (leb st.used (length s / 4096))).0 b.1 in
    let u = leb-true st.used (length s / 4096) c.1 in
    record { some = leb-true 1 (length s / 4096) b.0; few = leb-true (length s / 4096) 65536 c.0; in_use = u; room = omega arith }

pub alloc_page : (s : List ℕ) (st : State) {r : Allocated} → r ≡ allocated s st → r.page ≡ st.used
unfolding allocated next_page
alloc_page s st e = ap (λ (x : Allocated). x.page) e

pub fresh_done : (s : List ℕ) (st : State) {t : List ℕ} → t ≡ put (st.used * 4096) (zeros (st.used * 4096 + 4096 - st.used * 4096)) s → t ≡ with_fresh s st
unfolding with_fresh next_page set_page
fresh_done s st e =
    let n : st.used * 4096 + 4096 - st.used * 4096 ≡ 4096 = omega arith in
    e ∙ rw n (put-splice (st.used * 4096) 4096 (zeros 4096) s (length-replicate {A = ℕ} 4096 0))

-- what a walk over the pages in use asks of the pool
module _ (s : List ℕ) (st : State) (good : good_pool s st ≡ true) where
  pub pool_room : st.used * 4096 ≤ length s
  pool_room = (pool-is s st good).room

  pub pool_few : st.used ≤ 65536
  pool_few = let p = pool-is s st good in omega (arith, p.in_use, p.few)
