-- The way out of the making of a root: its state and its pool, one law each. Assumes nothing.
use mathlib.Core.Path.{◌≡◌, ap, ◌∙◌}
use mathlib.Core.List.{List}
use Prim.Native.Nat.{ℕ, ◌+◌, ◌-◌, ◌*◌}
use borrow.Rule.Slice.PartMut.{mid_of, put_mid}
use Rattle.page.specs.Pool.{allocated, next_page, with_fresh}
use Rattle.page.specs.Header.{with_node_type, with_is_root}
use Rattle.page.specs.declared.pool.State.{State}
use Rattle.page.specs.declared.pool.Allocated.{Allocated}
use Rattle.tree.specs.Create.{rooted, created_pool}
use Rattle.page.proofs.PageLaws.{back_page, lent_page}

module _ (s : List ℕ) (st : State) {f : Allocated} (given : f ≡ allocated s st) where
  pub root-state : record { root = f.page; used = f.state.used } ≡ rooted s st
  unfolding allocated
  root-state = ap (λ (x : Allocated). record { root = x.page; used = x.state.used }) given

  pub root-done : {t y : List ℕ} → t ≡ with_fresh s st
      → y ≡ with_is_root 1 (with_node_type 1 (mid_of (f.page * 4096) (f.page * 4096 + 4096 - f.page * 4096) t))
      → put_mid (f.page * 4096) (f.page * 4096 + 4096 - f.page * 4096) t y ≡ created_pool s st
  unfolding created_pool allocated
  root-done {t} {y} e q =
      let n : f.page ≡ next_page s st = ap (λ (x : Allocated). x.page) given in
      back_page f.page t y ∙ rw (q, lent_page f.page t, n, e)
