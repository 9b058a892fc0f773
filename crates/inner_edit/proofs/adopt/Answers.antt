-- `inner_edit::adopt` meets its contract: what is left, from the pool as it is now, gives what all of it gives. Assumes nothing.
use mathlib.Core.Path.{◌≡◌, refl, ◌∙◌}
use Prim.Native.Nat.{◌+◌, ◌-◌}
use native.Mathlib.Omega.{arith}
use Rattle.inner_edit.proofs.Editing.{adopt-here, adopt_safe, adopt-turn, adopt-end}
use Rattle.inner_edit.proofs.adopt.Goals as goal

pub loop-k-init : goal.loop-k-init
loop-k-init c =
    let e : c.args.i + c.args.n - c.args.i ≡ c.args.n = omega arith in
    rw e (c.requires.2, refl)

pub adopt_one-requires : goal.adopt_one-requires
adopt_one-requires c =
    let l = c.loop-k in
    adopt-here _ (c.args.i + c.args.n - (l.k + 1)) l.k _ _ l.pool (omega arith) c.page_of.ensures.0 c.child_at-c.ensures l.invariant.0

pub loop-k-preserved : goal.loop-k-preserved
loop-k-preserved c =
    let l = c.loop-k in (
      adopt_safe _ _ l.k _ _ l.pool (omega arith) c.page_of.ensures.0 c.child_at-c.ensures c.adopt_one.ensures l.invariant.0,
      adopt-turn _ _ l.k _ _ l.pool (omega arith) c.page_of.ensures.0 c.child_at-c.ensures c.adopt_one.ensures ∙ l.invariant.1,
    )

pub returns : goal.returns
returns c = adopt-end _ _ _ _ _ (omega arith) ∙ c.loop-k.invariant.1
