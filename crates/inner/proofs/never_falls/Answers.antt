-- `inner::never_falls` meets its contract: the flag and what is left say what the whole says. Assumes nothing.
use mathlib.Core.Path.{sym, ◌∙◌}
use native.Mathlib.Omega.{arith}
use Rattle.inner.proofs.Routing.{falls-turn, falls-end}
use Rattle.inner.proofs.never_falls.Goals as goal

pub loop-i-preserved : goal.loop-i-preserved
loop-i-preserved c =
    let l = c.loop-i in
    l.invariant ∙ falls-turn l.ok _ _ l.i _ _ _ (omega arith) c.key_at-key.ensures

pub returns : goal.returns
returns c = sym (c.loop-i.invariant ∙ falls-end _ _ _ _ _ (omega arith))
