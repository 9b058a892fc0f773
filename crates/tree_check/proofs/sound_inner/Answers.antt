-- `tree_check::sound_inner` meets its contract: each way out is one law of Checking. Assumes nothing.
use mathlib.Core.Path.{◌∙◌}
use native.Mathlib.Omega.{arith}
use Rattle.tree_check.proofs.Checking.{inner_unused, inner_orphan, inner_bad, inner_kept, inner_low, inner_high, inner_ok}
use Rattle.std.proofs.Common.{rules}
use Rattle.tree_check.proofs.sound_inner.Goals as goal
use Rattle.tree_check.proofs.sound_inner.Goals.{then-key_at-lo-via-then-key_at-lo, then-key_at-lo-via-else-key_at-lo+then-hi-key_at}

pub returns-then-used-p : goal.returns-then-used-p
returns-then-used-p c = inner_unused _ _ _ _ _ _ (search rules)

pub returns-then-get_parent-parent : goal.returns-then-get_parent-parent
returns-then-get_parent-parent c = inner_orphan _ _ _ _ _ _ (search rules) c.page_of-pg.ensures.0 c.get_parent.ensures (search rules)

pub returns-in_err-n : goal.returns-in_err-n
returns-in_err-n c = c.from_residual.ensures ∙ inner_bad _ _ _ _ _ _ (search rules) c.page_of-pg.ensures.0 c.get_parent.ensures (search rules) c.judge_inner.ensures c.ok.ensures.value c.in_err-n.was

pub overflow_sub-n : goal.overflow_sub-n
overflow_sub-n c = (inner_kept _ _ c.judge_inner.ensures c.ok.ensures.value c.in_ok-n.was).some

pub key_at-requires-else-key_at-lo : goal.key_at-requires-else-key_at-lo
key_at-requires-else-key_at-lo c = let i = inner_kept _ _ c.judge_inner.ensures c.ok.ensures.value c.in_ok-n.was in (omega (arith, i.some, i.few), c.page_of-pg.ensures.1)

pub returns-then-key_at-lo : goal.returns-then-key_at-lo
returns-then-key_at-lo c =
    elim c.then-key_at-lo.branch [
      | then-key_at-lo-via-then-key_at-lo w ↦ inner_low _ _ _ _ _ _ (search rules) c.page_of-pg.ensures.0 c.get_parent.ensures (search rules) c.judge_inner.ensures c.ok.ensures.value c.in_ok-n.was c.key_at.ensures w.if-key_at-lo.true
      | then-key_at-lo-via-else-key_at-lo+then-hi-key_at w ↦ inner_high _ _ _ _ _ _ (search rules) c.page_of-pg.ensures.0 c.get_parent.ensures (search rules) c.judge_inner.ensures c.ok.ensures.value c.in_ok-n.was w.key_at-else-key_at-lo.ensures w.if-hi-key_at.true
    ]

pub returns : goal.returns
returns c = inner_ok _ _ _ _ _ _ (search rules) c.page_of-pg.ensures.0 c.get_parent.ensures (search rules) c.judge_inner.ensures c.ok.ensures.value c.in_ok-n.was c.key_at.ensures (search rules) c.key_at-else-key_at-lo.ensures (search rules)
