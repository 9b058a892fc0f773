-- `mvcc::JudgedSnapshot::sees` meets its contract, test by test.
-- Assumes nothing.
use mathlib.Core.Path.{sym, ap, ◌∙◌}
use mathlib.Core.Bool.{not}
use Rattle.std.proofs.Common.{rules}
use Rattle.mvcc.proofs.RuleLaws.{unseen_aborted, seen_own, seen_else, unseen_unfinished}
use Rattle.mvcc.proofs.JudgedSnapshot.sees.Goals as goal

pub returns-then-state-eq3 : goal.returns-then-state-eq3
returns-then-state-eq3 c = unseen_aborted _ _ _ _ _ c.state_of-state.ensures (search rules)

pub returns-then-is_current : goal.returns-then-is_current
returns-then-is_current c = ap not c.is_own-own.ensures ∙ seen_own _ _ _ _ _ c.state_of-state.ensures (search rules) (sym c.is_current.ensures ∙ c.if-is_current.true)

pub returns-then-committed_before : goal.returns-then-committed_before
returns-then-committed_before c =
    ap not c.hides-hidden.ensures
    ∙ seen_else _ _ _ _ _ c.state_of-state.ensures (search rules) (sym c.is_current.ensures ∙ c.if-is_current.false) (sym c.committed_before.ensures ∙ c.if-committed_before.true)

pub returns : goal.returns
returns c =
    unseen_unfinished _ _ _ _ _ c.state_of-state.ensures (search rules) (sym c.is_current.ensures ∙ c.if-is_current.false) (sym c.committed_before.ensures ∙ c.if-committed_before.false)
