-- `mvcc_entries::entries_are_good` meets its contract. Invariant: the flag, that what is left rises after the entry
-- before it, and that what is left is states, say together what the whole list says. Assumes nothing.
use Rattle.std.proofs.Common.{sym, ◌∙◌}
use Rattle.mvcc_entries.proofs.Judging.{judged-long, judged-none, judged-start, judged-turn, judged-end}
use Rattle.mvcc_entries.proofs.entries_are_good.Goals as goal

pub returns-then-es-gt-MAX_STATUSES : goal.returns-then-es-gt-MAX_STATUSES
returns-then-es-gt-MAX_STATUSES c = judged-long _ c.if-es-gt-MAX_STATUSES.true

pub returns-in_default : goal.returns-in_default
returns-in_default c = judged-none _ c.in_default.ensures.cases

pub loop-entry-init : goal.loop-entry-init
loop-entry-init c = judged-start _ _ _ _ c.in-Some.ensures.cases.0 c.if-es-gt-MAX_STATUSES.false c.is_state-ok.ensures

pub loop-entry-preserved : goal.loop-entry-preserved
loop-entry-preserved c =
    let at = c.loop-entry in
    at.invariant ∙ judged-turn c.in-Some.rest.now at.ok at.last at.entry-index _ c.is_state.ensures c.loop-entry-test.true

pub returns : goal.returns
returns c =
    let at = c.loop-entry in
    sym (at.invariant ∙ judged-end c.in-Some.rest.now at.ok at.last at.entry-index c.loop-entry-test.false)
