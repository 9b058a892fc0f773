-- `mvcc_entries::state_of` meets its contract: what the entry that the search finds says, and 0 where there is none.
-- Assumes nothing.
use Rattle.std.proofs.Common.{rules, ◌∙◌}
use Rattle.std.proofs.lemmas.List.Sorted.{answers_always}
use Rattle.mvcc_entries.specs.declared.Entry.{Entry}
use Rattle.mvcc_entries.proofs.Laws.{settled_found, state_missing}
use Rattle.mvcc_entries.proofs.state_of.Goals as goal

pub returns-in-Ok : goal.returns-in-Ok
returns-in-Ok c = c.settled.ensures ∙ settled_found _ _ c.requires _ (c.in-Ok.ensures.position (λ (e : Entry). e.tx) (answers_always _ _ _ (λ f a r g k. search rules)))

pub returns-in-Err : goal.returns-in-Err
returns-in-Err c = state_missing _ _ c.requires _ (c.in-Err.ensures.position (λ (e : Entry). e.tx) (answers_always _ _ _ (λ f a r g k. search rules)))
