-- `store::run::zero_fill` meets its contract. Assumes nothing.
use mathlib.Core.Path.{ap, ◌∙◌}
use lib.ListN.{length-replicate}
use borrow.Rule.Slice.PartMut.{mid_len}
use Rattle.store.specs.Part.{zeros}
use Rattle.store.proofs.PutLaws.{put_back}
use Rattle.store.proofs.run.zero_fill.Goals as goal

pub returns : goal.returns
returns c = put_back _ _ _ _ (length-replicate _ 0) (c.fill.ensures.after (λ y e. e) ∙ ap zeros (mid_len _ _ _ c.requires.1))
