-- `call_stamp::claim_at` meets its contract: what is ready can be stored. Assumes nothing.
use mathlib.Core.Path.{sym, ◌∙◌}
use Rattle.call_stamp.proofs.Stamping.{claim-ok}
use Rattle.call_stamp.proofs.claim_at.Goals as goal

pub store_stamp-requires : goal.store_stamp-requires
store_stamp-requires c =
    let ready = claim-ok _ _ _ _ _ (sym c.claim_ready.ensures ∙ c.in_ok-marking.was) in
    record { st_value = ready.pool; cell_met = (ready.met, ready.is); t_value = (ready.plans, ready.fits) }
