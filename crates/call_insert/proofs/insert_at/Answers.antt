-- `call_insert::insert_at` meets its contract: a judgement that is ok is stored. Assumes nothing.
use Rattle.call_insert.proofs.Calls.{insert_stores}
use Rattle.call_insert.proofs.insert_at.Goals as goal

pub store_insert-requires : goal.store_insert-requires
store_insert-requires c =
    let q = insert_stores _ _ _ _ _ _ c.insert_ready.ensures c.in_ok-told.was in
    record { st_value = (q.good, q.short); creator_value = rw c.creator_of.ensures q.storable.spots; body_value = q.storable.plans; plan_value = q.storable.fits }
