-- `call_insert::insert_version_at` meets its contract: a judgement that is ok is stored. Assumes nothing.
use Rattle.call_insert.proofs.Calls.{version_stores}
use Rattle.call_insert.proofs.insert_version_at.Goals as goal

pub store_insert-requires : goal.store_insert-requires
store_insert-requires c =
    let q = version_stores _ _ _ _ _ _ _ c.version_ready.ensures c.in_ok-told.was in
    rw (← c.version.view_is)
    (record { st_value = (q.good, q.short); creator_value = q.storable.spots; body_value = q.storable.plans; plan_value = q.storable.fits })
