-- `list_versions::write_run` meets its contract: what is left to write, into the output as it is now, gives what all of it gives. Assumes nothing.
use mathlib.Core.Path.{refl, ap, ◌∙◌}
use Prim.Native.Nat.{◌+◌, ◌-◌}
use native.Mathlib.Omega.{arith}
use lib.ListN.{length}
use Rattle.store.specs.Part.{part}
use Rattle.store.proofs.PutLaws.{put-done}
use Rattle.list_versions.proofs.Recorded.{first_cell, no_cells, record_more}
use Rattle.std.proofs.Common.{rules}
use Rattle.list_versions.proofs.write_run.Goals as goal

pub loop-init : goal.loop-init
loop-init c = search rules

pub overflow_add-next : goal.overflow_add-next
overflow_add-next c = let f = first_cell _ (λ i. (c.type_inv.pg i).fits) _ (c.args.count - (c.loop.counter + 1)) _ (omega arith) c.loop.invariant.2 refl in omega arith

pub overflow_add-at : goal.overflow_add-at
overflow_add-at c = let f = first_cell _ (λ i. (c.type_inv.pg i).fits) _ (c.args.count - (c.loop.counter + 1)) _ (omega arith) c.loop.invariant.2 refl in omega arith

pub get32-requires : goal.get32-requires
get32-requires c = let f = first_cell _ (λ i. (c.type_inv.pg i).fits) _ (c.args.count - (c.loop.counter + 1)) _ (omega arith) c.loop.invariant.2 refl in omega arith

pub overflow_add-next-in-loop : goal.overflow_add-next-in-loop
overflow_add-next-in-loop c = let f = first_cell _ (λ i. (c.type_inv.pg i).fits) _ (c.args.count - (c.loop.counter + 1)) _ (omega arith) c.loop.invariant.2 c.get32.ensures in omega arith

pub slice_bounds-write_record-count : goal.slice_bounds-write_record-count
slice_bounds-write_record-count c = let f = first_cell _ (λ i. (c.type_inv.pg i).fits) _ (c.args.count - (c.loop.counter + 1)) _ (omega arith) c.loop.invariant.2 c.get32.ensures in omega arith

pub slice_bounds-write_record-start : goal.slice_bounds-write_record-start
slice_bounds-write_record-start c = let f = first_cell _ (λ i. (c.type_inv.pg i).fits) _ (c.args.count - (c.loop.counter + 1)) _ (omega arith) c.loop.invariant.2 c.get32.ensures in omega arith

pub slice_bounds-write_record-end : goal.slice_bounds-write_record-end
slice_bounds-write_record-end c = let f = first_cell _ (λ i. (c.type_inv.pg i).fits) _ (c.args.count - (c.loop.counter + 1)) _ (omega arith) c.loop.invariant.2 c.get32.ensures in omega arith

pub write_record-requires : goal.write_record-requires
unfolding part
write_record-requires c =
    let f = first_cell _ (λ i. (c.type_inv.pg i).fits) _ (c.args.count - (c.loop.counter + 1)) _ (omega arith) c.loop.invariant.2 c.get32.ensures in (omega arith, omega (arith, c.loop.invariant.1, c.loop.invariant.3))

pub overflow_add-to : goal.overflow_add-to
overflow_add-to c = let f = first_cell _ (λ i. (c.type_inv.pg i).fits) _ (c.args.count - (c.loop.counter + 1)) _ (omega arith) c.loop.invariant.2 c.get32.ensures in omega arith

pub overflow_sub-to : goal.overflow_sub-to
overflow_sub-to c = let f = first_cell _ (λ i. (c.type_inv.pg i).fits) _ (c.args.count - (c.loop.counter + 1)) _ (omega arith) c.loop.invariant.2 c.get32.ensures in omega arith

pub overflow_add-to-in-loop : goal.overflow_add-to-in-loop
overflow_add-to-in-loop c = let f = first_cell _ (λ i. (c.type_inv.pg i).fits) _ (c.args.count - (c.loop.counter + 1)) _ (omega arith) c.loop.invariant.2 c.get32.ensures in omega arith

pub loop-preserved : goal.loop-preserved
unfolding part
loop-preserved c =
    let f = first_cell _ (λ i. (c.type_inv.pg i).fits) _ (c.args.count - (c.loop.counter + 1)) _ (omega arith) c.loop.invariant.2 c.get32.ensures in (record_more _ _ _ _ _ (omega arith) (omega arith) c.write_record.ensures f.rest ∙ c.loop.invariant.0, omega arith, f.count, omega arith)

pub returns : goal.returns
returns c = let z = no_cells c.args.pg.now (c.args.count - c.loop.counter) c.loop.at (omega arith) in record { value = omega (arith, ap length z); out_after = put-done _ z c.loop.invariant.0 }
