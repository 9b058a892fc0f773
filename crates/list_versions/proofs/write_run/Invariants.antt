-- `list_versions::write_run` meets its contract: what is left to write, into the output as it is now, gives what all of it gives. Assumes nothing.
use mathlib.Core.Path.{◌≡◌}
use Prim.Native.Nat.{◌+◌, ◌-◌}
use lib.ListN.{length}
use Rattle.store.specs.Part.{put}
use Rattle.leaf.specs.Cells.{cells_of}
use Rattle.leaf.specs.Rows.{rows_of}
use Rattle.list_records.specs.Records.{records}
use Rattle.list_versions.proofs.write_run.Given as goal

abbrev pub invariant-loop : goal.invariant-loop
invariant-loop l = (put l.to (records (rows_of l.pg (l.count - l.counter) l.at)) l.out ≡ put l.o (records (rows_of l.pg l.count l.from)) l.initial.out) × (l.to + length (records (rows_of l.pg (l.count - l.counter) l.at)) ≡ l.o + length (records (rows_of l.pg l.count l.from))) × (length (cells_of l.pg (l.count - l.counter) l.at) ≡ l.count - l.counter) × (length l.out ≡ length l.initial.out)
