-- `list_records::write_record` meets its contract. Assumes nothing.
use Rattle.list_records.proofs.Recording.{record-written}
use Rattle.std.proofs.Common.{rules}
use Rattle.list_records.proofs.write_record.Goals as goal

pub returns : goal.returns
returns c = record-written _ _ _ _ (search rules) c.put32.ensures c.put16.ensures c.copy_in.ensures
