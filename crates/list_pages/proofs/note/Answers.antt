-- `list_pages::note` meets its contract. Assumes nothing.
use Rattle.list_pages.proofs.Noting.{note-written, note_short}
use Rattle.std.proofs.Common.{rules}
use Rattle.list_pages.proofs.note.Goals as goal

pub returns-then-o-out : goal.returns-then-o-out
returns-then-o-out c = note-written _ _ _ _ c.mark.ensures (search rules) c.to_le_bytes.ensures c.write_record.ensures

pub returns-else-o-out : goal.returns-else-o-out
returns-else-o-out c = note_short _ _ _ _ c.mark.ensures (search rules)
