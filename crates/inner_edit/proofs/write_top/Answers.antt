-- `inner_edit::write_top` meets its contract. Assumes nothing.
use mathlib.Core.Path.{◌∙◌}
use Rattle.inner_edit.specs.Edit.{top_page}
use Rattle.inner_edit.proofs.write_top.Goals as goal

pub returns : goal.returns
unfolding top_page
returns c = c.put32-2.ensures ∙ rw (c.put_rank.ensures, c.put32.ensures, c.set_cell_count.ensures, c.set_is_root.ensures)
