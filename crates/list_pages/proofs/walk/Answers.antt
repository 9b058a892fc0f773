-- `list_pages::walk` meets its contract. Assumes nothing.
use mathlib.Core.Path.{refl}
use Rattle.store.specs.Part.{zeros}
use Rattle.list_pages.specs.Steps.Table.{cap_of}
use Rattle.store.proofs.PutLaws.{part_none}
use Rattle.std.proofs.Common.{rules}
use Rattle.list_pages.proofs.walk.Goals as goal

pub visit-requires : goal.visit-requires
unfolding cap_of
visit-requires c = search rules

pub returns : goal.returns
returns c = rw (part_none 0 0 (zeros 4) refl) at c.visit.ensures
