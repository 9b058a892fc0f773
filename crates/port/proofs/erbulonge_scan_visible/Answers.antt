-- `port::erbulonge_scan_visible` meets its contract. Assumes nothing.
use mathlib.Core.Path.{◌∙◌}
use Rattle.port.proofs.Giving.{then_is, passed_list, scan_asked}
use Rattle.port.proofs.erbulonge_scan_visible.Goals as goal

pub returns : goal.returns
returns c = passed_list _ c.give.ensures (c.scan_visible.ensures ∙ scan_asked _ _ _ _ _ _ (c.then_some.ensures ∙ then_is _ _))
