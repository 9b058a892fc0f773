-- A flag's words are put. Assumes nothing.
use Rattle.std.proofs.Common.{◌≡◌, Bool, true, false, refl}
use mathlib.Core.Path.{◌∙◌}
use mir.Val.{bool_byte}
use Rattle.store.specs.Pick.{pick}
use Rattle.port.proofs.Giving.{flag_put}
use Rattle.port.proofs.BoolWords.put.Goals as goal

bit : (b : Bool) → bool_byte b ≡ pick b 1 0
bit true = refl
bit false = refl

pub returns : goal.returns
returns c = flag_put _ _ _ c.requires (c.from.ensures ∙ bit c.args.self)
