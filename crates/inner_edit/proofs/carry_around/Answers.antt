-- `inner_edit::carry_around` meets its contract: the three stores are one. Assumes nothing.
use mathlib.Core.Path.{refl}
use native.Mathlib.Omega.{arith}
use Rattle.inner_edit.proofs.Dividing.{carry_high}
use Rattle.inner_edit.proofs.carry_around.Goals as goal

pub returns : goal.returns
returns c = carry_high _ _ _ _ _ _ (omega arith) (omega arith) (omega arith) c.requires.4 _ (omega arith) refl c.shift.ensures c.put_pair.ensures c.shift-2.ensures
