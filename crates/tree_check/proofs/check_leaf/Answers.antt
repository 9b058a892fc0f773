-- `tree_check::check_leaf` meets its contract: each way out is one law of Checking. Assumes nothing.
use native.Mathlib.Omega.{arith}
use Rattle.tree_check.proofs.Checking.{leaf-used, check_unsound, check-first, check-astray}
use Rattle.std.proofs.Common.{rules}
use Rattle.tree_check.proofs.check_leaf.Goals as goal
use Rattle.tree_check.proofs.check_leaf.Goals.{else-sound_leaf-via-then-sound_leaf+else-get_next_leaf-next, else-sound_leaf-via-else-sound_leaf}

pub page_of-requires : goal.page_of-requires
page_of-requires c = omega (arith, leaf-used _ _ _ _ _ _ c.sound_leaf.ensures c.if-sound_leaf.true)

pub returns-then-get_next_leaf-next : goal.returns-then-get_next_leaf-next
returns-then-get_next_leaf-next c = check-first _ _ _ _ _ _ _ c.sound_leaf.ensures c.if-sound_leaf.true c.page_of.ensures.0 c.get_next_leaf.ensures (search rules)

pub returns : goal.returns
returns c =
    elim c.else-sound_leaf.branch [
      | else-sound_leaf-via-then-sound_leaf+else-get_next_leaf-next w ↦ check-astray _ _ _ _ _ _ _ c.sound_leaf.ensures w.if-sound_leaf.true w.page_of.ensures.0 w.get_next_leaf.ensures w.if-get_next_leaf-next.false
      | else-sound_leaf-via-else-sound_leaf w ↦ check_unsound _ _ _ _ _ _ _ c.sound_leaf.ensures w.if-sound_leaf.false
    ]
