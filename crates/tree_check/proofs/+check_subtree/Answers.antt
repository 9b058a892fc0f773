-- `tree_check::check_subtree` meets its contract: the levels below fall at each call; in its loop the children that are
-- left say what all of them say. Assumes nothing.
use mathlib.Core.Path.{◌∙◌}
use native.Mathlib.Omega.{arith}
use Prim.Native.Nat.{◌-◌}
use Rattle.std.proofs.Common.{rules}
use Rattle.tree_check.proofs.Checking.{inner_there, check-last, check_stray, check_kids, kids_end, kids_ill, kids_zero, kids_on}
use Rattle.tree_check.proofs.+check_subtree.Goals as goal

pub returns-then-below-eq0 : goal.returns-then-below-eq0
returns-then-below-eq0 t c = check-last _ _ _ _ _ _ _ _ (search rules) c.check_leaf.ensures

pub returns-in_err-n : goal.returns-in_err-n
returns-in_err-n t c = c.from_residual.ensures ∙ check_stray _ _ _ _ _ _ _ c.sound_inner.ensures (c.args.below - 1) (omega arith) c.in_err-n.was

pub page_of-pg-requires : goal.page_of-pg-requires
page_of-pg-requires t c = let h = inner_there _ _ _ _ _ _ c.sound_inner.ensures c.in_ok-n.was in omega (arith, h.0)

pub loop-j-init : goal.loop-j-init
loop-j-init t c = check_kids _ _ _ _ _ _ _ c.sound_inner.ensures (c.args.below - 1) (omega arith) c.in_ok-n.was c.page_of-pg.ensures.0

pub child_at-child-requires : goal.child_at-child-requires
child_at-child-requires t c = let h = inner_there _ _ _ _ _ _ c.sound_inner.ensures c.in_ok-n.was in (omega (arith, h.1), c.page_of-pg.ensures.1)

pub key_at-low-requires : goal.key_at-low-requires
key_at-low-requires t c = let h = inner_there _ _ _ _ _ _ c.sound_inner.ensures c.in_ok-n.was in (omega (arith, h.1), c.page_of-pg.ensures.1)

pub returns-in_err-link : goal.returns-in_err-link
returns-in_err-link t c =
    c.from_residual-in_err-link.ensures ∙ kids_ill _ _ _ _ _ (c.loop-j.j - 1) (omega arith) c.child_at-child.ensures c.key_at-low.ensures c.check_subtree.ensures c.in_err-link.was ∙ c.loop-j.invariant

pub returns-then-link-eq0 : goal.returns-then-link-eq0
returns-then-link-eq0 t c =
    kids_zero _ _ _ _ _ (c.loop-j.j - 1) (omega arith) c.child_at-child.ensures c.key_at-low.ensures c.check_subtree.ensures c.in_ok-link.was (search rules) ∙ c.loop-j.invariant

pub loop-j-preserved : goal.loop-j-preserved
loop-j-preserved t c =
    kids_on _ _ _ _ _ (c.loop-j.j - 1) (omega arith) c.child_at-child.ensures c.key_at-low.ensures c.check_subtree.ensures c.in_ok-link.was (search rules) ∙ c.loop-j.invariant

pub returns : goal.returns
returns t c = kids_end _ _ _ _ _ _ (search rules) c.child_at-child-2.ensures c.check_subtree-2.ensures ∙ c.loop-j.invariant
