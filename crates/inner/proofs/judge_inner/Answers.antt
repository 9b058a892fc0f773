-- `inner::judge_inner` meets its contract: each way out is one law of Routing. Assumes nothing.
use Rattle.std.proofs.Common.{ℕ, Result, Err, rules}
use mathlib.Core.Path.{◌≡◌, ap, ◌∙◌}
use native.Mathlib.Omega.{arith}
use Rattle.row.specs.declared.Fault.{Fault}
use Rattle.inner.proofs.Routing.{judge_kind, judge_none, judge_many, judge_ok, judge_falls}
use Rattle.inner.proofs.judge_inner.Goals as goal

bad-is : {f g : Fault} → f ≡ g → ◌≡◌ {A = Result ℕ Fault} (Err f) (Err g)
bad-is e = ap (λ (x : Fault). Err x) e

pub returns-then-get_node_type-ne-NODE_INTERNAL : goal.returns-then-get_node_type-ne-NODE_INTERNAL
returns-then-get_node_type-ne-NODE_INTERNAL c = bad-is c.structural_fault-bad.ensures ∙ judge_kind _ _ (λ e. omega arith)

pub returns-then-n-lt1 : goal.returns-then-n-lt1
returns-then-n-lt1 c = bad-is c.structural_fault-bad.ensures ∙ judge_none _ _ (omega arith) (omega arith)

pub returns-then-n-gt-MAX_KEYS : goal.returns-then-n-gt-MAX_KEYS
returns-then-n-gt-MAX_KEYS c = bad-is c.structural_fault-bad.ensures ∙ judge_many _ _ (omega arith) (omega arith) (omega arith)

pub returns-then-never_falls : goal.returns-then-never_falls
returns-then-never_falls c = judge_ok _ _ (omega arith) (search rules) (omega arith) (omega arith) c.never_falls.ensures c.if-never_falls.true

pub returns : goal.returns
returns c = bad-is c.structural_fault-bad.ensures ∙ judge_falls _ _ (omega arith) (search rules) (omega arith) (omega arith) c.never_falls.ensures c.if-never_falls.false
