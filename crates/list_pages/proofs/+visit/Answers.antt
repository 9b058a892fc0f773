-- `list_pages::visit` meets its contract: the children that are left, from the log as it is now, give what all give; a visit
-- has fewer levels below it than the one that calls it. Assumes nothing.
use Rattle.std.proofs.lemmas.Result.{err_from_is_err_and}
use mathlib.Core.Path.{◌≡◌, refl, ap, ◌∙◌}
use native.Mathlib.Omega.{arith}
use Prim.Native.Nat.{◌-◌}
use Rattle.list_pages.specs.Steps.Table.{cap_of}
use Rattle.list_pages.proofs.Lines.{line-longer}
use Rattle.list_pages.proofs.Tops.{told_of, page-is}
use Rattle.list_pages.proofs.Visits.{ended_bad, ended-ok, told_bad, told-ok, visit_bad, visit_skip, visit-page, kids_end, kids_bad, kids_on, visit_grows, cap_some, room_start, room-step}
use Rattle.std.proofs.Common.{rules}
use Rattle.list_pages.proofs.+visit.Goals as goal

pub returns-in_err-kids : goal.returns-in_err-kids
returns-in_err-kids t c =
    let r = err_from_is_err_and c.from_residual.result c.from_residual.ensures.1 in
    rw (r.1, r.2) (ended_bad c.args.seen.now c.args.out.now _ (visit_bad _ _ _ _ _ _ c.judge_top.ensures c.in_err-kids.was))

pub returns-in_default : goal.returns-in_default
returns-in_default t c = ended-ok _ _ _ (visit_skip _ _ _ _ _ _ c.judge_top.ensures (told_of c.in_ok-kids.was c.in_default.is))

pub note-requires : goal.note-requires
note-requires t c =
    let i = page-is _ _ _ _ _ _ c.judge_top.ensures (told_of c.in_ok-kids.was c.in-Some.is) in
    (omega (arith, i.in_use), omega (arith, cap_some (3 - c.args.above.len)))

pub loop-j-init : goal.loop-j-init
loop-j-init t c =
    let i = page-is _ _ _ _ _ _ c.judge_top.ensures (told_of c.in_ok-kids.was c.in-Some.is) in
    (i.few, i.deep, i.in_use, room_start (3 - c.args.above.len) c.args.count i c.requires.3, refl)

pub visit-requires : goal.visit-requires
visit-requires t c =
    let n = ap (λ x. x.len) c.longer-path.ensures in
    let next : 3 - c.longer-path.result.len ≡ 3 - c.args.above.len - 1 = omega arith in
    let cap = ap cap_of next in
    let e = room-step c.loop-j.j ((3 - c.args.above.len) - 1) c.loop-j-test.true in
    (omega arith, (c.requires.0, c.requires.1, omega arith, omega arith))

pub returns-in_err-listed : goal.returns-in_err-listed
returns-in_err-listed t c =
    let r = err_from_is_err_and c.from_residual-in_err-listed.result c.from_residual-in_err-listed.ensures.1 in
    let n = ap (λ x. x.len) c.longer-path.ensures in
    let next : 3 - c.longer-path.result.len ≡ 3 - c.args.above.len - 1 = omega arith in
    rw (r.1, r.2)
    (ended_bad c.visit.new.seen c.visit.new.out _
    (kids_bad _ _ _ _ _ _ c.page_of.ensures.0 _ c.loop-j-test.true c.child_at-child.ensures (rw next at (told_bad _ _ _ _ c.visit.ensures c.in_err-listed.was))
    ∙ c.loop-j.invariant.4
    ∙ visit-page _ _ _ _ _ _ c.judge_top.ensures (told_of c.in_ok-kids.was c.in-Some.is) (line-longer c.args.above c.longer-path.result c.args.p (omega arith) c.longer-path.ensures) c.note.ensures))

pub loop-j-preserved : goal.loop-j-preserved
loop-j-preserved t c =
    let n = ap (λ x. x.len) c.longer-path.ensures in
    let next : 3 - c.longer-path.result.len ≡ 3 - c.args.above.len - 1 = omega arith in
    let log = rw next at (told-ok _ _ _ _ c.visit.ensures c.in_ok-listed.was) in
    let e = room-step c.loop-j.j ((3 - c.args.above.len) - 1) c.loop-j-test.true in (
      omega arith,
      omega arith,
      c.loop-j.invariant.2,
      omega (arith, visit_grows _ _ _ _ _ _ log),
      kids_on _ _ _ _ _ _ c.page_of.ensures.0 _ c.loop-j-test.true c.child_at-child.ensures log ∙ c.loop-j.invariant.4,
    )

pub returns : goal.returns
returns t c =
    ended-ok _ _ _
    (kids_end _ _ _ _ _ _ _ (search rules)
    ∙ c.loop-j.invariant.4
    ∙ visit-page _ _ _ _ _ _ c.judge_top.ensures (told_of c.in_ok-kids.was c.in-Some.is) (line-longer c.args.above c.longer-path.result c.args.p (omega arith) c.longer-path.ensures) c.note.ensures)
