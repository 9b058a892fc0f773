-- `list_pages::visit` meets its contract: the children that are left, from the log as it is now, give what all give; a visit
-- has fewer levels below it than the one that calls it. Assumes nothing.
use mathlib.Core.Path.{◌≡◌}
use Prim.Native.Nat.{◌+◌, ◌-◌, ◌*◌, ◌≤◌, ◌<◌}
use Rattle.page.specs.Page.{page}
use Rattle.list_pages.specs.Steps.Table.{log_of, line_of}
use Rattle.list_pages.proofs.Visits.{kids_of, room}
use Rattle.list_pages.proofs.+visit.Given as goal

abbrev pub decreases-visit : goal.decreases-visit
decreases-visit l = 3 - l.above.len

abbrev pub invariant-loop-j : goal.invariant-loop-j
invariant-loop-j l =
    (l.j ≤ 511)
    × (l.j ≤ 511 * (3 - l.fn.above.len))
    × (l.p < l.used)
    × (l.listed + room l.j ((3 - l.fn.above.len) - 1) ≤ 4294967296)
    × (kids_of ((3 - l.fn.above.len) - 1) l.used l.pool (line_of l.path) l.j (page l.pool l.p) (log_of l.listed l.seen l.out) ≡ kids_of ((3 - l.fn.above.len) - 1) l.used l.pool (line_of l.path) l.kids (page l.pool l.p) (log_of (l.count + 1) l.initial.seen l.initial.out))
