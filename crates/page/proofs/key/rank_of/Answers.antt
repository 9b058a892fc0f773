-- `page::key::rank_of` meets its contract. Assumes nothing.
use native.Mathlib.Omega.{arith}
use mir.Facts.{to_z-of_z, sfits_widen}
use mir.Syntax.{w64}
use mir.Val.{SFits}
use lib.IntN.{pos}
use Rattle.page.specs.Key.{rank_of}
use Rattle.page.proofs.KeyLaws.{rank_fits, sum_rank}
use Rattle.page.proofs.key.rank_of.Goals as goal

pub overflow_cast-result : goal.overflow_cast-result
overflow_cast-result c = rw (to_z-of_z c.ranges.key) (sfits_widen tt c.ranges.key)

pub overflow_add-result : goal.overflow_add-result
overflow_add-result c =
    let wide : SFits w64 c.args.key = sfits_widen tt c.ranges.key in
    rw (to_z-of_z c.ranges.key, to_z-of_z wide, sum_rank c.args.key c.ranges.key) (record { sfits = omega (arith, rank_fits c.args.key c.ranges.key) })

pub overflow_cast-result-2 : goal.overflow_cast-result-2
overflow_cast-result-2 c =
    let wide : SFits w64 c.args.key = sfits_widen tt c.ranges.key in
    let sum : SFits w64 (pos (rank_of c.args.key)) = record { sfits = omega (arith, rank_fits c.args.key c.ranges.key) } in
    rw (to_z-of_z c.ranges.key, to_z-of_z wide, sum_rank c.args.key c.ranges.key, to_z-of_z sum) (tt, record { fits = rank_fits c.args.key c.ranges.key })

pub returns : goal.returns
returns c =
    let wide : SFits w64 c.args.key = sfits_widen tt c.ranges.key in
    let sum : SFits w64 (pos (rank_of c.args.key)) = record { sfits = omega (arith, rank_fits c.args.key c.ranges.key) } in
    rw (to_z-of_z c.ranges.key, to_z-of_z wide, sum_rank c.args.key c.ranges.key, to_z-of_z sum)
