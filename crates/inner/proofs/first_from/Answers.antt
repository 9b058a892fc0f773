-- `inner::first_from` meets its contract: std's search by halves among the pairs of key and child. Assumes nothing.
use Rattle.std.proofs.Common.{rules, arith}
use Rattle.std.proofs.lemmas.Fn.{always_returns_same}
use Rattle.inner.proofs.Pairs.{is_below, first_pair}
use Rattle.inner.proofs.first_from.Goals as goal

pub returns : goal.returns
returns c =
    let chunks = c.as_chunks.ensures in
    first_pair c.args.n c.args.pg.now _ (omega arith) (omega arith) chunks.front c.args.bound c.requires.2 (omega (arith, chunks.front_len)) _
    c.partition_point.ensures.bound
    (c.partition_point.ensures.partitioned (is_below c.args.bound) (always_returns_same _ _ _ (λ a r f k. search rules)))
