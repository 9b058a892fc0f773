-- What a judged status list gives its readers.
use Rattle.std.specs.Prelude.{◌≡◌, true, length}
use Rattle.mvcc.specs.Lists.{rising}
use Rattle.mvcc.specs.Snapshot.{Statuses}

-- what a judged status list gives its readers
pub record StatusesJudged (ss : Statuses) : Type 0 where
  pub rises : rising ss.ids ≡ true
  pub same : length ss.ids ≡ length ss.states
