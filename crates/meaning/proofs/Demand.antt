-- Demand 3, both halves, and what it rests on, put together. Assumes nothing.
use Rattle.mvcc.specs.Snapshot.{no_statuses}
use Rattle.meaning.specs.Demand.{Effect, Commute, FirstClaims}
use Rattle.meaning.specs.Example.{SecondWarned, teacher}
use Rattle.meaning.proofs.RefusingWrites.{writes-refuse}
use Rattle.meaning.proofs.Reading.{lookup-is}
use Rattle.meaning.proofs.Changing.{effect_from}
use Rattle.meaning.proofs.Cleaning.{effect_removes}
use Rattle.meaning.proofs.Commuting.{commute_from}
use Rattle.meaning.proofs.Claiming.{first_from}

pub effect : Effect
effect = effect_from (λ key g t tree fits roomy. effect_removes key g t tree)

pub commute : Commute
commute = commute_from effect

pub first-claims : FirstClaims
first-claims = first_from effect lookup-is writes-refuse

pub second_warned : SecondWarned
second_warned x =
    first-claims x.pool x.shape 7 (teacher 15) (teacher 16) no_statuses x.tree x.first_fits x.second_fits x.apart x.second_after
    x.first_after x.first_done x.second_done x.same
