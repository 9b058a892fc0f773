-- How a listing ends (document 01, sections 2 and 6): Short where it is longer than the output; "Done writes only the
-- listing's bytes at the start of the output"; any other end leaves the output as it was.
use Rattle.std.specs.Prelude.{Result, Ok, Err, List, ℕ, leb, length}
use Rattle.store.specs.Pick.{pick}
use Rattle.store.specs.Part.{put}
use Rattle.call_answers.specs.declared.Refusal.{Refusal}
use Rattle.call_answers.specs.declared.Refused.{Refused}
use Rattle.call_answers.specs.Answer.{refusal_of, Written, written}

-- the listing x into that output
unfoldable pub fitted : (x out : List ℕ) → Written (Result ℕ Refused)
fitted x out = pick (leb (length x) (length out)) (written (Ok (length x)) (put 0 x out)) (written (Err (refusal_of Refusal.Short)) out)
