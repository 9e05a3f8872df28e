-- What the call `assign` is answered, from a job, a palette and the lengths of both lent slices. Definitions only. Assumes nothing.
use Rattle.std.specs.Prelude.{ℕ, Bool, ◌&&◌, List, eqb, Float}
use Rattle.answer.specs.Refusals.{Answered}
use Rattle.job.specs.Job.{Job}
use Rattle.job.specs.Checks.{plain_answer}

-- a place for each tile in both
unfoldable pub room_for : ℕ → ℕ → ℕ → Bool
room_for t hints out = eqb hints t && eqb out t

abbrev pub answer_for : Job → List Float → ℕ → ℕ → Answered
answer_for J palette hints out = plain_answer J palette (room_for J.T hints out)
