-- The rules of every call without samples, with the room of this one. Assumes nothing.
use Prim.Native.Nat.{ℕ}
use mathlib.Core.Path.{◌≡◌, ap, ◌∙◌}
use mathlib.Core.Bool.{Bool}
use mathlib.Core.List.{List}
use lib.Ieee.{Float}
use Rattle.answer.specs.Refusals.{Answered}
use Rattle.job.specs.Job.{Job}
use Rattle.job.specs.Checks.{plain_answer}
use Rattle.assign_check.specs.Answer.{room_for, answer_for}

pub checked : (J : Job) (palette : List Float) (hints out : ℕ) (room : Bool) (r : Answered) → room ≡ room_for J.T hints out → r ≡ plain_answer J palette room → r ≡ answer_for J palette hints out
checked J palette hints out room r e f = f ∙ ap (plain_answer J palette) e
