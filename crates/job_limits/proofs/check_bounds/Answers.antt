-- `job_limits::check_bounds` meets its contract, return by return. Assumes nothing.
use Rattle.answer.proofs.Passing.{none}
use Rattle.job.proofs.Colours.{bad_answers, good_passes}
use Rattle.job_limits.proofs.check_bounds.Goals as goal

pub returns-in-Some : goal.returns-in-Some
returns-in-Some c = bad_answers _ _ _ _ _ _ c.in-Some.ensures

pub returns-in-Some-bad_colour : goal.returns-in-Some-bad_colour
returns-in-Some-bad_colour c = good_passes _ _ _ _ _ _ c.in_default.ensures (bad_answers _ _ _ _ _ _ c.in-Some-bad_colour.ensures)

pub returns : goal.returns
returns c = good_passes _ _ _ _ _ _ c.in_default.ensures (good_passes _ _ _ _ _ _ c.in_default-bad_colour.ensures none)
