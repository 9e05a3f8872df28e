-- `job_check::check_places` meets its contract, return by return. Assumes nothing.
use mathlib.Core.Bool.{not}
use mathlib.Core.Path.{ap}
use Rattle.answer.proofs.Passing.{refuses, passes, none}
use Rattle.job.proofs.Colours.{bad_answers, good_passes}
use Rattle.job_check.proofs.check_places.Goals as goal

pub returns-in-Some : goal.returns-in-Some
returns-in-Some c = bad_answers _ _ _ _ _ _ c.in-Some.ensures

pub returns-then-not-samples_fit : goal.returns-then-not-samples_fit
returns-then-not-samples_fit c = good_passes _ _ _ _ _ _ c.in_default.ensures (refuses _ _ _ c.samples_fit.ensures (ap not c.if-not-samples_fit.true))

pub returns : goal.returns
returns c = good_passes _ _ _ _ _ _ c.in_default.ensures (passes _ _ _ _ c.samples_fit.ensures (ap not c.if-not-samples_fit.false) none)
