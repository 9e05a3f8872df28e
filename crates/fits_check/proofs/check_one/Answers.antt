-- `fits_check::check_one` meets its contract: the first rule is its own, the rest are those of every call without samples. Assumes nothing.
use Rattle.fits_check.proofs.Checks.{one-many, one-checked}
use Rattle.fits_check.proofs.check_one.Goals as goal

pub returns-then-job-ne1 : goal.returns-then-job-ne1
returns-then-job-ne1 c = one-many _ _ _ c.if-job-ne1.true

pub returns : goal.returns
returns c = one-checked _ _ _ c.if-job-ne1.false _ c.check_job.ensures
