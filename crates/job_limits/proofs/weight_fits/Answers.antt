-- `job_limits::weight_fits` meets its contract: both comparisons, the first one decided by the branch. Assumes nothing.
use Rattle.job.specs.Checks.{weight_fits}
use Rattle.job_limits.proofs.weight_fits.Goals as goal

pub returns-then-w : goal.returns-then-w
unfolding weight_fits
returns-then-w c = simp c.if-w.true

pub returns-else-w : goal.returns-else-w
unfolding weight_fits
returns-else-w c = simp c.if-w.false
