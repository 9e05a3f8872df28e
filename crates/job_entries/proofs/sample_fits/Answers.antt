-- `job_entries::sample_fits` meets its contract: both tests, the first one decided by the branch. Assumes nothing.
use borrow.Author.Tests.{le-ltb, lt-ltb}
use Rattle.job.specs.Checks.{sample_test}
use Rattle.job_entries.proofs.sample_fits.Goals as goal

pub returns-then-tile-job : goal.returns-then-tile-job
unfolding sample_test
returns-then-tile-job c = simp (lt-ltb _ _ c.if-tile-job.true, c.size_of.ensures)

pub returns-else-tile-job : goal.returns-else-tile-job
unfolding sample_test
returns-else-tile-job c = simp (le-ltb _ _ c.if-tile-job.false)
