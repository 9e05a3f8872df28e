-- `job_limits::is_among` meets its contract: both tests, the first one decided by the branch. Assumes nothing.
use Rattle.job.specs.Checks.{among}
use borrow.Author.Tests.{le-leb, lt-leb}
use Rattle.job_limits.proofs.is_among.Goals as goal

pub returns-then-x-ge1 : goal.returns-then-x-ge1
unfolding among
returns-then-x-ge1 c = simp (le-leb _ _ c.if-x-ge1.true)

pub returns-else-x-ge1 : goal.returns-else-x-ge1
unfolding among
returns-else-x-ge1 c = simp (lt-leb _ _ c.if-x-ge1.false)
