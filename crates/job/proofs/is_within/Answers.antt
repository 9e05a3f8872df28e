-- `job::is_within` meets its contract: both comparisons, the first one decided by the branch. Assumes nothing.
use Rattle.job.specs.Checks.{within}
use Rattle.job.proofs.is_within.Goals as goal

pub returns-then-x-limit : goal.returns-then-x-limit
unfolding within
returns-then-x-limit c = simp c.if-x-limit.true

pub returns : goal.returns
unfolding within
returns c = simp c.if-x-limit.false
