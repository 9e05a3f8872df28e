-- `job_limits::check_shapes` meets its contract, return by return. Assumes nothing.
use borrow.Author.Tests.{eq-eqb, ne_eqb}
use Rattle.answer.proofs.Passing.{fails, skips, none}
use Rattle.job_limits.proofs.check_shapes.Goals as goal

pub returns-then-job : goal.returns-then-job
returns-then-job c = fails _ _ (ne_eqb _ _ c.if-job.true)

pub returns-then-job-2 : goal.returns-then-job-2
returns-then-job-2 c = skips _ _ _ (eq-eqb _ _ c.if-job.false) (fails _ _ (ne_eqb _ _ c.if-job-2.true))

pub returns : goal.returns
returns c = skips _ _ _ (eq-eqb _ _ c.if-job.false) (skips _ _ _ (eq-eqb _ _ c.if-job-2.false) none)
