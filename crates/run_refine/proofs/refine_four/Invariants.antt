-- `run_refine::refine_four` meets its contract. The invariant: so many refinements are made as the loop has counted. Assumes nothing.
use Rattle.job.specs.Job.{job_in}
use Rattle.run_refine.proofs.Laws.{Refining}
use Rattle.run_refine.proofs.refine_four.Given as goal

abbrev pub invariant-loop : goal.invariant-loop
invariant-loop l = Refining (job_in l.job) l.initial.hints l.initial.palette l.hints l.palette l.counter
