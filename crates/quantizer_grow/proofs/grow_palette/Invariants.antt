-- `quantizer_grow::grow_palette` meets its contract. The loop's invariant: each of the first i subpalettes got its colour. Assumes nothing.
use Rattle.job.specs.Job.{job_in}
use Rattle.quantizer_grow.proofs.Splits.{Splitting}
use Rattle.quantizer_grow.proofs.grow_palette.Given as goal

abbrev pub invariant-loop-i : goal.invariant-loop-i
invariant-loop-i l = Splitting (job_in l.job) l.initial.pal l.have l.pal l.i
