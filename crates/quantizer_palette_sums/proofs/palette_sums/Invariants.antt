-- `quantizer_palette_sums::palette_sums` meets its contract. The loop's invariant: the sums and the hints are those after the first i tiles. Assumes nothing.
use Rattle.job.specs.Job.{job_in}
use Rattle.quantizer.specs.Replacing.{shares_in}
use Rattle.quantizer_palette_sums.proofs.Pairs.{Pairing}
use Rattle.quantizer_palette_sums.proofs.palette_sums.Given as goal

abbrev pub invariant-loop-i : goal.invariant-loop-i
invariant-loop-i l = Pairing (job_in l.job) l.pal l.initial.hints l.hints (shares_in l.sums) l.i
