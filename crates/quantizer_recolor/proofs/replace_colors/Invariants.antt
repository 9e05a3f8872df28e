-- `quantizer_recolor::replace_colors` meets its contract. The loop's invariant: a colour is replaced in each of the first i subpalettes. Assumes nothing.
use Rattle.job.specs.Job.{job_in}
use Rattle.quantizer.specs.Replacing.{shares_in}
use Rattle.quantizer_recolor.proofs.Colours.{Recolouring}
use Rattle.quantizer_recolor.proofs.replace_colors.Given as goal

abbrev pub invariant-loop-i : goal.invariant-loop-i
invariant-loop-i l = Recolouring (job_in l.job) l.initial.pal l.pal (shares_in l.sums) l.i
