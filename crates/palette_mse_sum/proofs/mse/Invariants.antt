-- `palette_mse_sum::mse` meets its contract. The loop's invariant: the sum and the hints are those after the first i tiles. Assumes nothing.
use Rattle.job.specs.Job.{job_in}
use Rattle.palette_tile.specs.Tiles.{hint_step}
use Rattle.palette_tile.proofs.Walks.{Walked}
use Rattle.palette_mse.specs.Mse.{tally_step, nothing}
use Rattle.palette_mse_sum.proofs.mse.Given as goal

abbrev pub invariant-loop-i : goal.invariant-loop-i
invariant-loop-i l =
    let J = job_in l.job in
    Walked J.T (tally_step J l.pal l.n l.have) nothing l.sum l.i × Walked J.T (hint_step J l.pal l.n l.have) l.initial.hints l.hints l.i
