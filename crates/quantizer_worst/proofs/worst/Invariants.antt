-- `quantizer_worst::worst` meets its contract. The loop's invariant: the sums and the hints are those after the first i tiles.
-- The greatest of the sums present is chosen. Assumes nothing.
use Rattle.job.specs.Job.{most_subpalettes, job_in}
use Rattle.palette_tile.specs.Tiles.{hint_step}
use Rattle.palette_tile.proofs.Walks.{Walked}
use Rattle.quantizer.specs.Sums.{zeros}
use Rattle.quantizer.specs.Seeding.{distance_step}
use Rattle.quantizer_worst.proofs.worst.Given as goal

abbrev pub invariant-loop-i : goal.invariant-loop-i
invariant-loop-i l =
    let J = job_in l.job in
    Walked J.T (distance_step J l.pal l.subs) (zeros most_subpalettes) l.distances l.i × Walked J.T (hint_step J l.pal l.subs 1) l.initial.hints l.hints l.i
