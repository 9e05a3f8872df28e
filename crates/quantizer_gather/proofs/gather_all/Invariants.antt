-- `quantizer_gather::gather_all` meets its contract. The loop's invariant: the sums, the counts and the hints are those after the first i tiles.
-- Assumes nothing.
use Rattle.job.specs.Job.{job_in}
use Rattle.palette_tile.specs.Tiles.{winner, hint_step}
use Rattle.palette_tile.proofs.Walks.{Walked}
use Rattle.quantizer.specs.Refining.{nothing, gather_step}
use Rattle.quantizer_gather.proofs.gather_all.Given as goal

abbrev pub invariant-loop-i : goal.invariant-loop-i
invariant-loop-i l =
    let J = job_in l.job in
    Walked J.T (λ k. gather_step J l.pal (winner J l.pal J.S J.C k) k) nothing l.gathered l.i × Walked J.T (hint_step J l.pal J.S J.C) l.initial.hints l.hints l.i
