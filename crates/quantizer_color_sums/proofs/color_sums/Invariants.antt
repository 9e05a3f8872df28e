-- `quantizer_color_sums::color_sums` meets its contract. The loop's invariant: the sums are those after the first i tiles. Assumes nothing.
use Rattle.job.specs.Job.{job_in}
use Rattle.palette_tile.proofs.Walks.{Walked}
use Rattle.quantizer.specs.Sums.{places}
use Rattle.quantizer.specs.Replacing.{shares_in, no_shares, owner_of, spread_step}
use Rattle.quantizer_color_sums.proofs.color_sums.Given as goal

abbrev pub invariant-loop-i : goal.invariant-loop-i
invariant-loop-i l =
    let J = job_in l.job in
    Walked J.T (λ k. spread_step J l.pal (owner_of J l.pal k) k) (no_shares places) (shares_in l.sums) l.i
