-- `assign_tiles::assign_tiles` meets its contract. The invariant: the memory is what the first i tiles leave. Assumes nothing.
use Rattle.job.specs.Job.{job_in}
use Rattle.assign_tiles.specs.Tiles.{tile_memory}
use Rattle.assign_tiles.proofs.Fills.{Filled}
use Rattle.assign_tiles.proofs.assign_tiles.Given as goal

abbrev pub invariant-loop-i : goal.invariant-loop-i
invariant-loop-i l = Filled (job_in l.job) l.palette (tile_memory l.initial.hints l.initial.out) (tile_memory l.hints l.out) l.i
