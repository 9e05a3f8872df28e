-- `job_tables::tiles_fit` meets its contract. The invariant: the tiles before i pass, and end at `at`. Assumes nothing.
use Rattle.job_tables.proofs.TileWalks.{Tiled}
use Rattle.job_tables.proofs.tiles_fit.Given as goal

abbrev pub invariant-loop-i : goal.invariant-loop-i
invariant-loop-i l = Tiled l.job.sizes.size l.total l.job.tiles.now l.at l.i
