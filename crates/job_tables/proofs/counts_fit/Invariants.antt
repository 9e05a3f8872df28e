-- `job_tables::counts_fit` meets its contract. The invariant: the counts of every tile before i pass. Assumes nothing.
use mathlib.Core.Path.{◌≡◌}
use mathlib.Core.Bool.{true}
use Rattle.lists.specs.Every.{every}
use Rattle.job.specs.Checks.{tile_counts_fit}
use Rattle.job_tables.proofs.counts_fit.Given as goal

abbrev pub invariant-loop-i : goal.invariant-loop-i
invariant-loop-i l = every (tile_counts_fit l.job.sizes.size l.job.tiles.now l.job.counts.now) l.i ≡ true
