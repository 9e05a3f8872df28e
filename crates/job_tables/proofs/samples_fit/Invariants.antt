-- `job_tables::samples_fit` meets its contract. The invariant: every sample before i passes. Assumes nothing.
use mathlib.Core.Path.{◌≡◌}
use mathlib.Core.Bool.{true}
use Rattle.job.specs.Checks.{sample_fits}
use Rattle.lists.specs.Every.{every}
use Rattle.job_tables.proofs.samples_fit.Given as goal

abbrev pub invariant-loop-i : goal.invariant-loop-i
invariant-loop-i l = every (sample_fits l.job.tiles.now l.job.sizes.t l.samples) l.i ≡ true
