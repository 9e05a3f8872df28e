-- `job_tables::counts_fit` meets its contract. The invariant: the counts of every tile before i pass. Assumes nothing.
use mathlib.Core.Path.{refl, ap}
use mathlib.Core.Bool.{not}
use native.Mathlib.Omega.{arith}
use Rattle.lists.specs.Every.{every}
use Rattle.lists.proofs.Loops.{every_end}
use Rattle.job.specs.Checks.{counts_fit}
use Rattle.job.proofs.Ready.{tile-inside}
use Rattle.job_tables.proofs.Walks.{all-counted_fails, all-counted-more}
use Rattle.job_tables.proofs.counts_fit.Goals as goal

pub loop-i-init : goal.loop-i-init
unfolding every
loop-i-init c = refl

pub counts_part-part-requires : goal.counts_part-part-requires
counts_part-part-requires c = record { listed = omega arith; inside = omega (arith, tile-inside _ _ _ _ c.requires.1 _ c.loop-i-test.true) }

pub returns-then-not-part_fits : goal.returns-then-not-part_fits
returns-then-not-part_fits c = all-counted_fails _ _ _ _ _ _ c.counts_part-part.ensures c.part_fits.ensures _ (ap not c.if-not-part_fits.true) c.loop-i-test.true

pub loop-i-preserved : goal.loop-i-preserved
loop-i-preserved c = all-counted-more _ _ _ _ _ _ c.counts_part-part.ensures c.part_fits.ensures c.loop-i.invariant (ap not c.if-not-part_fits.false)

pub returns : goal.returns
unfolding counts_fit
returns c = every_end _ _ _ c.loop-i.invariant c.loop-i.auto.i-end c.loop-i-test.false
