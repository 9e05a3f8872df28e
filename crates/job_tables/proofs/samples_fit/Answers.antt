-- `job_tables::samples_fit` meets its contract. The invariant: every sample before i passes. Assumes nothing.
use Rattle.job_tables.proofs.Walks.{sampled_fails, sampled-more}
use mathlib.Core.Path.{refl, ap}
use mathlib.Core.Bool.{not}
use Rattle.job.specs.Checks.{samples_fit}
use Rattle.lists.specs.Every.{every}
use Rattle.lists.proofs.Loops.{every_end}
use Rattle.job_tables.proofs.samples_fit.Goals as goal

pub loop-i-init : goal.loop-i-init
unfolding every
loop-i-init c = refl

pub returns-then-not-sample_fits : goal.returns-then-not-sample_fits
returns-then-not-sample_fits c =
    sampled_fails _ _ _ _ _ _ _ _ c.sample_fits.ensures c.wide.ensures c.wide-in-loop-i.ensures
    (ap not c.if-not-sample_fits.true) c.loop-i-test.true

pub loop-i-preserved : goal.loop-i-preserved
loop-i-preserved c =
    sampled-more _ _ _ _ _ _ _ c.sample_fits.ensures c.wide.ensures
    c.wide-in-loop-i.ensures c.loop-i.invariant (ap not c.if-not-sample_fits.false)

pub returns : goal.returns
unfolding samples_fit
returns c = every_end _ _ _ c.loop-i.invariant c.loop-i.auto.i-end c.loop-i-test.false
