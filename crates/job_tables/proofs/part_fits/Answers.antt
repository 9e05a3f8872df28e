-- `job_tables::part_fits` meets its contract. The invariant: the counts before i pass, and `done` is their sum. Assumes nothing.
use mathlib.Core.Bool.{not}
use mathlib.Core.Path.{ap}
use native.Mathlib.Omega.{arith}
use Rattle.job_tables.proofs.Walks.{counted_start, counted_fails, counted-room, counted-more, counted_end}
use Rattle.job_tables.proofs.part_fits.Goals as goal

pub loop-count-init : goal.loop-count-init
loop-count-init c = counted_start _ _

pub returns-then-not-count_fits : goal.returns-then-not-count_fits
returns-then-not-count_fits c = counted_fails _ _ _ _ c.loop-count.invariant _ _ c.wide-n.ensures c.count_fits.ensures (ap not c.if-not-count_fits.true) c.loop-count-test.true

pub overflow_add-done : goal.overflow_add-done
overflow_add-done c = omega (arith, counted-room _ _ _ _ c.loop-count.invariant _ _ c.wide-n.ensures c.count_fits.ensures (ap not c.if-not-count_fits.false))

pub loop-count-preserved : goal.loop-count-preserved
loop-count-preserved c = counted-more _ _ _ _ c.loop-count.invariant _ _ c.wide-n.ensures c.count_fits.ensures (ap not c.if-not-count_fits.false)

pub returns : goal.returns
returns c = counted_end _ _ _ _ c.loop-count.invariant c.loop-count.auto.count-index-end c.loop-count-test.false
